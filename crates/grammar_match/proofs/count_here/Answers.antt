use Rattle.grammar_match.proofs.Here.{count-asks, count-outside, count-inside}
use borrow.Author.Rules.{rules}
use Rattle.grammar_match.proofs.count_here.Goals as goal

pub returns-then-mode-lt-IN_FRAGMENT : goal.returns-then-mode-lt-IN_FRAGMENT
returns-then-mode-lt-IN_FRAGMENT c = count-outside c.if-mode-lt-IN_FRAGMENT.true

pub count_at-requires : goal.count_at-requires
count_at-requires c =
    let args = c.args in
    let pre = c.requires in
    count-asks args.mode (pre) c.site_in.ensures

pub returns : goal.returns
returns c =
    let if1 = c.if-mode-lt-IN_FRAGMENT in
    let site-in = c.site_in in
    count-inside if1.false site-in.ensures c.count_at.ensures
