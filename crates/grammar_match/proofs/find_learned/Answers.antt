use Rattle.grammar_match.proofs.Found.{found-row}
use Rattle.grammar_match.proofs.Found.{find-asks, found-outside, found-low, found-high}
use Rattle.grammar_match.proofs.find_learned.Goals as goal

pub returns-then-mode-lt-IN_FRAGMENT : goal.returns-then-mode-lt-IN_FRAGMENT
returns-then-mode-lt-IN_FRAGMENT c = found-outside _ _ _ _ c.if-mode-lt-IN_FRAGMENT.true

pub returns-then-kind-lt-SE : goal.returns-then-kind-lt-SE
returns-then-kind-lt-SE c = found-low _ _ _ _ c.if-mode-lt-IN_FRAGMENT.false c.if-kind-lt-SE.true

pub returns-then-kind-gt-CH : goal.returns-then-kind-gt-CH
returns-then-kind-gt-CH c =
    let if1 = c.if-mode-lt-IN_FRAGMENT in
    let if2 = c.if-kind-lt-SE in
    found-high _ _ _ _ if1.false if2.false c.if-kind-gt-CH.true

pub site_in-requires : goal.site_in-requires
site_in-requires c = c.requires.low

pub find-requires : goal.find-requires
find-requires c =
    let args = c.args in
    let pre = c.requires in
    let if3 = c.if-kind-gt-CH in
    find-asks args.mode (pre) if3.false c.site_in.ensures

pub returns : goal.returns
returns c =
    let args = c.args in
    let if1 = c.if-mode-lt-IN_FRAGMENT in
    let if2 = c.if-kind-lt-SE in
    let if3 = c.if-kind-gt-CH in
    let site-in = c.site_in in
    found-row args.mode args.top if1.false if2.false if3.false site-in.ensures
    c.find.ensures
