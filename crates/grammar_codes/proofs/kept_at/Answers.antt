use Rattle.grammar_codes.proofs.Table.{kept-both, kept-comment, kept-instruction}
use Rattle.spec_exi.specs.Grammar.{kind_number}
use Rattle.grammar_codes.specs.Table.{kept_kinds}
use Rattle.grammar_codes.proofs.kept_at.Goals as goal

pub returns-then-instructions : goal.returns-then-instructions
returns-then-instructions c = rw (c.if-comments.true, c.if-instructions.true, c.nth.ensures) (kept-both _)

pub returns-then-comments : goal.returns-then-comments
returns-then-comments c =
    let if1 = c.if-comments in
    let if2 = c.if-instructions in
    rw (if1.true, if2.false, c.nth-then-comments.ensures) (kept-comment _)

pub returns-then-instructions-2 : goal.returns-then-instructions-2
returns-then-instructions-2 c =
    let if1 = c.if-comments in
    let if3 = c.if-instructions-2 in
    rw (if1.false, if3.true, c.nth-then-instructions-2.ensures) (kept-instruction _)

pub returns : goal.returns
unfolding kept_kinds kind_number
returns c = rw (c.if-comments.false, c.if-instructions-2.false)
