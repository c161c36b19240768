use Rattle.grammar_codes.specs.Table.{kept_kinds}
use Rattle.grammar_codes.proofs.kept_count.Goals as goal

pub returns-then-instructions : goal.returns-then-instructions
unfolding kept_kinds
returns-then-instructions c = rw (c.if-comments.true, c.if-instructions.true)

pub returns-then-comments : goal.returns-then-comments
unfolding kept_kinds
returns-then-comments c = rw (c.if-comments.true, c.if-instructions.false)

pub returns-then-instructions-2 : goal.returns-then-instructions-2
unfolding kept_kinds
returns-then-instructions-2 c = rw (c.if-comments.false, c.if-instructions-2.true)

pub returns : goal.returns
unfolding kept_kinds
returns c = rw (c.if-comments.false, c.if-instructions-2.false)
