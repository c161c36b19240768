use mathlib.Core.Path.{sym}
use Rattle.std.proofs.lemmas.Result.{err_from_is_err_and}
use Rattle.read_production.proofs.Parts.{part-refused, part_none, part-value}
use Rattle.read_production.proofs.read_part.Goals as goal

pub returns-in_err-part : goal.returns-in_err-part
returns-in_err-part c =
    let p = err_from_is_err_and c.from_residual.result c.from_residual.ensures.1 in
    rw (p.1, p.2) (part-refused _ _ _ _ c.requires.there.place (sym c.in_err-part.ensures))

pub returns-then-among-part : goal.returns-then-among-part
returns-then-among-part c =
    part_none _ _ _ _ c.requires.there.place (sym c.in_ok-part.ensures) c.if-among-part.true

pub returns : goal.returns
returns c =
    part-value _ _ _ _ c.requires.there.place (sym c.in_ok-part.ensures) c.if-among-part.false
