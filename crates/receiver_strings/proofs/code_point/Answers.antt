use mathlib.Core.Path.{◌∙◌, refl, sym}
use borrow.Author.Tests.{not-true, not-false}
use Rattle.std.proofs.lemmas.Result.{err_from_is_err_and}
use Rattle.receiver_strings.proofs.Points.{spot-asks, point-refused, point-not, point-is}
use Rattle.receiver_strings.proofs.code_point.Goals as goal

-- `code_point` meets its contract.
pub unsigned-requires : goal.unsigned-requires
unsigned-requires c = spot-asks c.requires

pub returns-in_err-field : goal.returns-in_err-field
returns-in_err-field c =
    let p = err_from_is_err_and c.from_residual.result c.from_residual.ensures.1 in
    rw (p.1, p.2) (point-refused c.requires c.in_err-field.ensures refl)

pub returns-then-not-is_char : goal.returns-then-not-is_char
returns-then-not-is_char c =
    point-not c.requires c.in_ok-field.ensures refl
    (sym c.is_char.ensures ∙ not-true _ c.if-not-is_char.true-raw)

pub returns : goal.returns
returns c =
    point-is c.requires c.in_ok-field.ensures refl
    (sym c.is_char.ensures ∙ not-false _ c.if-not-is_char.false-raw)
