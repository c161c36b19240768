use Rattle.std.proofs.lemmas.Result.{err_from_is_err_and}
use Rattle.read_literal.proofs.Laws.{point-plain, point-asks, point-refused, point-not, point-is}
use Rattle.spec_exi.specs.Sizes.{max_stream}
use native.Mathlib.Omega.{arith}
use mathlib.Core.Path.{◌∙◌, refl, sym}
use Rattle.read_literal.proofs.character.Goals as goal

pub returns-in-Some : goal.returns-in-Some
returns-in-Some c = point-plain c.requires c.in-Some.ensures.read c.in-Some.ensures.some

pub overflow_mul-j : goal.overflow_mul-j
unfolding max_stream
overflow_mul-j c = omega (arith, c.requires.inside, c.requires.size)

pub overflow_add-j : goal.overflow_add-j
unfolding max_stream
overflow_add-j c = omega (arith, c.requires.inside, c.requires.size)

pub unsigned_any-requires : goal.unsigned_any-requires
unsigned_any-requires c = point-asks c.requires

pub returns-in_err-field : goal.returns-in_err-field
returns-in_err-field c =
    let p = err_from_is_err_and c.from_residual.result c.from_residual.ensures.1 in
    rw (p.1, p.2) (point-refused c.requires c.in_err-field.ensures refl)

pub returns-then-not-is_char : goal.returns-then-not-is_char
returns-then-not-is_char c =
    point-not c.requires c.in_ok-field.ensures refl (sym c.is_char.ensures ∙ c.if-not-is_char.true)

pub returns : goal.returns
returns c =
    point-is c.requires c.in_ok-field.ensures refl (sym c.is_char.ensures ∙ c.if-not-is_char.false)
