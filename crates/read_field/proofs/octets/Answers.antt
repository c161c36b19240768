use mathlib.Core.Path.{sym, ◌∙◌}
use native.Mathlib.Omega.{arith}
use Rattle.std.proofs.lemmas.Result.{err_from_is_err_and}
use Rattle.read_field.proofs.Numbers.{octets-no, octets-one, octets-none}
use Rattle.read_field.proofs.Numbers.{two-small, octets-found}
use Rattle.read_field.proofs.octets.Goals as goal

-- `read_field::octets` meets its contract: none, eight bits, or sixteen exchanged.
pub returns-then-n-eq0 : goal.returns-then-n-eq0
returns-then-n-eq0 c = octets-no _ _ c.if-n-eq0.true c.requires.there

pub returns-then-n-le8 : goal.returns-then-n-le8
returns-then-n-le8 c =
    c.few_bits.ensures ∙ octets-one _ _ _ (omega arith) c.if-n-le8.true c.requires.there

pub exchanged-requires : goal.exchanged-requires
exchanged-requires c = two-small _ _ c.requires.there (sym c.in_ok-pair.ensures)

pub returns-in_err-pair : goal.returns-in_err-pair
returns-in_err-pair c =
    let p = err_from_is_err_and c.from_residual.result c.from_residual.ensures.1 in
    rw (p.1, p.2)
    (octets-none _ _ c.requires.there (sym c.in_err-pair.ensures) _ (omega arith))

pub returns : goal.returns
returns c =
    octets-found _ _ c.requires.there (sym c.in_ok-pair.ensures) _ (omega arith) c.exchanged.ensures
