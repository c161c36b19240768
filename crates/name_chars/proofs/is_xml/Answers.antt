use Rattle.name_chars.proofs.Rest.{other_length, xml-letters}
use Rattle.text.specs.Names.{is_letter}
use native.Mathlib.Omega.{arith}
use mathlib.Core.Path.{sym}
use Rattle.name_chars.proofs.is_xml.Goals as goal

-- `is_xml` meets its contract, letter by letter.
pub returns-in_default : goal.returns-in_default
returns-in_default c = other_length _ (λ e. omega (arith, e, c.in_default.len_below))

pub returns-in_default-2 : goal.returns-in_default-2
returns-in_default-2 c = other_length _ (λ e. omega (arith, e, c.in_default.len_at_least))

pub returns : goal.returns
unfolding is_letter
returns c =
    rw (c.is_either.ensures, c.is_either-2.ensures, c.is_either-3.ensures)
    (sym (xml-letters c.args.x.now (omega arith)))
