use Rattle.name_chars.proofs.Rest.{no_name, first-stop, first_on, name-end, name-stop, name-on}
use Rattle.text.specs.Names.{in_range, in_ranges, start_ranges, further_ranges, is_name_start, is_name_char}
use Rattle.name_chars.specs.Class.{class_of, classes, table}
use native.Mathlib.Omega.{arith}
use mathlib.Core.Path.{refl, sym, ◌∙◌}
use Rattle.name_chars.proofs.is_ncname.Goals as goal

-- `is_ncname` meets its contract.
pub returns-in_default : goal.returns-in_default
returns-in_default c = no_name _ (omega (arith, c.in_default.len_below))

pub is_name_start-requires : goal.is_name_start-requires
unfolding table classes class_of is_name_start is_name_char in_ranges in_range start_ranges further_ranges
is_name_start-requires c = refl

pub returns-then-not-is_name_start : goal.returns-then-not-is_name_start
returns-then-not-is_name_start c =
    first-stop _ (sym c.is_name_start.ensures ∙ c.if-not-is_name_start.true)

pub loop-p-init : goal.loop-p-init
loop-p-init c =
    first_on _ (omega arith) (sym c.is_name_start.ensures ∙ c.if-not-is_name_start.false)

pub is_name_char-requires : goal.is_name_char-requires
unfolding table classes class_of is_name_start is_name_char in_ranges in_range start_ranges further_ranges
is_name_char-requires c = refl

pub returns-then-not-is_name_char : goal.returns-then-not-is_name_char
returns-then-not-is_name_char c =
    name-stop _ _ c.loop-p-test.true (sym c.is_name_char.ensures ∙ c.if-not-is_name_char.true)
    ∙ c.loop-p.invariant

pub loop-p-preserved : goal.loop-p-preserved
loop-p-preserved c =
    name-on _ _ c.loop-p-test.true (sym c.is_name_char.ensures ∙ c.if-not-is_name_char.false)
    ∙ c.loop-p.invariant

pub returns : goal.returns
returns c = name-end _ _ c.loop-p-test.false ∙ c.loop-p.invariant
