use Rattle.mem_values.proofs.Formed.{formed-absent, formed-local, formed-global}
use native.Mathlib.Omega.{arith}
use mathlib.Core.Path.{refl}
use Rattle.mem_values.proofs.form_of.Goals as goal

-- `form_of` meets its contract.
pub returns-in_default : goal.returns-in_default
returns-in_default c = formed-absent _ _ refl c.in_default.ensures

pub returns-then-mine-owner : goal.returns-then-mine-owner
returns-then-mine-owner c =
    formed-local _ _ refl c.in-Some.ensures c.value_at-v.ensures c.if-mine-owner.true

pub global_number-requires : goal.global_number-requires
global_number-requires c =
    record {
      few = c.requires.few;
      some = c.requires.some;
      new = c.requires.new;
      from = omega (arith, c.in-Some.ensures.above (omega arith));
      to = omega (arith, c.in-Some.ensures.within);
    }

pub returns : goal.returns
returns c =
    formed-global _ _ refl c.in-Some.ensures c.value_at-v.ensures c.requires.few
    c.requires.some c.requires.new c.if-mine-owner.false _ c.global_number.ensures
