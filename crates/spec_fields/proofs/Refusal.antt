-- The numbers of refusals.
use Prim.Native.Nat.{◌<◌}
use native.Mathlib.Omega.{arith}
use mathlib.Core.Path.{refl}
use Rattle.spec_fields.specs.Refusal.{Refusal, number_of, Numbered, room, settings, long}
use Rattle.spec_fields.specs.Refusal.{header, ended, code}
use Rattle.spec_fields.specs.Refusal.{number, character, reference, loose, name, limit, tail}
use Rattle.spec_fields.specs.Refusal.{shape, place}

-- The scope's numbers.
pub numbered : Numbered
unfolding number_of
numbered = record { numbers = refl }

-- No refusal has the number 0.
pub refusal-number : (k : Refusal) → 0 < number_of k
unfolding number_of
refusal-number k =
    elim k as (λ k. 0 < number_of k) [
      | room ↦ omega arith
      | settings ↦ omega arith
      | long ↦ omega arith
      | header ↦ omega arith
      | ended ↦ omega arith
      | code ↦ omega arith
      | number ↦ omega arith
      | character ↦ omega arith
      | reference ↦ omega arith
      | loose ↦ omega arith
      | name ↦ omega arith
      | limit ↦ omega arith
      | tail ↦ omega arith
      | shape ↦ omega arith
      | place ↦ omega arith
    ]
