-- The bits of a string by a partition (EXI 7.3.3), as cells give them.
use Rattle.std.specs.Prelude.{ℕ, ◌+◌, ◌≤◌, List, ◌++◌, T}
use Rattle.spec_fields.specs.Bits.{Bits}
use Rattle.spec_fields.specs.Field.{Alignment, unsigned_bits, choice_bits}
use Rattle.mem_chain.specs.Chain.{below}
use Rattle.write_field.specs.Written.{blank_from, farthest}

-- A hit: the partition's number, then a choice among its entries.
unfoldable pub hit_bits : Alignment → ℕ → ℕ → ℕ → Bits
hit_bits a partition among id = unsigned_bits partition ++ choice_bits a among (below among id)

pub record HitPre (stream : List ℕ) (at partition among : ℕ) : Type 0 where
  pub blank : T (blank_from stream at)
  pub near : at + 64 ≤ farthest
  pub which : partition ≤ 1
  pub few : among ≤ 65536
