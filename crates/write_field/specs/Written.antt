-- A field written into lent octets at a bit position. Where the room ends storing stops, and the
-- position goes on.
use Rattle.std.specs.Prelude.{◌≡◌, ℕ, ◌+◌, ◌-◌, ◌^◌, ◌≤◌, ◌<◌, Bool, List, ◌++◌, length, take, drop, T}
use Rattle.spec_fields.specs.Bits.{Bits, unpack, octets_from, all_zero}
use Rattle.spec_fields.specs.Field.{max_unsigned}
unfoldable pub use Rattle.read_field.specs.View.{alignment_of}
pub use Rattle.read_field.specs.View.{farthest}

-- The octets of buf with the bits w from bit `at` on and zeros behind them. Bits past the end of
-- buf are dropped.
unfoldable pub written : List ℕ → ℕ → Bits → List ℕ
written buf at w = octets_from (length buf) (take at (unpack buf) ++ w)

-- No bit from bit `at` on is set.
unfoldable pub blank_from : List ℕ → ℕ → Bool
blank_from buf at = all_zero (drop at (unpack buf))

-- What a function leaves that wrote w at bit `at`: the octets, and the position after w.
pub record Put (buf : List ℕ) (at : ℕ) (w : Bits) (after : List ℕ) (r : ℕ) : Type 0 where
  pub octets : after ≡ written buf at w
  pub next : r ≡ at + length w

-- ---- what each function asks: octets that are blank from bit `at` on, a position that is not too
-- far, and a number of the field

pub record PutNumberPre (buf : List ℕ) (at n v : ℕ) : Type 0 where
  pub blank : T (blank_from buf at)
  pub near : at ≤ farthest
  pub narrow : n ≤ 16
  pub fits : v < 2 ^ n

pub record PutChoicePre (buf : List ℕ) (at m v : ℕ) : Type 0 where
  pub blank : T (blank_from buf at)
  pub near : at ≤ farthest
  pub few : m ≤ 65536
  -- among none it is 0, in no bits
  pub one : v ≤ m - 1

pub record PutUnsignedPre (buf : List ℕ) (at v : ℕ) : Type 0 where
  pub blank : T (blank_from buf at)
  pub near : at ≤ farthest
  pub small : v ≤ max_unsigned

-- At most an octet, at a position that a field was begun before.
pub record PutPartPre (buf : List ℕ) (at n v : ℕ) : Type 0 where
  pub blank : T (blank_from buf at)
  pub near : at ≤ farthest + 64
  pub narrow : n ≤ 8
  pub fits : v < 2 ^ n
