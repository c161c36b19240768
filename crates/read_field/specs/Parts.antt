-- What the readers are made of: an octet, a few bits, the rest of an Unsigned Integer.
use Rattle.std.specs.Prelude.{ℕ, ◌+◌, ◌*◌, ◌≤◌, ◌<◌, ◌≡◌, Bool, true, false, ◌&&◌, List, ◌++◌, length, take, drop, replicate, get_or, leb, ltb}
use Rattle.spec_fields.specs.Bits.{Bits, value_of, unpack}
use Rattle.spec_fields.specs.Refusal.{number}
use Rattle.spec_fields.specs.Parser.{Parser, return, need, ◌>>=◌, ◌>>◌}
use Rattle.spec_fields.specs.Field.{grouped, max_unsigned, width}
use Rattle.read_field.specs.View.{InStream}

-- The number of the next n bits, zeros standing for bits past the end.
unfoldable pub ahead : ℕ → Bits → ℕ
ahead n bs = value_of (take n (bs ++ replicate n false))

-- The octet at index i, zero past the end.
pub record Octet (s : List ℕ) (i o : ℕ) : Type 0 where
  pub is : o ≡ get_or s i 0
  pub small : o < 256

-- The number of the 8 bits at a position.
pub record Peeked (s : List ℕ) (at x : ℕ) : Type 0 where
  pub is : x ≡ ahead 8 (drop at (unpack s))
  pub small : x < 256

-- One to eight bits at a position.
pub record FewBitsPre (s : List ℕ) (at n : ℕ) : Type 0 where
  pub there : InStream s at
  pub some : 0 < n
  pub most : n ≤ 8

-- The same, and the stream has them.
pub record OctetInPre (s : List ℕ) (at n : ℕ) : Type 0 where
  pub few : FewBitsPre s at n
  pub inside : at + n ≤ 8 * length s

-- One to sixteen bits at a position, which the stream has.
pub record CutBitsPre (s : List ℕ) (at n : ℕ) : Type 0 where
  pub there : InStream s at
  pub some : 0 < n
  pub most : n ≤ 16
  pub inside : at + n ≤ 8 * length s

-- The bits of a choice among m, where byte-aligned it takes so many.
unfoldable pub taken : ℕ → Bool → ℕ → ℕ
taken whole true m = whole
taken whole false m = width m

-- The bits of a choice among two to 256: byte-aligned an octet.
abbrev pub few : Bool → ℕ → ℕ
few aligned m = taken 8 aligned m

-- Those of a choice among more: byte-aligned two octets.
abbrev pub broad : Bool → ℕ → ℕ
broad aligned m = taken 16 aligned m

-- An Unsigned Integer after groups that come to `low`: at most k more octets, the next group of
-- this weight.
unfoldable pub onward : ℕ → ℕ → ℕ → Parser ℕ
onward k weight low = do
  (high, fewest) ← grouped k
  need (leb (low + weight * high) max_unsigned && (fewest && ltb 0 high)) number
  return (low + weight * high)
