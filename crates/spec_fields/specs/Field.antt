-- The fields that streams are made of, each as its bits and as its parser.
use Rattle.std.specs.Prelude.{◌+◌, ◌*◌, ◌-◌, ◌/◌, ◌%◌, ◌^◌, ◌&&◌, ◌∷◌}
use Rattle.spec_fields.specs.Prelude.{ℕ, zero, suc, Bool, true}
use Rattle.spec_fields.specs.Prelude.{cond, List, [], length, get_elem?, leb, ltb}
use Rattle.spec_fields.specs.Bits.{Bits, bits_of, value_of, unpack, octets_for}
use Rattle.spec_fields.specs.Refusal.{Refusal, ended, number}
use Rattle.spec_fields.specs.Parser.{bad, got, Parser, return, fail, present, need, times}
use Rattle.spec_fields.specs.Parser.{◌>>=◌, ◌>>◌}

-- The two alignments of the scope (EXI 5.4, "alignment"; scope, "What is bought").
pub data Alignment : Type 0 where
  bit_packed byte_aligned : Alignment

-- ---- bits and octets

-- One bit; where there is none, the input ends inside a field: ENDED (scope, "Refusal numbers", 5).
unfoldable pub bit : Parser Bool
bit [] = bad ended
bit (b ∷ bs) = got b bs

-- Eight bits, most significant first (EXI 7.1).
unfoldable pub octet : Parser ℕ
octet = do
  bs ← times 8 bit
  return (value_of bs)

-- ---- n-bit Unsigned Integer (EXI 7.1.9): n bits, most significant first; byte-aligned the fewest
-- octets that hold n bits, least significant octet first

-- The k lowest octets of v, least significant first (EXI 7.1.9).
unfoldable pub little_endian : ℕ → ℕ → List ℕ
little_endian zero v = []
little_endian (suc k) v = v % 256 ∷ little_endian k (v / 256)

-- The number whose octets these are.
unfoldable pub little_value : List ℕ → ℕ
little_value [] = 0
little_value (o ∷ os) = o + 256 * little_value os

-- The field of v in n bits (EXI 7.1.9).
unfoldable pub number_bits : Alignment → ℕ → ℕ → Bits
number_bits bit_packed n v = bits_of n v
number_bits byte_aligned n v = unpack (little_endian (octets_for n) v)

-- Reads a field of n bits (EXI 7.1.9). Byte-aligned, all bits of its octets are the number.
unfoldable pub number_field : Alignment → ℕ → Parser ℕ
number_field bit_packed n = do
  bs ← times n bit
  return (value_of bs)
number_field byte_aligned n = do
  os ← times (octets_for n) octet
  return (little_value os)

-- ---- a choice among m (scope, "Fields"): n bits, where n is the smallest with 2 ^ n at least m

-- The first of n, n + 1, .. that is wide enough, at most k steps up.
unfoldable pub width_from : ℕ → ℕ → ℕ → ℕ
width_from zero n m = n
width_from (suc k) n m = let wider = width_from k (suc n) m in cond (leb m (2 ^ n)) n wider

-- The width of a choice among m (EXI 6.2: the logarithm of m, rounded up; scope, "Fields").
unfoldable pub width : ℕ → ℕ
width m = width_from m 0 m

-- The field of the choice v among m.
unfoldable pub choice_bits : Alignment → ℕ → ℕ → Bits
choice_bits a m v = number_bits a (width m) v

-- A choice among the members of a list: the number and the member; k where the number names none
-- (scope, "Refusal numbers": CODE or REFERENCE).
unfoldable pub choice : {A : Type 0} → Alignment → Refusal → List A → Parser (ℕ × A)
choice a k l = do
  v ← number_field a (width (length l))
  x ← present k (get_elem? l v)
  return (v, x)

-- ---- Unsigned Integer (EXI 7.1.6; scope, "Fields"): 7 bits an octet, least significant group
-- first, the top bit set on all but the last; at most 5 octets, and a number up to 2,147,483,647
-- (scope, "Refusal numbers", 7)

-- Octets of an Unsigned Integer, at most (scope, "Refusal numbers", 7).
unfoldable pub max_octets : ℕ
max_octets = 5

-- The largest Unsigned Integer: 2 ^ 31 - 1 (EXI 7.1.6; scope, "Refusal numbers", 7).
unfoldable pub max_unsigned : ℕ
max_unsigned = 2147483647

-- The octets of v, at most k: enough where v is below 128 ^ k.
unfoldable pub groups : ℕ → ℕ → List ℕ
groups zero v = []
groups (suc k) v = let more = (v % 128 + 128) ∷ groups k (v / 128) in cond (ltb v 128) (v ∷ []) more

-- An Unsigned Integer in fewest octets (EXI 7.1.6).
unfoldable pub unsigned_bits : ℕ → Bits
unsigned_bits v = unpack (groups max_octets v)

-- At most k more octets: the number, and whether it is in fewest octets. (It is not where the
-- groups after this one are all zero.)
unfoldable pub grouped : ℕ → Parser (ℕ × Bool)
grouped zero = fail number
grouped (suc k) = do
  o ← octet
  let more : Parser (ℕ × Bool) = do
    (high, fewest) ← grouped k
    return ((o - 128) + 128 * high, fewest && ltb 0 high)
  cond (ltb o 128) (return (o, true)) more

-- A number that is too large, or not in fewest octets, is NUMBER (scope, "Refusal numbers", 7).
unfoldable pub unsigned : Parser ℕ
unsigned = do
  (v, fewest) ← grouped max_octets
  need (leb v max_unsigned && fewest) number
  return v
