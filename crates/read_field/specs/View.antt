-- What stands at a bit position of a stream: a parser's result, with the bits that are left as the
-- position that they begin at.
use Rattle.std.specs.Prelude.{ℕ, ◌*◌, ◌-◌, ◌≤◌, Bool, true, false, List, length, drop}
use Rattle.spec_fields.specs.Bits.{unpack}
use Rattle.spec_fields.specs.Refusal.{number_of}
use Rattle.spec_fields.specs.Parser.{Result, bad, got, Parser}
use Rattle.spec_fields.specs.Field.{Alignment, bit_packed, byte_aligned}
use Rattle.std.specs.Prelude as std
use Rattle.refusal.specs.declared.Refusal as code
use Rattle.refusal.specs.Numbers.{number_in}
use Rattle.read_field.specs.declared.Field.{Field}

-- What stands at a position: a number and the position after it, or the number of a refusal.
pub data Seen : Type 0 where
  Value : ℕ → ℕ → Seen
  Refused : ℕ → Seen

-- What a function that reads a field found.
abbrev pub view : std.Result Field code.Refusal → Seen
view (std.Ok f) = Value f.value f.next
view (std.Err k) = Refused (number_in k)

-- A result over a stream of `total` bits: the value and the position after it, or the refusal's
-- number.
unfoldable pub view_of : ℕ → Result ℕ → Seen
view_of total (bad k) = Refused (number_of k)
view_of total (got v rest) = Value v (total - length rest)

-- What the parser finds at bit `at` of the stream s.
unfoldable pub field_at : Parser ℕ → List ℕ → ℕ → Seen
field_at p s at = view_of (8 * length s) (p (drop at (unpack s)))

unfoldable pub alignment_of : Bool → Alignment
alignment_of true = byte_aligned
alignment_of false = bit_packed

-- The last position, far behind every stream and buffer: what is added to it fits a usize.
abbrev pub farthest : ℕ
farthest = 4294967296

-- A bit position in a stream or at its end.
pub record InStream (s : List ℕ) (at : ℕ) : Type 0 where
  pub size : 8 * length s ≤ farthest
  pub place : at ≤ 8 * length s

-- The same, with a number up to `most`.
pub record NumberPre (s : List ℕ) (at n most : ℕ) : Type 0 where
  pub there : InStream s at
  pub small : n ≤ most
