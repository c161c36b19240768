-- No field is longer than 16 bits, or 40 for an Unsigned Integer. Callers bound their positions by it.
use mathlib.Core.Path.{◌≡◌}
use Prim.Native.Nat.{ℕ, zero, suc, ◌/◌, ◌%◌, ◌≤◌}
use native.Mathlib.Omega.{arith}
use lib.ListN.{length}
use lib.Dec.{ltb}
use Rattle.spec_fields.specs.Bits.{octets_for}
use Rattle.spec_fields.specs.Field.{Alignment, bit_packed, byte_aligned, little_endian, number_bits, width, choice_bits}
use Rattle.spec_fields.specs.Field.{groups, max_octets, unsigned_bits}
use Rattle.spec_fields.proofs.Tests.{split}
use Rattle.spec_fields.proofs.Number.{length-bits, width-least, length-little}
use Rattle.spec_fields.proofs.Pack.{length-unpack}

pub number-length : (a : Alignment) (n v : ℕ) → n ≤ 16 → length (number_bits a n v) ≤ 16
unfolding number_bits octets_for
number-length bit_packed n v h = rw (length-bits n v) h
number-length byte_aligned n v h =
    rw (length-unpack (little_endian (octets_for n) v), length-little (octets_for n) v) (omega arith)

pub choice-length : (a : Alignment) (m v : ℕ) → m ≤ 65536 → length (choice_bits a m v) ≤ 16
unfolding choice_bits
choice-length a m v h = number-length a (width m) v (width-least m 16 h)

-- Whole octets.
pub unsigned-octets : (v : ℕ) → length (unsigned_bits v) % 8 ≡ 0
unfolding unsigned_bits
unsigned-octets v = omega (arith, length-unpack (groups max_octets v))

groups-length : (k v : ℕ) → length (groups k v) ≤ k
unfolding groups
groups-length zero v = omega arith
groups-length (suc k) v =
    split (ltb v 128) (λ e. rw e (omega arith)) (λ e. rw e (omega (arith, groups-length k (v / 128))))

pub unsigned-length : (v : ℕ) → length (unsigned_bits v) ≤ 40
unfolding unsigned_bits max_octets
unsigned-length v = rw (length-unpack (groups max_octets v)) (omega (arith, groups-length max_octets v))
