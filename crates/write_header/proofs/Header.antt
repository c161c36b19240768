-- The header's bits, octet by octet.
use mathlib.Core.Path.{◌≡◌}
use Prim.Native.Nat.{ℕ, ◌%◌, ◌<◌, ◌≤◌}
use native.Mathlib.Omega.{arith}
use mathlib.Core.Bool.{true, false}
use mathlib.Core.List.{List, [], ◌∷◌, ◌++◌}
use lib.ListN.{length}
use Rattle.spec_fields.specs.Bits.{unpack, octets_for}
use Rattle.spec_fields.specs.Field.{little_endian, number_bits}
use Rattle.spec_fields.proofs.Pack.{length-unpack, unpack-append}
use Rattle.spec_exi.specs.Settings.{Settings, header_of}
use Rattle.read_field.specs.View.{alignment_of}
use Rattle.write_field.specs.Written.{Put, PutNumberPre}
use Rattle.write_field.proofs.Written.{put_then, put-blank}
use Rattle.write_header.specs.Header.{CookiePut, HeaderPut}

-- An octet's bits.
octet-bits : (o : ℕ) → o < 256 → number_bits (alignment_of true) 8 o ≡ unpack (o ∷ [])
unfolding number_bits alignment_of little_endian octets_for
octet-bits o b = let e : o % 256 ≡ o = omega arith in rw e

-- An octet at the start, and one behind others.
pub octet-first : {stream after : List ℕ} {r : ℕ} (o : ℕ) → o < 256
    → Put stream 0 (number_bits (alignment_of true) 8 o) after r
    → Put stream 0 (unpack (o ∷ [])) after r
octet-first o b p = rw (octet-bits o b) at p

pub octet-next : {stream mid after : List ℕ} {p r : ℕ} (os : List ℕ) (o : ℕ) → o < 256 → Put stream 0 (unpack os) mid p
    → Put mid p (number_bits (alignment_of true) 8 o) after r → Put stream 0 (unpack (os ++ o ∷ [])) after r
octet-next os o b p q = rw (unpack-append os (o ∷ [])) (put_then p (rw (octet-bits o b) at q))

-- What writing an octet behind others asks.
pub octet-asks : {stream mid : List ℕ} {p : ℕ} (os : List ℕ) (o : ℕ) → o < 256 → length os ≤ 8
    → Put stream 0 (unpack os) mid p → PutNumberPre mid p 8 o
octet-asks os o b l p =
    record {
      blank = put-blank p;
      near = omega (arith, p.next, length-unpack os);
      narrow = omega arith;
      fits = omega arith;
    }

-- ---- the whole

pub header-plain : {stream after : List ℕ} {r : ℕ} (s : Settings) → s.cookie ≡ false
    → Put stream 0 (number_bits (alignment_of true) 8 128) after r
    → HeaderPut s stream after r
unfolding header_of
header-plain s e p = rw e (octet-first 128 (omega arith) p)

pub header-cookie : {stream mid after : List ℕ} {at r : ℕ} (s : Settings) → s.cookie ≡ true → CookiePut stream mid at
    → Put mid at (number_bits (alignment_of true) 8 128) after r → HeaderPut s stream after r
unfolding header_of
header-cookie s e p q = rw e (octet-next (0x24 ∷ 0x45 ∷ 0x58 ∷ 0x49 ∷ []) 128 (omega arith) p q)
