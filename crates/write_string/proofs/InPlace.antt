-- A code point of one octet, put into the two octets that it touches.
use mathlib.Core.Path.{◌≡◌, refl, ap, subst}
use mathlib.Core.Bool.{true, ◌&&◌}
use mathlib.Core.List.{List}
use Prim.Native.Nat.{ℕ, ◌+◌, ◌*◌, ◌-◌, ◌/◌, ◌%◌, ◌^◌, ◌<◌}
use native.Mathlib.Omega.{arith}
use lib.ListN.{length, get_or, set}
use lib.Bits.{bit_and}
use lib.Dec.{ltb}
use borrow.Author.Tests.{ltb-true}
use mir.Syntax.{w8}
use mir.Val.{Fits}
use Rattle.spec_fields.specs.Bits.{bits_of}
use Rattle.spec_fields.specs.Field.{unsigned_bits}
use Rattle.spec_fields.proofs.Tests.{T-is, is_t, left, right}
use Rattle.write_field.specs.Written.{Put, PutPartPre}
use Rattle.write_field.proofs.Written.{put-known, put-length}
use Rattle.write_field.proofs.Octet.{put-inside, cell-fits}
use Rattle.write_field.proofs.Field.{short, FewFit, few-asks, rest-asks, few-two}
use Rattle.write_field.proofs.Unsigned.{unsigned-one}
use Rattle.write_field.proofs.Lengths.{unsigned-octets}
use Rattle.write_string.specs.Fits.{PutCharacterPre}

-- The test before it.
pub is-short : (c n l : ℕ) → ltb c 128 && ltb n l ≡ true → (c < 128) × (n < l)
is-short c n l t =
    let b = is_t (ltb c 128 && ltb n l) t in
    let s = T-is (ltb c 128) (left (ltb c 128) (ltb n l) b) in
    let m = T-is (ltb n l) (right (ltb c 128) (ltb n l) b) in
    (ltb-true c 128 s, ltb-true n l m)

-- The cells with a window of two octets added to them.
abbrev pub one_cell : List ℕ → ℕ → ℕ → List ℕ
one_cell buf j w = set buf j (get_or buf j 0 + w / 256)

abbrev pub two_cells : List ℕ → ℕ → ℕ → List ℕ
two_cells buf j w =
    set (one_cell buf j w) (j + 1) (get_or (one_cell buf j w) (j + 1) 0 + bit_and w 255)

module _ {buf : List ℕ} {j k c : ℕ} (known : (i : ℕ) → Fits w8 (get_or buf i 0))
    (h : PutCharacterPre buf j k c) (small : c < 128) where
  window-is : short (8 * j + k) 8 c ≡ (c * 2 ^ (8 - k)) % 2 ^ 32
  window-is =
      let e : 16 - (8 * j + k) % 8 - 8 ≡ 8 - k = omega (arith, h.inside) in
      ap (λ n. (c * 2 ^ n) % 2 ^ 32) e

  fit : FewFit buf (8 * j + k) 8 c
  fit = (h.blank, omega (arith, h.near), omega arith, omega arith)

  here : (8 * j + k) / 8 ≡ j
  here = omega (arith, h.inside)

  begun : Put buf (8 * j + k) (bits_of (8 - (8 * j + k) % 8) (short (8 * j + k) 8 c / 256))
      (one_cell buf j (short (8 * j + k) 8 c)) (8 * j + 8)
  begun =
      let p : 8 * j + k - (8 * j + k) % 8 + 8 ≡ 8 * j + 8 = omega (arith, h.inside) in
      rw (here, p) at (put-inside known (few-asks buf fit) refl)

  more-asks : PutPartPre (one_cell buf j (short (8 * j + k) 8 c)) (8 * j + 8)
      (8 - (8 * j + 8) % 8) (bit_and (short (8 * j + k) 8 c) 255)
  more-asks = rest-asks buf fit begun

  there : (8 * j + 8) / 8 ≡ j + 1
  there = omega arith

  ended : Put (one_cell buf j (short (8 * j + k) 8 c)) (8 * j + 8)
      (bits_of (8 - (8 * j + 8) % 8) (bit_and (short (8 * j + k) 8 c) 255))
      (two_cells buf j (short (8 * j + k) 8 c)) (8 * j + 8 - (8 * j + 8) % 8 + 8)
  ended = rw there at (put-inside (put-known begun) more-asks refl)

  pub in_place : Put buf (8 * j + k) (unsigned_bits c)
      (two_cells buf j ((c * 2 ^ (8 - k)) % 2 ^ 32)) (8 * (j + 1) + k)
  in_place =
      let p : 8 * (j + 1) + k ≡ 8 * j + k + 8 = omega arith in
      let w = subst
      (λ w. Put buf (8 * j + k) (bits_of 8 c) (two_cells buf j w) (8 * j + k + 8)) window-is
      (few-two buf fit begun ended (put-known ended)) in
      rw (unsigned-one c small, p) w

  module _ (room : j + 1 < length buf) where
    pub high_fits : get_or buf j 0 + (c * 2 ^ (8 - k)) % 2 ^ 32 / 256 < 256
    high_fits =
        let l : (8 * j + k) / 8 < length buf = omega (arith, here) in
        subst (λ w. get_or buf j 0 + w / 256 < 256) window-is
        (rw here at (cell-fits known (few-asks buf fit) refl l))

    pub low_fits : get_or (one_cell buf j ((c * 2 ^ (8 - k)) % 2 ^ 32)) (j + 1) 0
        + bit_and ((c * 2 ^ (8 - k)) % 2 ^ 32) 255 < 256
    low_fits =
        let one = one_cell buf j (short (8 * j + k) 8 c) in
        let l : (8 * j + 8) / 8 < length one = omega (arith, there, put-length begun) in
        subst (λ w. get_or (one_cell buf j w) (j + 1) 0 + bit_and w 255 < 256) window-is
        (rw there at (cell-fits (put-known begun) more-asks refl l))

-- Whole octets later it is the same bit of an octet.
pub later : {buf after : List ℕ} {j k c next : ℕ} → PutCharacterPre buf j k c
    → Put buf (8 * j + k) (unsigned_bits c) after next
    → Put buf (8 * j + k) (unsigned_bits c) after (8 * (next / 8) + k)
later {k = k} {c = c} {next = next} h p =
    let e : 8 * (next / 8) + k ≡ next = omega (arith, h.inside, p.next, unsigned-octets c) in
    rw e p
