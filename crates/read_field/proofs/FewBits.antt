-- The field of a choice among few: no bits, or one to eight.
use mathlib.Core.Path.{◌≡◌, refl, sym, ap, subst, ◌∙◌}
use mathlib.Core.Bool.{Bool, true, false}
use mathlib.Core.List.{List}
use lib.ListN.{length}
use lib.Dec.{leb}
use lib.Pow.{pow_mono}
use borrow.Author.Tests.{leb-true, leb-false}
use Prim.Native.Nat.{ℕ, zero, suc, ◌+◌, ◌*◌, ◌/◌, ◌%◌, ◌^◌, ◌≤◌, ◌<◌}
use native.Mathlib.Omega.{arith}
use Rattle.spec_fields.specs.Field.{bit_packed, number_field, width}
use Rattle.spec_fields.proofs.Tests.{split}
use Rattle.spec_fields.proofs.Number.{width-enough, width-least}
use Rattle.read_field.specs.View.{Seen}
use Rattle.read_field.specs.View.{Value, Refused}
use Rattle.read_field.specs.View.{field_at, alignment_of, InStream}
use Rattle.read_field.specs.Parts.{FewBitsPre, few, broad, taken}
use Rattle.read_field.proofs.Numbers.{bits_none, octets-no, octets-one, bits-past}
use Rattle.read_field.proofs.Numbers.{octets-none, two-small, octets-found}

pub width-none : (m : ℕ) → m ≤ 1 → width m ≡ 0
width-none m h = omega (arith, width-least m 0 h)

pub width_some : (m : ℕ) → 1 < m → 0 < width m
width_some m h = go (width m) (width-enough m)
  where
    go : (n : ℕ) → m ≤ 2 ^ n → 0 < n
    go zero e = omega arith
    go (suc n) e = omega arith

module _ {s : List ℕ} {at m : ℕ} (h : InStream s at) where
  pub choice-none : m ≤ 1 → (aligned : Bool)
      → Value 0 at ≡ field_at (number_field (alignment_of aligned) (width m)) s at
  unfolding alignment_of
  choice-none l true = octets-no s at (width-none m l) h
  choice-none l false =
      let e : at + width m ≡ at = omega (arith, width-none m l) in
      rw e at (bits_none s at (width-none m l) (omega (arith, h.place)))

  module _ (some : 1 < m) (l : m ≤ 256) where
    pub few-in : (aligned : Bool) → FewBitsPre s at (few aligned m)
    unfolding taken
    few-in true = record { there = h; some = omega arith; most = omega arith }
    few-in false = record { there = h; some = width_some m some; most = width-least m 8 l }

    pub few-same : (aligned : Bool)
        → field_at (number_field bit_packed (few aligned m)) s at
        ≡ field_at (number_field (alignment_of aligned) (width m)) s at
    unfolding taken alignment_of
    few-same true = octets-one s at (width m) (width_some m some) (width-least m 8 l) h
    few-same false = refl

-- ---- a choice among more than 256

module _ {s : List ℕ} {at m : ℕ} (h : InStream s at) (big : 256 < m) (l : m ≤ 65536) where
  over : 8 < width m
  over =
      split (leb (width m) 8)
      (λ e. absurd (omega (arith, width-enough m, pow_mono (leb-true (width m) 8 e))))
      (λ e. leb-false (width m) 8 e)

  two : (width m + 7) / 8 ≡ 2
  two = omega (arith, over, width-least m 16 l)

  abbrev found : Bool → Seen
  found aligned = field_at (number_field (alignment_of aligned) (width m)) s at

  pub many-bits : (aligned : Bool) {n : ℕ} → n ≡ broad aligned m → (0 < n) × (n ≤ 16)
  unfolding taken
  many-bits true e = (omega (arith, e), omega (arith, e))
  many-bits false e = (omega (arith, e, over), omega (arith, e, width-least m 16 l))

  pub many-past : (aligned : Bool) {n : ℕ} → n ≡ broad aligned m → 8 * length s < at + n
      → Refused 5 ≡ found aligned
  unfolding taken alignment_of
  many-past true e p =
      octets-none s at h (sym (bits-past s at 16 h (omega (arith, e, p)))) (width m) two
  many-past false e p = bits-past s at (width m) h (omega (arith, e, p))

  module _ {n x : ℕ} (cut : field_at (number_field bit_packed n) s at ≡ Value x (at + n)) where
    sixteen : {aligned : Bool} → n ≡ broad aligned m → aligned ≡ true
        → field_at (number_field bit_packed 16) s at ≡ Value x (at + n)
    unfolding taken
    sixteen e t =
        subst (λ k. field_at (number_field bit_packed k) s at ≡ Value x (at + n))
        (e ∙ ap (λ b. broad b m) t) cut

    pub many-small : {aligned : Bool} → n ≡ broad aligned m → aligned ≡ true → x < 65536
    many-small e t = two-small s at h (sixteen e t)

    pub many-swapped : {aligned : Bool} → n ≡ broad aligned m → aligned ≡ true → {r : ℕ}
        → r ≡ x % 256 * 256 + x / 256 → Value r (at + n) ≡ found aligned
    unfolding alignment_of
    many-swapped e t j =
        octets-found s at h (sixteen e t) (width m) two j ∙ ap found (sym t)

    pub many-plain : {aligned : Bool} → n ≡ broad aligned m → aligned ≡ false
        → Value x (at + n) ≡ found aligned
    unfolding taken alignment_of
    many-plain e t =
        sym cut
        ∙ ap (λ k. field_at (number_field bit_packed k) s at) (e ∙ ap (λ b. broad b m) t)
        ∙ ap found (sym t)
