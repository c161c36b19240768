-- Bits that are left, and the number that they are.
use mathlib.Core.Path.{◌≡◌, refl, sym, ap, ◌∙◌}
use mathlib.Core.Bool.{true, false}
use mathlib.Core.List.{List, [], ◌∷◌, append-nil}
use Prim.Native.Nat.{ℕ, ◌+◌, ◌*◌, ◌-◌, ◌^◌, ◌≤◌, ◌<◌}
use native.Mathlib.Omega.{arith}
use lib.ListN.{length, drop, length-drop}
use lib.Dec.{eqb}
use lib.Pow.{pow_pos}
use borrow.Author.Tests.{le-leb, lt-leb, ne_eqb}
use Rattle.spec_fields.specs.Bits.{Bits, value_of, unpack, all_zero, is_padding}
use Rattle.spec_fields.specs.Parser.{got}
use Rattle.spec_fields.specs.Field.{bit_packed, number_bits, number_field}
use Rattle.spec_fields.proofs.Number.{value-bound, bits_of_value, number-reads}
use Rattle.spec_fields.proofs.Pack.{length-unpack}
use Rattle.read_field.specs.View.{Value, Refused}
use Rattle.read_field.specs.View.{view_of, field_at}

-- They are zero just where the number is.
zero-value : (bs : Bits) → all_zero bs ≡ eqb (value_of bs) 0
unfolding all_zero value_of
zero-value [] = refl
zero-value (false ∷ bs) =
    let e : value_of bs ≡ 0 * 2 ^ length bs + value_of bs = omega arith in
    zero-value bs ∙ ap (λ n. eqb n 0) e
zero-value (true ∷ bs) =
    sym (ne_eqb (1 * 2 ^ length bs + value_of bs) 0 (λ e. omega (arith, pow_pos (length bs))))

module _ (stream : List ℕ) (at : ℕ) where
  abbrev left : Bits
  left = drop at (unpack stream)

  left-length : length left ≡ 8 * length stream - at
  left-length = rw (length-drop at (unpack stream), length-unpack stream)

  -- The number of all bits that are left.
  whole : number_field bit_packed (length left) left ≡ got (value_of left) []
  unfolding number_bits
  whole =
      rw (append-nil left) at
      ((number-reads bit_packed (length left)).complete (value_of left) left []
      (value-bound left, sym (bits_of_value left)))

  pub too_much : 7 < 8 * length stream - at → false ≡ is_padding left
  unfolding is_padding
  too_much l = rw (lt-leb (length left) 7 (omega (arith, left-length)))

  module _ {n : ℕ} (few : 8 * length stream - at ≤ 7) (all : n ≡ 8 * length stream - at) where
    whole-field : field_at (number_field bit_packed n) stream at
        ≡ Value (value_of left) (8 * length stream)
    unfolding field_at view_of
    whole-field =
        let e : n ≡ length left = all ∙ sym left-length in
        rw (e, whole) (ap (Value (value_of left)) (omega arith))

    pub padding-refused : {k : ℕ} {A : Type 0}
        → field_at (number_field bit_packed n) stream at ≡ Refused k → A
    padding-refused e =
        let f = whole-field in let z : ◌≡◌ {A = ℕ} 0 1 = cc in absurd (omega arith)

    pub padding-value : {v q : ℕ} → field_at (number_field bit_packed n) stream at ≡ Value v q
        → eqb v 0 ≡ is_padding left
    unfolding is_padding
    padding-value {v} e =
        let f = whole-field in
        let same : v ≡ value_of left = cc in
        rw (le-leb (length left) 7 (omega (arith, left-length)), same) (sym (zero-value left))
