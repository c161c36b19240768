-- What n bits or their octets at a position are: the number of the bits ahead, or ENDED where the stream has fewer.
use mathlib.Core.Path.{◌≡◌, refl, sym, ap, ◌∙◌}
use mathlib.Core.List.{List, [], ◌∷◌}
use Prim.Native.Nat.{ℕ, zero, suc, ◌+◌, ◌*◌, ◌-◌, ◌/◌, ◌%◌, ◌^◌, ◌≤◌, ◌<◌}
use native.Mathlib.Omega.{arith}
use lib.ListN.{length, take, drop, length-drop}
use lib.Seq.{drop-drop}
use lib.Bits.{bit_and}
use lib.Dec.{leb}
use borrow.Author.Tests.{leb-true, leb-false}
use Rattle.spec_fields.specs.Bits.{Bits, value_of, unpack, octets_from, octets_for}
use Rattle.spec_fields.specs.Refusal.{ended, number_of, number_ended}
use Rattle.spec_fields.specs.Parser.{bad, got, return, and_then, ◌>>=◌, times}
use Rattle.spec_fields.specs.Field.{bit_packed, byte_aligned, bit, octet, little_value, number_field}
use Rattle.spec_fields.proofs.Tests.{split}
use Rattle.spec_fields.proofs.Pack.{length-unpack}
use Rattle.read_field.specs.View.{Value, Refused}
use Rattle.read_field.specs.View.{field_at, InStream}
use Rattle.read_field.specs.Parts.{ahead, Octet, Peeked}
use Rattle.read_field.proofs.Ahead.{ahead-there, ahead-add, ahead-bound}
use Rattle.read_field.proofs.Window.{masked, spare, window}
use Rattle.read_field.proofs.View.{field-got, field-bad}

times-bits : (n : ℕ) (bs : Bits) → n ≤ length bs → times n bit bs ≡ got (take n bs) (drop n bs)
unfolding times bit ◌>>=◌ and_then return
times-bits zero bs h = refl
times-bits (suc n) [] h = absurd (omega arith)
times-bits (suc n) (b ∷ bs) h = rw (times-bits n bs (omega arith))

few_bits : (n : ℕ) (bs : Bits) → length bs < n → times n bit bs ≡ bad ended
unfolding times bit ◌>>=◌ and_then return
few_bits zero bs h = absurd (omega arith)
few_bits (suc n) [] h = refl
few_bits (suc n) (b ∷ bs) h = rw (few_bits n bs (omega arith))

bits-got : (n : ℕ) (bs : Bits) → n ≤ length bs → number_field bit_packed n bs ≡ got (ahead n bs) (drop n bs)
unfolding number_field ◌>>=◌ and_then return
bits-got n bs h = rw (times-bits n bs h, ahead-there n bs h)

bits-ended : (n : ℕ) (bs : Bits) → length bs < n → number_field bit_packed n bs ≡ bad ended
unfolding number_field ◌>>=◌ and_then
bits-ended n bs h = rw (few_bits n bs h)

octet-got : (bs : Bits) → 8 ≤ length bs → octet bs ≡ got (ahead 8 bs) (drop 8 bs)
unfolding octet number_field
octet-got bs h = bits-got 8 bs h

octet-ended : (bs : Bits) → length bs < 8 → octet bs ≡ bad ended
unfolding octet number_field
octet-ended bs h = bits-ended 8 bs h

times-octets : (k : ℕ) (bs : Bits) → 8 * k ≤ length bs → times k octet bs ≡ got (octets_from k bs) (drop (8 * k) bs)
unfolding times octets_from ahead ◌>>=◌ and_then return
times-octets zero bs h = refl
times-octets (suc k) bs h =
    let e : 8 + 8 * k ≡ 8 * suc k = omega arith in
    rw (
      octet-got bs (omega arith),
      times-octets k (drop 8 bs) (omega (arith, length-drop 8 bs)),
      drop-drop (8 * k) 8 bs,
      e,
    )

few-octets : (k : ℕ) (bs : Bits) → length bs < 8 * k → times k octet bs ≡ bad ended
unfolding times ◌>>=◌ and_then return
few-octets zero bs h = absurd (omega arith)
few-octets (suc k) bs h =
    split (leb 8 (length bs))
    (λ e. rw (
      octet-got bs (leb-true 8 (length bs) e),
      few-octets k (drop 8 bs) (omega (arith, length-drop 8 bs, leb-true 8 (length bs) e)),
    ))
    (λ e. rw (octet-ended bs (leb-false 8 (length bs) e)))

octets-got : (n k : ℕ) (bs : Bits) → octets_for n ≡ k → 8 * k ≤ length bs
    → number_field byte_aligned n bs ≡ got (little_value (octets_from k bs)) (drop (8 * k) bs)
unfolding number_field ◌>>=◌ and_then return
octets-got n k bs e h = rw (e, times-octets k bs h)

octets-ended : (n : ℕ) (bs : Bits) → length bs < 8 * octets_for n → number_field byte_aligned n bs ≡ bad ended
unfolding number_field ◌>>=◌ and_then
octets-ended n bs h = rw (few-octets (octets_for n) bs h)

-- One octet, and two, the least significant first.
little-one : (bs : Bits) → ahead 8 bs ≡ little_value (octets_from 1 bs)
unfolding ahead octets_from little_value
little-one bs = omega arith

little-two : (bs : Bits)
    → ahead 16 bs % 256 * 256 + ahead 16 bs / 256 ≡ little_value (octets_from 2 bs)
unfolding ahead octets_from little_value
little-two bs = rw (ahead-add 8 8 bs) (omega (arith, ahead-bound 8 bs, ahead-bound 8 (drop 8 bs)))

-- A number is no refusal.
apart : {X : Type 0} {v q r : ℕ} → Value v q ≡ Refused r → X
apart e = let z : ◌≡◌ {A = ℕ} 0 1 = cc in absurd (omega arith)

-- ---- at a position

module _ (s : List ℕ) (at : ℕ) where
  left : length (drop at (unpack s)) ≡ 8 * length s - at
  left = length-drop at (unpack s) ∙ ap (λ n. n - at) (length-unpack s)

  pub octet-at : {o : ℕ} → Peeked s at o → at + 8 ≤ 8 * length s
      → octet (drop at (unpack s)) ≡ got o (drop (at + 8) (unpack s))
  octet-at p h = rw (p.is, ← drop-drop 8 at (unpack s)) (octet-got (drop at (unpack s)) (omega (arith, left)))

  pub octet-past : at ≤ 8 * length s → 8 * length s < at + 8 → octet (drop at (unpack s)) ≡ bad ended
  octet-past h l = octet-ended (drop at (unpack s)) (omega (arith, left))

  bits-there : (n : ℕ) → at + n ≤ 8 * length s
      → field_at (number_field bit_packed n) s at ≡ Value (ahead n (drop at (unpack s))) (at + n)
  bits-there n l =
      let bs = drop at (unpack s) in
      let g = bits-got n bs (omega (arith, left)) in
      field-got (number_field bit_packed n) s at (ahead n bs) (at + n) l
      (rw (← drop-drop n at (unpack s)) g)

  pub bits-past : (n : ℕ) → InStream s at → 8 * length s < at + n
      → Refused number_ended ≡ field_at (number_field bit_packed n) s at
  unfolding number_of
  bits-past n h l =
      let e = bits-ended n (drop at (unpack s)) (omega (arith, left, h.place)) in
      sym (field-bad (number_field bit_packed n) s at ended e)

  -- No bits.
  pub bits_none : {n : ℕ} → n ≡ 0 → at + n ≤ 8 * length s
      → Value 0 (at + n) ≡ field_at (number_field bit_packed n) s at
  unfolding ahead value_of
  bits_none {n} e l =
      sym (bits-there n l ∙ ap (λ k. Value (ahead k (drop at (unpack s))) (at + n)) e)

  -- n bits, cut out of a window of two octets, and of three.
  pub few-cut : (n x : ℕ) → n ≤ 8 → at + n ≤ 8 * length s → x % 2 ^ n ≡ ahead n (drop at (unpack s))
      → Value (bit_and x ((1 * 2 ^ n) % 2 ^ 32 - 1)) (at + n)
      ≡ field_at (number_field bit_packed n) s at
  few-cut n x h l e = rw (masked x n (omega arith), e) (sym (bits-there n l))

  pub bits-cut : (n : ℕ) {x y z : ℕ} → 0 < n → n ≤ 16 → at + n ≤ 8 * length s → Octet s (at / 8) x
      → Octet s ((at / 8 + (at + n - 1) / 8) / 2) y → Octet s ((at + n - 1) / 8) z
      → Value (bit_and ((x * 65536 + y * 256 + z) / 2 ^ spare at n) ((1 * 2 ^ n) % 2 ^ 32 - 1)) (at + n)
      ≡ field_at (number_field bit_packed n) s at
  bits-cut n {x} {y} {z} p h l hx hy hz =
      let w = (x * 65536 + y * 256 + z) / 2 ^ spare at n in
      rw (masked w n h, window s at n p h hx hy hz) (sym (bits-there n l))

  -- ---- the octets that hold n bits are k: from the number of their bits

  module _ (n k : ℕ) (i : (n + 7) / 8 ≡ k) (h : InStream s at) where
    octets-there : at + k * 8 ≤ 8 * length s
        → field_at (number_field byte_aligned n) s at
        ≡ Value (little_value (octets_from k (drop at (unpack s)))) (at + k * 8)
    unfolding octets_for
    octets-there l =
        let v = little_value (octets_from k (drop at (unpack s))) in
        let e : at + 8 * k ≡ at + k * 8 = omega arith in
        let g = octets-got n k (drop at (unpack s)) i (omega (arith, left)) in
        field-got (number_field byte_aligned n) s at v (at + k * 8) l
        (rw (← e, ← drop-drop (8 * k) at (unpack s)) g)

    octets-past : 8 * length s < at + k * 8 → Refused number_ended ≡ field_at (number_field byte_aligned n) s at
    unfolding number_of octets_for
    octets-past l =
        let e = octets-ended n (drop at (unpack s)) (omega (arith, left, h.place)) in
        sym (field-bad (number_field byte_aligned n) s at ended e)

  pub octets-no : {n : ℕ} → n ≡ 0 → InStream s at
      → Value 0 at ≡ field_at (number_field byte_aligned n) s at
  unfolding octets_from little_value
  octets-no {n} e h =
      let z : at + 0 * 8 ≡ at = omega arith in
      sym (octets-there n 0 (omega arith) h (omega (arith, h.place)) ∙ ap (λ q. Value 0 q) z)

  -- One octet is eight bits.
  pub octets-one : (n : ℕ) → 0 < n → n ≤ 8 → InStream s at
      → field_at (number_field bit_packed 8) s at ≡ field_at (number_field byte_aligned n) s at
  octets-one n p l h =
      let i : (n + 7) / 8 ≡ 1 = omega arith in
      split (leb (at + 8) (8 * length s))
      (λ t.
      let m = leb-true (at + 8) (8 * length s) t in
      bits-there 8 m ∙ rw (little-one (drop at (unpack s))) (sym (octets-there n 1 i h m)))
      (λ t.
      let m = leb-false (at + 8) (8 * length s) t in
      sym (bits-past 8 h m) ∙ octets-past n 1 i h m)

  -- Two octets are sixteen bits, exchanged.
  module _ (h : InStream s at) {v q : ℕ}
      (e : field_at (number_field bit_packed 16) s at ≡ Value v q) where
    inside : at + 16 ≤ 8 * length s
    inside =
        split (leb (at + 16) (8 * length s)) (λ t. leb-true (at + 16) (8 * length s) t)
        (λ t. apart (sym e ∙ sym (bits-past 16 h (leb-false (at + 16) (8 * length s) t))))

    same : Value (ahead 16 (drop at (unpack s))) (at + 16) ≡ Value v q
    same = sym (bits-there 16 inside) ∙ e

    is : v ≡ ahead 16 (drop at (unpack s))
    is = cc same

    pub two-small : v < 65536
    two-small = rw is (ahead-bound 16 (drop at (unpack s)))

    pub octets-found : (n : ℕ) → (n + 7) / 8 ≡ 2 → {r : ℕ} → r ≡ v % 256 * 256 + v / 256
        → Value r q ≡ field_at (number_field byte_aligned n) s at
    octets-found n i {r} j =
        let bs = drop at (unpack s) in
        let m : r ≡ little_value (octets_from 2 bs) = j ∙ rw is (little-two bs) in
        let o : at + 16 ≡ q = cc same in
        rw (m, ← o) (sym (octets-there n 2 i h inside))

  pub octets-none : InStream s at → {r : ℕ} → field_at (number_field bit_packed 16) s at ≡ Refused r
      → (n : ℕ) → (n + 7) / 8 ≡ 2 → Refused r ≡ field_at (number_field byte_aligned n) s at
  octets-none h e n i =
      split (leb (at + 16) (8 * length s))
      (λ t. apart (sym (bits-there 16 (leb-true (at + 16) (8 * length s) t)) ∙ e))
      (λ t.
      let l = leb-false (at + 16) (8 * length s) t in
      sym e ∙ sym (bits-past 16 h l) ∙ octets-past n 2 i h l)
