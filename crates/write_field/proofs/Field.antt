-- Numbers and choices as the parts that they are put together from: what each part asks, and what
-- the parts together leave.
use mathlib.Core.Path.{◌≡◌, refl, sym, ap, ap₂, subst, ◌∙◌}
use Prim.Native.Nat.{ℕ, zero, suc, ◌+◌, ◌*◌, ◌-◌, ◌/◌, ◌%◌, ◌^◌, ◌≤◌, ◌<◌}
use native.Mathlib.Nat.{lt_of_lt_of_le, mul_assoc, mul-mod_left}
use native.Mathlib.Omega.{arith}
use mathlib.Core.Bool.{Bool, true, false}
use mathlib.Core.List.{List, [], ◌++◌, append-nil}
use lib.ListN.{length, get_or, replicate, length-replicate}
use mir.Syntax.{w8}
use mir.Val.{Fits}
use lib.Pow.{pow_mono, pow_pos, pow-add, shl_lt, shl_exact, shr_lt}
use lib.Bits.{bit_and, and_mask, mask_lt}
use lib.Dec.{T}
use Rattle.spec_fields.specs.Bits.{bits_of, each, unpack, octets_for}
use Rattle.spec_fields.specs.Field.{Alignment, bit_packed, byte_aligned}
use Rattle.spec_fields.specs.Field.{little_endian, number_bits}
use Rattle.spec_fields.specs.Field.{width, choice_bits}
use Rattle.spec_fields.proofs.Number.{length-bits, bits_of_value, width-enough, width-least}
use Rattle.read_field.specs.Parts.{few, taken}
use Rattle.read_field.proofs.FewBits.{width-none, width_some}
use Rattle.write_field.specs.Written.{alignment_of, written, blank_from, Put, farthest}
use Rattle.write_field.specs.Written.{PutNumberPre, PutChoicePre, PutPartPre}
use Rattle.write_field.proofs.Written.{written-zeros, put_then, put-blank, put-nothing}
use Rattle.write_field.proofs.Octet.{value-zeros, bits-join}

-- ---- a window of three octets: the bits of the first one that are used, n bits, and zeros

abbrev behind : ℕ → ℕ → ℕ
behind at n = 24 - at % 8 - n

abbrev window : ℕ → ℕ → ℕ → ℕ
window at n v = (v * 2 ^ behind at n) % 2 ^ 32

abbrev first : ℕ → ℕ → ℕ → ℕ
first at n v = window at n v / 65536

abbrev second : ℕ → ℕ → ℕ → ℕ
second at n v = bit_and (window at n v / 256) 255

abbrev third : ℕ → ℕ → ℕ → ℕ
third at n v = bit_and (window at n v) 255

bits-zero : (n : ℕ) → bits_of n 0 ≡ replicate n false
bits-zero n = rw (length-replicate n false, value-zeros n) at (bits_of_value (replicate n false))

-- A product by 2 ^ k has no bit below bit j.
none_below : (v j k : ℕ) → j ≤ k → v * 2 ^ k % 2 ^ j ≡ 0
none_below v j k h =
    let e : k ≡ (k - j) + j = omega arith in
    let p : 2 ^ k ≡ 2 ^ (k - j) * 2 ^ j = ap (λ x. 2 ^ x) e ∙ pow-add 2 (k - j) j in
    rw (p, ← mul_assoc v (2 ^ (k - j)) (2 ^ j)) (mul-mod_left (v * 2 ^ (k - j)) (2 ^ j))

module _ (at n v : ℕ) (small : n ≤ 16) (fits : v < 2 ^ n) where
  exact : window at n v ≡ v * 2 ^ behind at n
  exact = shl_exact n (behind at n) 32 fits (omega arith)

  first_fits : first at n v < 2 ^ (8 - at % 8)
  first_fits =
      let e : n + behind at n ≡ 8 - at % 8 + 16 = omega arith in
      rw exact (shr_lt (8 - at % 8) 16 (rw e at (shl_lt n (behind at n) fits)))

  first-none : n ≡ 0 → first at n v ≡ 0
  first-none e =
      let z : v < 2 ^ 0 = rw e at fits in
      let i : v ≡ 0 = omega arith in
      rw (exact, i) (omega arith)

  second_none : at % 8 + n ≤ 8 → second at n v ≡ 0
  second_none l =
      let w = v * 2 ^ behind at n in
      rw exact (omega (arith, and_mask (w / 256) 8, none_below v 16 (behind at n) (omega arith)))

  third-none : at % 8 + n ≤ 16 → third at n v ≡ 0
  third-none l =
      let w = v * 2 ^ behind at n in
      rw exact (omega (arith, and_mask w 8, none_below v 8 (behind at n) (omega arith)))

  -- The three parts are the field, and zeros.
  parts :
      bits_of (8 - at % 8) (first at n v) ++ (bits_of 8 (second at n v) ++ bits_of 8 (third at n v))
      ≡ bits_of n v ++ replicate (behind at n) false
  parts =
      let w = window at n v in
      let b = w / 256 % 256 in
      let d = w % 256 in
      let mb : second at n v ≡ b = and_mask (w / 256) 8 in
      let md : third at n v ≡ d = and_mask w 8 in
      let low = bits-join 8 8 b d (omega arith) (omega arith) in
      let all = bits-join (8 - at % 8) 16 (first at n v) (b * 256 + d) first_fits (omega arith) in
      let field = bits-join n (behind at n) v 0 fits (pow_pos (behind at n)) in
      let a = first at n v in
      let e : a * 65536 + (b * 256 + d) ≡ v * 2 ^ behind at n + 0 = omega (arith, exact) in
      let i : (8 - at % 8) + 16 ≡ n + behind at n = omega arith in
      rw (mb, md, ← low, ← bits-zero (behind at n)) (sym all ∙ ap₂ bits_of i e ∙ field)

-- ---- n bits

-- Octets, as a slice holds them.
abbrev Known : List ℕ → Type 0
Known os = (i : ℕ) → Fits w8 (get_or os i 0)

-- Zeros change nothing.
put-zeros : {buf : List ℕ} {at o : ℕ} (n : ℕ) → Known buf → T (blank_from buf at) → o ≡ 0
    → Put buf at (bits_of n o) buf (at + n)
put-zeros {buf} {at} {o} n known t e =
    let w : written buf at (bits_of n o) ≡ written buf at [] =
    rw (e, bits-zero n) (written-zeros buf at [] n) in
    record { octets = (put-nothing known t).octets ∙ sym w; next = omega (arith, length-bits n o) }

-- What the parts of n bits ask: at a position that a field was begun before.
abbrev pub BitsFit : List ℕ → ℕ → ℕ → ℕ → Type 0
BitsFit buf at n v = T (blank_from buf at) × (at ≤ farthest + 40) × (n ≤ 16) × (v < 2 ^ n)

module _ (buf : List ℕ) {at n v : ℕ} (h : BitsFit buf at n v) where
  pub first-asks : PutPartPre buf at (8 - at % 8) (first at n v)
  first-asks =
      record {
        blank = h.0;
        near = omega arith;
        narrow = omega arith;
        fits = first_fits at n v h.2 h.3;
      }

  module _ {mid : List ℕ} {p : ℕ} (a : Put buf at (bits_of (8 - at % 8) (first at n v)) mid p) where
    second_at : p ≡ at - at % 8 + 8
    second_at = omega (arith, a.next, length-bits (8 - at % 8) (first at n v))

    second-whole : 8 - p % 8 ≡ 8
    second-whole = omega (arith, second_at)

    pub second-asks : PutPartPre mid p (8 - p % 8) (second at n v)
    second-asks =
        record {
          blank = put-blank a;
          near = omega (arith, second_at);
          narrow = omega arith;
          fits = rw second-whole (mask_lt (window at n v / 256) 8);
        }

    module _ {far : List ℕ} {q : ℕ} (b : Put mid p (bits_of (8 - p % 8) (second at n v)) far q) where
      third_at : q ≡ at - at % 8 + 16
      third_at = omega (arith, second_at, b.next, length-bits (8 - p % 8) (second at n v))

      third-whole : 8 - q % 8 ≡ 8
      third-whole = omega (arith, third_at)

      pub third-asks : PutPartPre far q (8 - q % 8) (third at n v)
      third-asks =
          record {
            blank = put-blank b;
            near = omega (arith, third_at);
            narrow = omega arith;
            fits = rw third-whole (mask_lt (window at n v) 8);
          }

      pub put_three : {after : List ℕ} {r : ℕ}
          → Put far q (bits_of (8 - q % 8) (third at n v)) after r → Put buf at (bits_of n v) after (at + n)
      put_three c =
          let all = put_then a (rw second-whole at (put_then b (rw third-whole at c))) in
          let w = ap (written buf at) (parts at n v h.2 h.3) in
          record {
            octets = all.octets ∙ w ∙ written-zeros buf at (bits_of n v) (behind at n);
            next = rw (length-bits n v);
          }

      -- Where the field ends before a part, this part is zeros, and so are those behind it.
      pub put_two : Known far → at + n ≤ q → Put buf at (bits_of n v) far (at + n)
      put_two known l =
          let z = third-none at n v h.2 h.3 (omega (arith, third_at)) in
          put_three (put-zeros (8 - q % 8) known (put-blank b) z)

    pub put_one : Known mid → at + n ≤ p → Put buf at (bits_of n v) mid (at + n)
    put_one known l =
        let z = second_none at n v h.2 h.3 (omega (arith, second_at)) in
        put_two (put-zeros (8 - p % 8) known (put-blank a) z) known (omega (arith, second_at))

  pub put-none : Known buf → at + n ≤ at → Put buf at (bits_of n v) buf (at + n)
  put-none known l =
      let z = first-none at n v h.2 h.3 (omega arith) in
      put_one (put-zeros (8 - at % 8) known h.0 z) known (omega arith)

-- ---- at most eight bits: their window has no third part

abbrev pub short : ℕ → ℕ → ℕ → ℕ
short at n v = (v * 2 ^ (16 - at % 8 - n)) % 2 ^ 32

module _ (at n v : ℕ) (small : n ≤ 8) (fits : v < 2 ^ n) where
  short-window : window at n v ≡ short at n v * 256
  short-window =
      let k = 16 - at % 8 - n in
      let e : behind at n ≡ k + 8 = omega arith in
      let p : 2 ^ behind at n ≡ 2 ^ k * 256 = ap (λ j. 2 ^ j) e ∙ pow-add 2 k 8 in
      let x : short at n v ≡ v * 2 ^ k = shl_exact n k 32 fits (omega arith) in
      exact at n v (omega arith) fits ∙ rw (p, x) (sym (mul_assoc v (2 ^ k) 256))

  short-first : first at n v ≡ short at n v / 256
  short-first = omega (arith, short-window)

  short-second : second at n v ≡ bit_and (short at n v) 255
  short-second =
      let e : window at n v / 256 ≡ short at n v = omega (arith, short-window) in
      ap (λ x. bit_and x 255) e

-- What such bits ask.
abbrev pub FewFit : List ℕ → ℕ → ℕ → ℕ → Type 0
FewFit buf at n v = T (blank_from buf at) × (at ≤ farthest + 40) × (n ≤ 8) × (v < 2 ^ n)

module _ (buf : List ℕ) {at n v : ℕ} (h : FewFit buf at n v) where
  any : BitsFit buf at n v
  any = (h.0, h.1, omega (arith, h.2), h.3)

  pub few-asks : PutPartPre buf at (8 - at % 8) (short at n v / 256)
  few-asks =
      subst (PutPartPre buf at (8 - at % 8)) (short-first at n v h.2 h.3) (first-asks buf any)

  module _ {mid : List ℕ} {p : ℕ}
      (a : Put buf at (bits_of (8 - at % 8) (short at n v / 256)) mid p) where
    begun : Put buf at (bits_of (8 - at % 8) (first at n v)) mid p
    begun =
        let e = sym (short-first at n v h.2 h.3) in
        subst (λ x. Put buf at (bits_of (8 - at % 8) x) mid p) e a

    pub few-one : Known mid → at + n ≤ p → Put buf at (bits_of n v) mid (at + n)
    few-one known l = put_one buf any begun known l

    pub rest-asks : PutPartPre mid p (8 - p % 8) (bit_and (short at n v) 255)
    rest-asks =
        let e = short-second at n v h.2 h.3 in
        subst (PutPartPre mid p (8 - p % 8)) e (second-asks buf any begun)

    pub few-two : {far : List ℕ} {q : ℕ}
        → Put mid p (bits_of (8 - p % 8) (bit_and (short at n v) 255)) far q
        → Known far → Put buf at (bits_of n v) far (at + n)
    few-two {far} {q} b known =
        let e = sym (short-second at n v h.2 h.3) in
        let c = subst (λ x. Put mid p (bits_of (8 - p % 8) x) far q) e b in
        put_two buf any begun c known (omega (arith, h.2, third_at buf any begun c))

-- ---- the fewest octets that hold n bits

-- At most two octets, the least significant first: the first bits of the number exchanged.
little : (k v : ℕ) → k ≤ 2 → v < 2 ^ (k * 8)
    → bits_of (k * 8) ((v % 256 * 256 + v / 256) / 2 ^ (16 - k * 8)) ≡ unpack (little_endian k v)
unfolding little_endian unpack each bits_of
little zero v l h = refl
little (suc zero) v l h =
    let e : (v % 256 * 256 + v / 256) / 256 ≡ v % 256 = omega arith in
    ap (bits_of 8) e ∙ sym (append-nil (bits_of 8 (v % 256)))
little (suc (suc zero)) v l h =
    let e : (v % 256 * 256 + v / 256) / 1 ≡ v % 256 * 256 + v / 256 % 256 = omega arith in
    ap (bits_of 16) e
    ∙ bits-join 8 8 (v % 256) (v / 256 % 256) (omega arith) (omega arith)
    ∙ ap (λ b. bits_of 8 (v % 256) ++ b) (sym (append-nil (bits_of 8 (v / 256 % 256))))
little (suc (suc (suc k))) v l h = absurd (omega arith)

module _ {buf : List ℕ} {at n v : ℕ} (h : PutNumberPre buf at n v) where
  pub as_bits : BitsFit buf at n v
  as_bits = (h.blank, omega (arith, h.near), h.narrow, h.fits)

  pub sixteen : v < 65536
  sixteen = lt_of_lt_of_le h.fits (pow_mono h.narrow)

  module _ {k x : ℕ} (i : (n + 7) / 8 ≡ k) (e : x ≡ v % 256 * 256 + v / 256) where
    pub octets-ask : PutNumberPre buf at (k * 8) (x / 2 ^ (16 - k * 8))
    octets-ask =
        let j : k * 8 + (16 - k * 8) ≡ 16 = omega (arith, h.narrow) in
        let b : x < 2 ^ (k * 8 + (16 - k * 8)) = rw j (omega (arith, sixteen)) in
        record {
          blank = h.blank;
          near = h.near;
          narrow = omega (arith, h.narrow);
          fits = shr_lt (k * 8) (16 - k * 8) b;
        }

    pub put-little : {after : List ℕ} {r : ℕ}
        → Put buf at (bits_of (k * 8) (x / 2 ^ (16 - k * 8))) after r
        → Put buf at (number_bits byte_aligned n v) after r
    unfolding number_bits octets_for
    put-little {after} {r} p =
        let b : v < 2 ^ (k * 8) = lt_of_lt_of_le h.fits (pow_mono (omega (arith, h.narrow))) in
        let w = little k v (omega (arith, h.narrow)) b in
        rw i (subst (λ u. Put buf at u after r) w (rw e at p))

-- ---- a choice among m

chosen-fits : {buf : List ℕ} {at m v : ℕ} → PutChoicePre buf at m v → v < 2 ^ width m
chosen-fits {m = m} h = omega (arith, h.one, width-enough m, pow_pos (width m))

module _ {buf : List ℕ} {at m v n : ℕ} (h : PutChoicePre buf at m v) (e : n ≡ width m) where
  pub choice-asks : PutNumberPre buf at n v
  choice-asks =
      record {
        blank = h.blank;
        near = h.near;
        narrow = rw e (width-least m 16 h.few);
        fits = rw e (chosen-fits h);
      }

  pub put-chosen : (a : Alignment) {after : List ℕ} {r : ℕ} → Put buf at (number_bits a n v) after r
      → Put buf at (choice_bits a m v) after r
  unfolding choice_bits
  put-chosen a p = rw (← e) p

-- None of one, and at most an octet of 256.
module _ {buf : List ℕ} {at m v : ℕ} (h : PutChoicePre buf at m v) where
  pub put-sole : m ≤ 1 → Known buf → (a : Alignment) → Put buf at (choice_bits a m v) buf at
  unfolding choice_bits number_bits octets_for little_endian unpack each bits_of
  put-sole l known bit_packed = rw (width-none m l) (put-nothing known h.blank)
  put-sole l known byte_aligned = rw (width-none m l) (put-nothing known h.blank)

  module _ (l : m ≤ 256) where
    pub few-of : (aligned : Bool) → FewFit buf at (few aligned m) v
    unfolding taken
    few-of true = (h.blank, omega (arith, h.near), omega arith, omega (arith, h.one))
    few-of false = (h.blank, omega (arith, h.near), width-least m 8 l, chosen-fits h)

    pub put-one-of : 1 < m → (aligned : Bool) {after : List ℕ} {r : ℕ}
        → Put buf at (bits_of (few aligned m) v) after r
        → Put buf at (choice_bits (alignment_of aligned) m v) after r
    unfolding taken alignment_of choice_bits number_bits octets_for
    put-one-of some true {after} {r} p =
        let i : (width m + 7) / 8 ≡ 1 = omega (arith, width_some m some, width-least m 8 l) in
        let e : (v % 256 * 256 + v / 256) / 256 ≡ v = omega (arith, h.one) in
        let w : bits_of 8 v ≡ unpack (little_endian 1 v) =
        ap (bits_of 8) (sym e) ∙ little 1 v (omega arith) (omega (arith, h.one)) in
        rw i (subst (λ u. Put buf at u after r) w p)
    put-one-of some false p = p
