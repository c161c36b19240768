-- An Unsigned Integer octet by octet, from the least significant group on.
use mathlib.Core.Path.{◌≡◌, refl, sym, ap, ◌∙◌}
use mathlib.Core.Bool.{Bool, true, false, ◌&&◌, and-false}
use mathlib.Core.List.{List}
use Prim.Native.Nat.{ℕ, suc, ◌+◌, ◌*◌, ◌-◌, ◌^◌, ◌≤◌, ◌<◌}
use native.Mathlib.Omega.{arith}
use native.Mathlib.Nat.{pow-suc, one-le-pow, mul-le-mul, mul-le-mul_left}
use lib.ListN.{length, drop}
use lib.Dec.{leb, ltb}
use borrow.Author.Tests.{lt-ltb, le-ltb, le-leb, lt-leb, ltb-true}
use Rattle.spec_fields.specs.Bits.{Bits, unpack}
use Rattle.spec_fields.specs.Refusal.{ended, number, number_of, number_ended, number_number}
use Rattle.spec_fields.specs.Parser.{Result, Parser, bad, got, return, fail, need, and_then, ◌>>=◌, ◌>>◌}
use Rattle.spec_fields.specs.Field.{octet, max_octets, max_unsigned, grouped, unsigned}
use Rattle.spec_fields.proofs.Tests.{split}
use Rattle.read_field.specs.View.{Value, Refused}
use Rattle.read_field.specs.View.{field_at, InStream}
use Rattle.read_field.specs.Parts.{Peeked, onward}
use Rattle.read_field.proofs.View.{field-same, field-got, field-bad}
use Rattle.read_field.proofs.Numbers.{octet-at, octet-past}

module _ (bs : Bits) {rest : Bits} {o : ℕ} (e : octet bs ≡ got o rest) where
  -- The last octet.
  grouped-last : (k : ℕ) → o < 128 → grouped (suc k) bs ≡ got (o, true) rest
  unfolding grouped ◌>>=◌ and_then return
  grouped-last k h = rw (e, lt-ltb o 128 h)

  -- An octet before others.
  grouped-more : (k : ℕ) → 128 ≤ o
      → grouped (suc k) bs
      ≡ (grouped k >>= λ x. return ((o - 128) + 128 * x.0, x.1 && ltb 0 x.0)) rest
  unfolding grouped ◌>>=◌ and_then
  grouped-more k h = rw (e, le-ltb o 128 h)

-- One octet below 128 is the whole.
unsigned-one : (bs : Bits) {rest : Bits} {o : ℕ} → octet bs ≡ got o rest → o < 128
    → unsigned bs ≡ got o rest
unfolding unsigned max_octets max_unsigned need ◌>>=◌ ◌>>◌ and_then return
unsigned-one bs {rest} {o} e h =
    let l : leb o 2147483647 ≡ true = le-leb o 2147483647 (omega arith) in
    rw (grouped-last bs e 4 h, l)

unsigned-ended : (bs : Bits) → octet bs ≡ bad ended → unsigned bs ≡ bad ended
unfolding unsigned max_octets grouped ◌>>=◌ and_then
unsigned-ended bs e = rw e

-- What is made of the higher groups' number, and whether they are in fewest octets, over one result.
regrouped : (x : Result (ℕ × Bool)) (g : ℕ × Bool → ℕ × Bool) (f h : ℕ × Bool → Parser ℕ)
    → ((y : ℕ × Bool) (rest : Bits) → f (g y) rest ≡ h y rest)
    → and_then (and_then x (λ y. return (g y))) f ≡ and_then x h
unfolding and_then return
regrouped (bad k) g f h e = refl
regrouped (got y rest) g f h e = e y rest

unsigned-onward : (bs : Bits) {rest : Bits} {o : ℕ} → octet bs ≡ got o rest → 128 ≤ o
    → unsigned bs ≡ onward 4 128 (o - 128) rest
unfolding unsigned max_octets onward ◌>>=◌
unsigned-onward bs {rest} {o} e h =
    rw (grouped-more bs e 4 h)
    (regrouped (grouped 4 rest) _ _ _ (λ y r. refl))

-- A group before a number that is not zero is not zero.
more-fewest : (low high : ℕ) (fewest : Bool) (s : Bool)
    → (s && ((fewest && ltb 0 high) && ltb 0 (low + 128 * high))) ≡ (s && (fewest && ltb 0 high))
more-fewest low high fewest false = refl
more-fewest low high false true = refl
more-fewest low high true true =
    split (ltb 0 high)
    (λ t. rw (t, lt-ltb 0 (low + 128 * high) (omega (arith, ltb-true 0 high t))))
    (λ t. rw t)

module _ (k weight low : ℕ) (bs : Bits) where
  onward-ended : octet bs ≡ bad ended → onward (suc k) weight low bs ≡ bad ended
  unfolding onward grouped ◌>>=◌ and_then
  onward-ended e = rw e

  module _ {rest : Bits} {o : ℕ} (e : octet bs ≡ got o rest) where
    -- The highest group is not zero.
    onward-zero : o ≡ 0 → onward (suc k) weight low bs ≡ bad number
    unfolding onward need fail ◌>>=◌ ◌>>◌ and_then
    onward-zero h =
        let z : ltb 0 o ≡ false = le-ltb 0 o (omega arith) in
        rw (grouped-last bs e k (omega arith), z, and-false)

    onward-large : 0 < o → o < 128 → max_unsigned < low + weight * o
        → onward (suc k) weight low bs ≡ bad number
    unfolding onward need fail ◌>>=◌ ◌>>◌ and_then return
    onward-large p h l =
        rw (grouped-last bs e k h, lt-ltb 0 o p, lt-leb (low + weight * o) max_unsigned l)

    onward-last : 0 < o → o < 128 → low + weight * o ≤ max_unsigned
        → onward (suc k) weight low bs ≡ got (low + weight * o) rest
    unfolding onward need ◌>>=◌ ◌>>◌ and_then return
    onward-last p h l =
        rw (grouped-last bs e k h, lt-ltb 0 o p, le-leb (low + weight * o) max_unsigned l)

    onward-more : 128 ≤ o
        → onward (suc k) weight low bs ≡ onward k (weight * 128) (low + weight * (o - 128)) rest
    unfolding onward ◌>>=◌
    onward-more h =
        rw (grouped-more bs e k h)
        (regrouped (grouped k rest) _ _ _ whole)
      where
        whole : (y : ℕ × Bool) (r : Bits)
            → (need (leb (low + weight * ((o - 128) + 128 * y.0)) max_unsigned
            && ((y.1 && ltb 0 y.0) && ltb 0 ((o - 128) + 128 * y.0))) number
            >> return (low + weight * ((o - 128) + 128 * y.0))) r
            ≡ (need (leb (low + weight * (o - 128) + weight * 128 * y.0) max_unsigned
            && (y.1 && ltb 0 y.0)) number
            >> return (low + weight * (o - 128) + weight * 128 * y.0)) r
        whole (high, fewest) r =
            let v : low + weight * ((o - 128) + 128 * high)
            ≡ low + weight * (o - 128) + weight * 128 * high = omega arith in
            rw (v, more-fewest (o - 128) high fewest _)

-- ---- at a position

module _ {s : List ℕ} {at : ℕ} where
  pub unsigned-past : InStream s at → 8 * length s < at + 8 → Refused number_ended ≡ field_at unsigned s at
  unfolding number_of
  unsigned-past h l =
      sym (field-bad unsigned s at ended (unsigned-ended (drop at (unpack s)) (octet-past s at h.place l)))

  module _ {o : ℕ} (p : Peeked s at o) (h : at + 8 ≤ 8 * length s) where
    pub unsigned-first : o < 128 → Value o (at + 8) ≡ field_at unsigned s at
    unsigned-first l =
        sym (field-got unsigned s at o (at + 8) h (unsigned-one (drop at (unpack s)) (octet-at s at p h) l))

    pub unsigned-more : 128 ≤ o → field_at (onward 4 128 (o - 128)) s (at + 8) ≡ field_at unsigned s at
    unsigned-more l =
        let e = unsigned-onward (drop at (unpack s)) (octet-at s at p h) l in
        field-same (onward 4 128 (o - 128)) unsigned s (at + 8) at (sym e)

-- What the first octet leaves to read comes to what `onward` still reads at `place`, at most `left` octets.
pub record Going (s : List ℕ) (at first place left weight low : ℕ) : Type 0 where
  pub inside : place ≤ 8 * length s
  pub below : low < weight
  pub weighs : weight * 128 ^ left ≡ 128 ^ 5
  pub same : onward 4 128 first (drop at (unpack s)) ≡ onward left weight low (drop place (unpack s))

module _ {s : List ℕ} {at first place left weight low : ℕ} (g : Going s at first place left weight low) where
  still : (k : ℕ) → left ≡ k → onward 4 128 first (drop at (unpack s)) ≡ onward k weight low (drop place (unpack s))
  still k e = g.same ∙ ap (λ j. onward j weight low (drop place (unpack s))) e

  pub going-none : left ≤ 0 → Refused number_number ≡ field_at (onward 4 128 first) s at
  unfolding onward grouped fail ◌>>=◌ and_then number_of
  going-none h = sym (field-bad (onward 4 128 first) s at number (still 0 (omega arith)))

  pub going-past : 0 < left → 8 * length s < place + 8 → Refused number_ended ≡ field_at (onward 4 128 first) s at
  unfolding number_of
  going-past some h =
      let e = onward-ended (left - 1) weight low (drop place (unpack s)) (octet-past s place g.inside h) in
      sym (field-bad (onward 4 128 first) s at ended (still (suc (left - 1)) (omega arith) ∙ e))

-- One more octet is there to read.
pub record Turn (s : List ℕ) (at first place left weight low o : ℕ) : Type 0 where
  pub going : Going s at first place left weight low
  pub some : 0 < left
  pub room : place + 8 ≤ 8 * length s
  pub peeked : Peeked s place o

module _ {s : List ℕ} {at first place left weight low o : ℕ} (t : Turn s at first place left weight low o) where
  one_more : left ≡ suc (left - 1)
  one_more = omega (arith, t.some)

  same : onward 4 128 first (drop at (unpack s)) ≡ onward (suc (left - 1)) weight low (drop place (unpack s))
  same = still t.going (suc (left - 1)) one_more

  next : octet (drop place (unpack s)) ≡ got o (drop (place + 8) (unpack s))
  next = octet-at s place t.peeked t.room

  weighs-next : weight * 128 * 128 ^ (left - 1) ≡ 128 ^ 5
  weighs-next =
      let e : 128 ^ left ≡ 128 ^ (left - 1) * 128 = ap (λ k. 128 ^ k) one_more ∙ pow-suc 128 (left - 1) in
      omega (arith, rw e at t.going.weighs)

  pub weight-small : weight ≤ 128 ^ 4
  weight-small = omega (arith, weighs-next, mul-le-mul_left (weight * 128) (one-le-pow (left - 1) 128 (omega arith)))

  -- What the group can add.
  pub group-small : weight * o ≤ 128 ^ 4 * 255
  group-small =
      let l : o ≤ 255 = omega (arith, t.peeked.small) in
      mul-le-mul weight-small l

  pub turn-zero : o ≡ 0 → Refused number_number ≡ field_at (onward 4 128 first) s at
  unfolding number_of
  turn-zero z =
      let e = onward-zero (left - 1) weight low (drop place (unpack s)) next z in
      sym (field-bad (onward 4 128 first) s at number (same ∙ e))

  module _ (b : 0 < o) (l : o < 128) where
    pub turn-large : 2147483647 < low + weight * o → Refused number_number ≡ field_at (onward 4 128 first) s at
    unfolding number_of max_unsigned
    turn-large m =
        let e = onward-large (left - 1) weight low (drop place (unpack s)) next b l m in
        sym (field-bad (onward 4 128 first) s at number (same ∙ e))

    pub turn_last : low + weight * o ≤ 2147483647
        → Value (low + weight * o) (place + 8) ≡ field_at (onward 4 128 first) s at
    unfolding max_unsigned
    turn_last m =
        let e = onward-last (left - 1) weight low (drop place (unpack s)) next b l m in
        sym (field-got (onward 4 128 first) s at (low + weight * o) (place + 8) t.room (same ∙ e))

  pub turn_more : 128 ≤ o → Going s at first (place + 8) (left - 1) (weight * 128) (low + weight * (o - 128))
  turn_more l =
      let d : o - 128 ≤ 127 = omega (arith, t.peeked.small) in
      record {
        inside = t.room;
        below = omega (arith, t.going.below, mul-le-mul_left weight d);
        weighs = weighs-next;
        same = same ∙ onward-more (left - 1) weight low (drop place (unpack s)) next l;
      }
