-- The number of the next n bits: how it is put together from octets, and how a shift cuts it.
use mathlib.Core.Path.{◌≡◌, refl, sym, ap, ◌∙◌}
use mathlib.Core.Bool.{Bool, false}
use mathlib.Core.List.{List, [], ◌∷◌, ◌++◌}
use Prim.Native.Nat.{ℕ, zero, suc, ◌+◌, ◌*◌, ◌-◌, ◌/◌, ◌%◌, ◌^◌, ◌≤◌, ◌<◌}
use native.Mathlib.Nat.{zero-add, suc-add, add-zero}
use native.Mathlib.Omega.{arith}
use lib.ListN.{length, take, drop, replicate, get_or, length-append}
use lib.Seq.{drop-nil, drop-drop, get_or-drop}
use lib.Pow.{pow-add, high, low}
use Rattle.spec_fields.specs.Bits.{Bits, bits_of, value_of, each, unpack}
use Rattle.spec_fields.proofs.Number.{value-bound, value-of-bits}
use Rattle.read_field.specs.Parts.{ahead, Octet, Peeked}

-- The next n bits, zeros standing for bits past the end.
padded : ℕ → Bits → Bits
padded zero bs = []
padded (suc n) [] = false ∷ padded n []
padded (suc n) (b ∷ bs) = b ∷ padded n bs

padded-is : (n m : ℕ) (bs : Bits) → n ≤ m → take n (bs ++ replicate m false) ≡ padded n bs
unfolding padded
padded-is zero m bs h = refl
padded-is (suc n) zero bs h = absurd (omega arith)
padded-is (suc n) (suc m) [] h = ap (λ r. false ∷ r) (padded-is n m [] (omega arith))
padded-is (suc n) (suc m) (b ∷ bs) h = ap (λ r. b ∷ r) (padded-is n (suc m) bs (omega arith))

length-padded : (n : ℕ) (bs : Bits) → length (padded n bs) ≡ n
unfolding padded
length-padded zero bs = refl
length-padded (suc n) [] = ap suc (length-padded n [])
length-padded (suc n) (b ∷ bs) = ap suc (length-padded n bs)

padded-add : (a b : ℕ) (bs : Bits) → padded (a + b) bs ≡ padded a bs ++ padded b (drop a bs)
unfolding padded
padded-add zero b bs = rw zero-add
padded-add (suc a) b [] = rw (suc-add a b, padded-add a b [], drop-nil {A = Bool} a)
padded-add (suc a) b (x ∷ bs) = rw (suc-add a b) (ap (λ r. x ∷ r) (padded-add a b bs))

padded-there : (n : ℕ) (bs : Bits) → n ≤ length bs → padded n bs ≡ take n bs
unfolding padded
padded-there zero bs h = refl
padded-there (suc n) [] h = absurd (omega arith)
padded-there (suc n) (b ∷ bs) h = ap (λ r. b ∷ r) (padded-there n bs (omega arith))

pub value-append : (a b : Bits) → value_of (a ++ b) ≡ value_of a * 2 ^ length b + value_of b
unfolding value_of
value-append [] b = omega arith
value-append (x ∷ a) b = rw (value-append a b, length-append a b, pow-add 2 (length a) (length b)) (omega arith)

ahead-is : (n : ℕ) (bs : Bits) → ahead n bs ≡ value_of (padded n bs)
unfolding ahead
ahead-is n bs = ap value_of (padded-is n n bs (omega arith))

-- Where the bits are there, their number.
pub ahead-there : (n : ℕ) (bs : Bits) → n ≤ length bs → ahead n bs ≡ value_of (take n bs)
ahead-there n bs h = ahead-is n bs ∙ ap value_of (padded-there n bs h)

pub ahead-bound : (n : ℕ) (bs : Bits) → ahead n bs < 2 ^ n
ahead-bound n bs = rw (ahead-is n bs) (rw (length-padded n bs) at (value-bound (padded n bs)))

pub ahead-add : (a b : ℕ) (bs : Bits) → ahead (a + b) bs ≡ ahead a bs * 2 ^ b + ahead b (drop a bs)
ahead-add a b bs =
    rw (
      ahead-is (a + b) bs,
      ahead-is a bs,
      ahead-is b (drop a bs),
      padded-add a b bs,
      value-append (padded a bs) (padded b (drop a bs)),
      length-padded b (drop a bs),
    )

-- The n bits after a bits, cut out of more.
pub cut : (a n b : ℕ) (bs : Bits) → ahead (a + n + b) bs / 2 ^ b % 2 ^ n ≡ ahead n (drop a bs)
cut a n b bs =
    rw (
      ahead-add (a + n) b bs,
      high (ahead (a + n) bs) b (ahead-bound b (drop (a + n) bs)),
      ahead-add a n bs,
      low (ahead a bs) n (ahead-bound n (drop a bs)),
    )

-- ---- octets

drop-unpack : (i : ℕ) (s : List ℕ) → drop (8 * i) (unpack s) ≡ unpack (drop i s)
unfolding unpack each bits_of
drop-unpack zero s = refl
drop-unpack (suc i) [] = drop-nil (8 * suc i)
drop-unpack (suc i) (o ∷ s) =
    let e : 8 * suc i ≡ suc (suc (suc (suc (suc (suc (suc (suc (8 * i)))))))) = omega arith in
    rw e (drop-unpack i s)

first-octet : (s : List ℕ) → get_or s 0 0 < 256 → ahead 8 (unpack s) ≡ get_or s 0 0
unfolding ahead unpack each bits_of value_of
first-octet [] h = refl
first-octet (o ∷ s) h = value-of-bits 8 o h

pub octet-ahead : (s : List ℕ) (i : ℕ) {o : ℕ} → Octet s i o → ahead 8 (drop (8 * i) (unpack s)) ≡ o
octet-ahead s i {o} h =
    let e : get_or (drop i s) 0 0 ≡ o = get_or-drop i s 0 0 ∙ ap (λ k. get_or s k 0) (add-zero i) ∙ sym h.is in
    let l : get_or (drop i s) 0 0 < 256 = rw e h.small in
    rw (drop-unpack i s) (first-octet (drop i s) l ∙ e)

-- The 8 bits at a position, out of the two octets that they lie in.
pub peeked : (s : List ℕ) (at : ℕ) {x y : ℕ} → Octet s (at / 8) x → Octet s (at / 8 + 1) y
    → Peeked s at ((x * 256 + y) / 2 ^ (8 - at % 8) % 256)
peeked s at {x} {y} hx hy =
    let i = at / 8 in
    let j = at % 8 in
    let bs = drop (8 * i) (unpack s) in
    let n : 8 * i + 8 ≡ 8 * (i + 1) = omega arith in
    let h : 8 * i + j ≡ at = omega arith in
    let e : 16 ≡ j + 8 + (8 - j) = omega arith in
    let next : drop 8 bs ≡ drop (8 * (i + 1)) (unpack s) = rw (drop-drop 8 (8 * i) (unpack s), n) in
    let here : drop j bs ≡ drop at (unpack s) = rw (drop-drop j (8 * i) (unpack s), h) in
    let two : ahead 16 bs ≡ x * 256 + y = ahead-add 8 8 bs ∙ rw (next, octet-ahead s i hx, octet-ahead s (i + 1) hy) in
    record {
      is = rw (← two, ← here) (ap (λ k. ahead k bs / 2 ^ (8 - j) % 256) e ∙ cut j 8 (8 - j) bs);
      small = omega arith;
    }
