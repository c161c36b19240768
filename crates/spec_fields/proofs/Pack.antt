-- Packing bits into octets and unpacking octets into bits undo each other, but for the pad bits.
use mathlib.Core.Path.{◌≡◌, refl, sym, ap, ap₂, ◌∙◌}
use Prim.Native.Nat.{ℕ, zero, suc, ◌-◌, ◌*◌, ◌≤◌}
use native.Mathlib.Omega.{arith}
use mathlib.Core.Bool.{true, false}
use mathlib.Core.List.{List, [], ◌∷◌, ◌++◌, append_assoc}
use lib.ListN.{length, take, drop, replicate, length-append, length-replicate}
use lib.Seq.{length-take-le, drop-nil, take_all}
use lib.Dec.{T, leb, leb→le, le→leb}
use Rattle.spec_fields.specs.Bits.{Bits, bits_of, value_of, each, unpack, octets_from, octets_for}
use Rattle.spec_fields.specs.Bits.{pack, all_zero, is_padding}
use Rattle.spec_fields.proofs.Tests.{both, left, right}
use Rattle.spec_fields.proofs.Exact.{Every}
use Rattle.spec_fields.proofs.Number.{bits_of_value, value-of-bits, value-bound, IsOctet}

-- All are octets.
abbrev pub Octets : List ℕ → Type 0
Octets os = Every IsOctet os

-- The bits of octets one after the other.
pub unpack-append : (a b : List ℕ) → unpack (a ++ b) ≡ unpack a ++ unpack b
unfolding unpack each
unpack-append [] b = refl
unpack-append (o ∷ os) b =
    ap (λ bs. bits_of 8 o ++ bs) (unpack-append os b) ∙ sym (append_assoc (bits_of 8 o) (unpack os) (unpack b))

-- Eight bits an octet.
pub length-unpack : (os : List ℕ) → length (unpack os) ≡ 8 * length os
unfolding unpack each bits_of
length-unpack [] = refl
length-unpack (o ∷ os) = omega (arith, length-unpack os)

-- The bits of the first octet that these are packed into.
front : Bits → Bits
front bs = take 8 (bs ++ replicate 8 false)

length_front : (bs : Bits) → length (front bs) ≡ 8
unfolding front
length_front bs = length-take-le 8 (bs ++ replicate 8 false) (omega (arith, length-append bs (replicate 8 false)))

octets-from : (n : ℕ) (bs : Bits) → Octets (octets_from n bs)
unfolding octets_from front
octets-from zero bs = tt
octets-from (suc n) bs = (rw (length_front bs) at (value-bound (front bs)), octets-from n (drop 8 bs))

-- Packed bits are octets.
pub pack-octets : (bs : Bits) → Octets (pack bs)
unfolding pack
pack-octets bs = octets-from (octets_for (length bs)) bs

-- An octet is the number of its bits.
from-unpack : (os : List ℕ) → Octets os → octets_from (length os) (unpack os) ≡ os
unfolding octets_from unpack each bits_of
from-unpack [] h = refl
from-unpack (o ∷ os) h = ap₂ ◌∷◌ (value-of-bits 8 o h.0) (from-unpack os h.1)

-- Octets with the same bits are the same.
pub unpack-injective : (a b : List ℕ) → Octets a → Octets b → unpack a ≡ unpack b → a ≡ b
unpack-injective a b ha hb e =
    let l : length a ≡ length b = omega (arith, length-unpack a, length-unpack b, ap length e) in
    sym (from-unpack a ha) ∙ ap₂ octets_from l e ∙ from-unpack b hb

-- Zeros after the bits stand where `octets_from` puts zeros for missing bits: after k bits, y is
-- what is left of them.
cut : (k m : ℕ) (bs z : Bits) → k ≤ m → T (all_zero z) → k ≤ length (bs ++ z)
    → (y : Bits) × T (all_zero y) × (take k (bs ++ replicate m false) ++ (drop k bs ++ y) ≡ bs ++ z)
unfolding all_zero
cut zero m bs z h t l = (z, t, refl)
cut (suc k) zero bs z h t l = absurd (omega arith)
cut (suc k) (suc m) [] [] h t l = absurd (omega arith)
cut (suc k) (suc m) [] (true ∷ z) h t l = absurd t
cut (suc k) (suc m) [] (false ∷ z) h t l =
    let (y, u, e) = cut k m [] z (omega arith) t (omega arith) in
    (y, u, ap (λ r. false ∷ r) (rw (drop-nil k) at e))
cut (suc k) (suc m) (b ∷ bs) z h t l =
    let (y, u, e) = cut k (suc m) bs z (omega arith) t (omega arith) in
    (y, u, ap (λ r. b ∷ r) e)

-- Bits that zeros fill up to n octets are, with these zeros, what the n octets unpack to.
unpack-from : (n : ℕ) (bs z : Bits) → T (all_zero z) → length (bs ++ z) ≡ 8 * n → unpack (octets_from n bs) ≡ bs ++ z
unfolding octets_from unpack each front
unpack-from zero bs z t l = take_all 0 (bs ++ z) (omega arith)
unpack-from (suc n) bs z t l =
    let (y, u, e) = cut 8 8 bs z (omega arith) t (omega arith) in
    let f : bits_of 8 (value_of (front bs)) ≡ front bs = rw (length_front bs) at (bits_of_value (front bs)) in
    let rest : length (drop 8 bs ++ y) ≡ 8 * n = omega
    (arith, ap length e, length-append (front bs) (drop 8 bs ++ y), length_front bs) in
    ap₂ ◌++◌ f (unpack-from n (drop 8 bs) y u rest) ∙ e

zeros : (n : ℕ) → T (all_zero (replicate n false))
unfolding all_zero
zeros zero = tt
zeros (suc n) = zeros n

-- What was packed unpacks to itself and padding (scope, "Fields": zero pad bits to the octet).
pub unpack-pack : (bs : Bits) → (z : Bits) × (unpack (pack bs) ≡ bs ++ z) × T (is_padding z)
unfolding pack is_padding octets_for
unpack-pack bs =
    let n = octets_for (length bs) in
    let z : Bits = replicate (8 * n - length bs) false in
    let l = length-replicate (8 * n - length bs) false in
    let t = zeros (8 * n - length bs) in (
      z,
      unpack-from n bs z t (omega (arith, length-append bs z)),
      both (leb (length z) 7) (all_zero z) (le→leb (length z) 7 (omega arith)) t,
    )

-- Octets that unpack to bits and padding are what the bits pack to.
pub pack-unpack : (os : List ℕ) (bs z : Bits) → Octets os → unpack os ≡ bs ++ z → T (is_padding z) → os ≡ pack bs
unfolding pack is_padding octets_for
pack-unpack os bs z h e p =
    let short = leb→le (length z) 7 (left (leb (length z) 7) (all_zero z) p) in
    let l : length (bs ++ z) ≡ 8 * octets_for (length bs) =
    omega (arith, ap length e, length-unpack os, length-append bs z) in
    let back = unpack-from (octets_for (length bs)) bs z (right (leb (length z) 7) (all_zero z) p) l in
    unpack-injective os (pack bs) h (pack-octets bs) (e ∙ sym back)
