-- Bits cut or filled with zeros to a length, and the octets that they are packed into.
use mathlib.Core.Path.{◌≡◌, refl, sym, ap, ap₂, ◌∙◌}
use Prim.Native.Nat.{ℕ, zero, suc, ◌+◌, ◌*◌, ◌/◌, ◌≤◌}
use native.Mathlib.Nat.{suc-add, zero-add}
use native.Mathlib.Omega.{arith}
use mathlib.Core.Bool.{true, false}
use mathlib.Core.List.{List, [], ◌∷◌, ◌++◌, append-nil}
use lib.ListN.{length, take, drop, replicate}
use lib.Seq.{drop-nil, drop_at}
use lib.Dec.{T}
use Rattle.spec_fields.specs.Bits.{Bits, bits_of, value_of, each, unpack, octets_from, octets_for, pack, all_zero, is_padding}
use Rattle.spec_fields.proofs.Number.{bits_of_value}
use Rattle.spec_fields.proofs.Pack.{Octets, length-unpack, pack-octets, pack-unpack}

-- The first n of these bits, with zeros for those that are missing.
pub fill : ℕ → Bits → Bits
fill zero bs = []
fill (suc n) [] = false ∷ fill n []
fill (suc n) (b ∷ bs) = b ∷ fill n bs

pub length-fill : (n : ℕ) (bs : Bits) → length (fill n bs) ≡ n
unfolding fill
length-fill zero bs = refl
length-fill (suc n) [] = ap suc (length-fill n [])
length-fill (suc n) (b ∷ bs) = ap suc (length-fill n bs)

pub fill-front : (a b : Bits) → fill (length a) (a ++ b) ≡ a
unfolding fill
fill-front [] b = refl
fill-front (x ∷ a) b = ap (λ r. x ∷ r) (fill-front a b)

pub fill-within : (n : ℕ) (a b : Bits) → n ≤ length a → fill n (a ++ b) ≡ fill n a
unfolding fill
fill-within zero a b h = refl
fill-within (suc n) [] b h = absurd (omega arith)
fill-within (suc n) (x ∷ a) b h = ap (λ r. x ∷ r) (fill-within n a b (omega arith))

pub fill-add : (m n : ℕ) (bs : Bits) → fill (m + n) bs ≡ fill m bs ++ fill n (drop m bs)
unfolding fill
fill-add zero n bs = rw (zero-add n)
fill-add (suc m) n [] = rw (suc-add m n, fill-add m n [], drop-nil m)
fill-add (suc m) n (b ∷ bs) = rw (suc-add m n, fill-add m n bs)

-- Zeros behind the bits make no difference.
pub fill-zeros : (n m : ℕ) (bs : Bits) → fill n (bs ++ replicate m false) ≡ fill n bs
unfolding fill
fill-zeros zero m bs = refl
fill-zeros (suc n) zero bs = ap (fill (suc n)) (append-nil bs)
fill-zeros (suc n) (suc m) [] = ap (λ r. false ∷ r) (fill-zeros n m [])
fill-zeros (suc n) (suc m) (b ∷ bs) = ap (λ r. b ∷ r) (fill-zeros n (suc m) bs)

pub fill-take : (n m : ℕ) (bs : Bits) → n ≤ length bs + m → fill n bs ≡ take n (bs ++ replicate m false)
unfolding fill
fill-take zero m bs h = refl
fill-take (suc n) m (b ∷ bs) h = ap (λ r. b ∷ r) (fill-take n m bs (omega arith))
fill-take (suc n) zero [] h = absurd (omega arith)
fill-take (suc n) (suc m) [] h = ap (λ r. false ∷ r) (fill-take n m [] (omega arith))

-- Where all bits from bit k on are zero, the first k are enough.
pub fill-blank : (k : ℕ) (bs : Bits) → T (all_zero (drop k bs)) → fill (length bs) (fill k bs) ≡ fill (length bs) bs
unfolding fill all_zero
fill-blank k [] t = refl
fill-blank zero (true ∷ bs) t = absurd t
fill-blank zero (false ∷ bs) t = ap (λ r. false ∷ r) (fill-blank zero bs t)
fill-blank (suc k) (b ∷ bs) t = ap (λ r. b ∷ r) (fill-blank k bs t)

-- What is filled up is zero behind the bits.
pub blank-fill : (n : ℕ) (bs : Bits) → T (all_zero (drop (length bs) (fill n bs)))
unfolding fill all_zero
blank-fill zero [] = tt
blank-fill (suc n) [] = blank-fill n []
blank-fill zero (b ∷ bs) = tt
blank-fill (suc n) (b ∷ bs) = blank-fill n bs

-- Bits w behind the first k of a list, inside its length: zeros that fill the k up would be past it.
pub behind-taken : (k : ℕ) (bs w : Bits) → fill (length bs) (take k bs ++ w) ≡ fill (length bs) (fill k bs ++ w)
unfolding fill
behind-taken k [] w = refl
behind-taken zero (b ∷ bs) w = refl
behind-taken (suc k) (b ∷ bs) w = ap (λ r. b ∷ r) (behind-taken k bs w)

-- Bits w behind others, inside n: what n cuts off is past it.
pub behind-filled : (n : ℕ) (bs w : Bits) → fill n (take (length bs) (fill n bs) ++ w) ≡ fill n (bs ++ w)
unfolding fill
behind-filled zero bs w = refl
behind-filled (suc n) [] w = refl
behind-filled (suc n) (b ∷ bs) w = ap (λ r. b ∷ r) (behind-filled n bs w)

-- ---- octets

pub length-octets : (n : ℕ) (bs : Bits) → length (octets_from n bs) ≡ n
unfolding octets_from
length-octets zero bs = refl
length-octets (suc n) bs = ap suc (length-octets n (drop 8 bs))

pub no-octets : (bs : Bits) → octets_from 0 bs ≡ []
unfolding octets_from
no-octets bs = refl

pub first-octet : (n : ℕ) (bs : Bits) → octets_from (suc n) bs ≡ value_of (fill 8 bs) ∷ octets_from n (drop 8 bs)
unfolding octets_from
first-octet n bs = ap (λ f. value_of f ∷ octets_from n (drop 8 bs)) (sym (fill-take 8 8 bs (omega arith)))

next-eight : (n : ℕ) (bs : Bits) → fill (8 * suc n) bs ≡ fill 8 bs ++ fill (8 * n) (drop 8 bs)
next-eight n bs = let e : 8 * suc n ≡ 8 + 8 * n = omega arith in rw e (fill-add 8 (8 * n) bs)

pub unpack-from : (n : ℕ) (bs : Bits) → unpack (octets_from n bs) ≡ fill (8 * n) bs
unfolding unpack each fill octets_from
unpack-from zero bs = refl
unpack-from (suc n) bs =
    let f : bits_of 8 (value_of (fill 8 bs)) ≡ fill 8 bs = rw (length-fill 8 bs) at (bits_of_value (fill 8 bs)) in
    ap unpack (first-octet n bs) ∙ ap₂ ◌++◌ f (unpack-from n (drop 8 bs)) ∙ sym (next-eight n bs)

-- The octets depend on these bits alone.
pub octets-fill : (n : ℕ) (bs : Bits) → octets_from n (fill (8 * n) bs) ≡ octets_from n bs
unfolding octets_from
octets-fill zero bs = refl
octets-fill (suc n) bs =
    let rest = fill (8 * n) (drop 8 bs) in
    let h : fill 8 (fill 8 bs ++ rest) ≡ fill 8 bs = rw (length-fill 8 bs) at (fill-front (fill 8 bs) rest) in
    let d : drop 8 (fill 8 bs ++ rest) ≡ rest = drop_at (fill 8 bs) rest 8 (length-fill 8 bs) in
    rw (next-eight n bs, first-octet n (fill 8 bs ++ rest), h, d, octets-fill n (drop 8 bs), first-octet n bs)

pub same-octets : (n : ℕ) (a b : Bits) → fill (8 * n) a ≡ fill (8 * n) b → octets_from n a ≡ octets_from n b
same-octets n a b e = sym (octets-fill n a) ∙ ap (octets_from n) e ∙ octets-fill n b

pub from-unpack : (os : List ℕ) → Octets os → octets_from (length os) (unpack os) ≡ os
unfolding pack octets_for is_padding all_zero
from-unpack os h =
    let e : (length (unpack os) + 7) / 8 ≡ length os = omega (arith, length-unpack os) in
    ap (λ n. octets_from n (unpack os)) (sym e) ∙ sym (pack-unpack os (unpack os) [] h (sym (append-nil (unpack os))) tt)

pub octets-from : (n : ℕ) (bs : Bits) → Octets (octets_from n bs)
unfolding pack octets_for
octets-from n bs =
    let e : (length (fill (8 * n) bs) + 7) / 8 ≡ n = omega (arith, length-fill (8 * n) bs) in
    rw (← octets-fill n bs) (rw e at (pack-octets (fill (8 * n) bs)))
