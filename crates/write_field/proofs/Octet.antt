-- Bits put behind others, up to the end of an octet, lie in one cell.
use mathlib.Core.Path.{◌≡◌, refl, sym, ap, ◌∙◌}
use Prim.Native.Nat.{ℕ, zero, suc, ◌+◌, ◌*◌, ◌-◌, ◌/◌, ◌%◌, ◌^◌, ◌≤◌, ◌<◌}
use native.Mathlib.Omega.{arith}
use mathlib.Core.Bool.{false}
use mathlib.Core.List.{List, [], ◌∷◌, ◌++◌, append-nil}
use lib.ListN.{length, drop, replicate, set, get_or}
use lib.ListN.{length-append, length-replicate, drop_of_length-le, length-drop}
use lib.Seq.{drop-append-le, take_all, set_out, get_or-set_same}
use mir.Syntax.{w8}
use mir.Val.{Fits}
use lib.Dec.{T}
use Rattle.spec_fields.specs.Bits.{Bits, bits_of, value_of, octets_from}
use Rattle.spec_fields.proofs.Number.{length-bits, bits_of_value, value-of-bits}
use Rattle.read_field.proofs.Ahead.{value-append}
use Rattle.write_field.specs.Written.{written, blank_from, Put, PutPartPre}
use Rattle.write_field.proofs.Fill.{fill, fill-front, fill-within, fill-take, no-octets, first-octet}
use Rattle.write_field.proofs.Written.{before, length_before, written_is, written-octets, blank-is, octets-of}
use Rattle.write_field.proofs.Written.{octet-below}

-- ---- bits of numbers that stand side by side

pub value-zeros : (n : ℕ) → value_of (replicate n false) ≡ 0
unfolding value_of
value-zeros zero = refl
value-zeros (suc n) = rw (value-zeros n) (omega arith)

pub bits-join : (m n a b : ℕ) → a < 2 ^ m → b < 2 ^ n → bits_of (m + n) (a * 2 ^ n + b) ≡ bits_of m a ++ bits_of n b
bits-join m n a b ha hb =
    let w = bits_of m a ++ bits_of n b in
    let l : length w ≡ m + n = rw (length-append (bits_of m a) (bits_of n b), length-bits m a, length-bits n b) in
    let e = value-append (bits_of m a) (bits_of n b) in
    let v : value_of w ≡ a * 2 ^ n + b =
    rw (e, length-bits n b, value-of-bits m a ha, value-of-bits n b hb) in
    rw (← l, ← v) (bits_of_value w)

-- ---- the cell

fill-short : (m : ℕ) (p : Bits) → fill (length p + m) p ≡ p ++ replicate m false
fill-short m p =
    fill-take (length p + m) m p (omega arith)
    ∙ take_all (length p + m) (p ++ replicate m false)
    (omega (arith, length-append p (replicate m false), length-replicate m false))

value-fill : (p : Bits) (m : ℕ) → value_of (fill (length p + m) p) ≡ value_of p * 2 ^ m
value-fill p m =
    ap value_of (fill-short m p)
    ∙ value-append p (replicate m false)
    ∙ rw (length-replicate m false, value-zeros m) (omega arith)

module _ (k j o : ℕ) (e : j + k ≡ 8) (h : o < 2 ^ j) where
  -- k bits, and j that end the cell.
  full : (p : Bits) → length p ≡ k → length (p ++ bits_of j o) ≡ 8
  full p l = omega (arith, length-append p (bits_of j o), length-bits j o)

  value : (p : Bits) → length p ≡ k → value_of (fill 8 (p ++ bits_of j o)) ≡ value_of (fill 8 p) + o
  value p l =
      let a = p ++ bits_of j o in
      let f : fill 8 a ≡ a = rw (append-nil a, full p l) at (fill-front a []) in
      let g : length p + j ≡ 8 = omega arith in
      let z : value_of (fill 8 p) ≡ value_of p * 2 ^ j = rw g at (value-fill p j) in
      rw (f, z, value-append p (bits_of j o), length-bits j o, value-of-bits j o h)

  -- Behind 8 * i + k bits.
  cell : (n : ℕ) (p : Bits) (i : ℕ) → length p ≡ 8 * i + k
      → octets_from n (p ++ bits_of j o) ≡ set (octets_from n p) i (get_or (octets_from n p) i 0 + o)
  cell zero p i l = rw (no-octets (p ++ bits_of j o), no-octets p)
  cell (suc n) p zero l =
      let g : length p ≡ k = omega arith in
      let d = drop_of_length-le (p ++ bits_of j o) {i = 8} (omega (arith, full p g)) in
      let d' = drop_of_length-le p {i = 8} (omega arith) in
      rw (first-octet n (p ++ bits_of j o), first-octet n p, d, d')
      (ap (λ x. x ∷ octets_from n []) (value p g))
  cell (suc n) p (suc i) l =
      let g : length (drop 8 p) ≡ 8 * i + k = omega (arith, length-drop 8 p) in
      let f = fill-within 8 p (bits_of j o) (omega arith) in
      let s = drop-append-le 8 p (bits_of j o) (omega arith) in
      rw (first-octet n (p ++ bits_of j o), first-octet n p, f, s)
      (ap (λ os. value_of (fill 8 p) ∷ os) (cell n (drop 8 p) i g))

-- ---- as the code computes it

module _ {buf : List ℕ} {at o : ℕ} (known : (i : ℕ) → Fits w8 (get_or buf i 0))
    (h : PutPartPre buf at (8 - at % 8) o) where
  stored : written buf at (bits_of (8 - at % 8) o) ≡ set buf (at / 8) (get_or buf (at / 8) 0 + o)
  stored =
      let l : length (before buf at) ≡ 8 * (at / 8) + at % 8 = length_before buf at ∙ omega arith in
      let j = 8 - at % 8 in
      let c = cell (at % 8) j o (omega arith) h.fits (length buf) (before buf at) (at / 8) l in
      let b = blank-is buf at (octets-of buf known) h.blank in
      written_is buf at (bits_of (8 - at % 8) o) ∙ (rw b at c)

  put_as : (after : List ℕ) → written buf at (bits_of (8 - at % 8) o) ≡ after
      → Put buf at (bits_of (8 - at % 8) o) after (at - at % 8 + 8)
  put_as after e = record { octets = sym e; next = omega (arith, length-bits (8 - at % 8) o) }

  pub put-outside : length buf ≤ at / 8 → Put buf at (bits_of (8 - at % 8) o) buf (at - at % 8 + 8)
  put-outside l = put_as buf (stored ∙ set_out buf (at / 8) (get_or buf (at / 8) 0 + o) l)

  module _ {x : ℕ} (e : x ≡ get_or buf (at / 8) 0) where
    pub put-inside : Put buf at (bits_of (8 - at % 8) o) (set buf (at / 8) (x + o)) (at - at % 8 + 8)
    put-inside = rw e (put_as (set buf (at / 8) (get_or buf (at / 8) 0 + o)) stored)

    pub cell-fits : at / 8 < length buf → x + o < 256
    cell-fits l =
        let w = written buf at (bits_of (8 - at % 8) o) in
        let b = octet-below w (at / 8) (written-octets buf at (bits_of (8 - at % 8) o)) in
        rw e (rw (stored, get_or-set_same buf (at / 8) (get_or buf (at / 8) 0 + o) 0 l) at b)
