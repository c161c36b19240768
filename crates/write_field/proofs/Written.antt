-- Laws of `written`: what callers of the fields' functions cite.
use mathlib.Core.Path.{◌≡◌, sym, ap, ap₂, ◌∙◌}
use Prim.Native.Nat.{ℕ, zero, suc, ◌+◌, ◌*◌, ◌<◌}
use native.Mathlib.Omega.{arith}
use mathlib.Core.Bool.{false}
use mathlib.Core.List.{List, [], ◌∷◌, ◌++◌, append_assoc, append-nil}
use lib.ListN.{length, get_or, take, replicate, length-append}
use mir.Syntax.{w8}
use mir.Val.{Fits}
use lib.Dec.{T}
use Rattle.spec_fields.specs.Bits.{Bits, bits_of, each, unpack, octets_from, pack, all_zero}
use Rattle.spec_fields.proofs.Pack.{Octets, length-unpack}
use Rattle.write_field.specs.Written.{written, blank_from, Put}
use Rattle.write_field.proofs.Fill.{fill, length-fill, fill-zeros, fill-blank, blank-fill, behind-taken}
use Rattle.write_field.proofs.Fill.{behind-filled, length-octets, unpack-from, same-octets, from-unpack}
use Rattle.write_field.proofs.Fill.{octets-from}

-- The octets of a slice.
pub octets-of : (os : List ℕ) → ((i : ℕ) → Fits w8 (get_or os i 0)) → Octets os
octets-of [] f = tt
octets-of (o ∷ os) f = ((f 0).fits, octets-of os (λ i. f (suc i)))

pub octet-below : (os : List ℕ) (i : ℕ) → Octets os → get_or os i 0 < 256
octet-below [] i h = omega arith
octet-below (o ∷ os) zero h = h.0
octet-below (o ∷ os) (suc i) h = octet-below os i h.1

-- The bits of buf before bit `at`; past its end, zeros.
pub before : List ℕ → ℕ → Bits
before buf at = fill at (unpack buf)

pub length_before : (buf : List ℕ) (at : ℕ) → length (before buf at) ≡ at
unfolding before
length_before buf at = length-fill at (unpack buf)

pub written_is : (buf : List ℕ) (at : ℕ) (w : Bits) → written buf at w ≡ octets_from (length buf) (before buf at ++ w)
unfolding written before
written_is buf at w =
    same-octets (length buf) (take at (unpack buf) ++ w) (fill at (unpack buf) ++ w)
    (rw (length-unpack buf) at (behind-taken at (unpack buf) w))

-- Bits put right behind the bits of octets that hold nothing else.
pub written_behind : (n : ℕ) (p w : Bits) → written (octets_from n p) (length p) w ≡ octets_from n (p ++ w)
unfolding written
written_behind n p w =
    rw (length-octets n p, unpack-from n p)
    (same-octets n (take (length p) (fill (8 * n) p) ++ w) (p ++ w) (behind-filled (8 * n) p w))

pub length-written : (buf : List ℕ) (at : ℕ) (w : Bits) → length (written buf at w) ≡ length buf
unfolding written
length-written buf at w = length-octets (length buf) (take at (unpack buf) ++ w)

pub written-octets : (buf : List ℕ) (at : ℕ) (w : Bits) → Octets (written buf at w)
unfolding written
written-octets buf at w = octets-from (length buf) (take at (unpack buf) ++ w)

-- The position after w.
position : (buf : List ℕ) (at : ℕ) (w : Bits) → length (before buf at ++ w) ≡ at + length w
position buf at w = length-append (before buf at) w ∙ ap (λ n. n + length w) (length_before buf at)

-- Writing w, and u behind it, is writing both at once, also past the end.
pub written_then : (buf : List ℕ) (at : ℕ) (w u : Bits)
    → written (written buf at w) (at + length w) u ≡ written buf at (w ++ u)
written_then buf at w u =
    ap₂ (λ b n. written b n u) (written_is buf at w) (sym (position buf at w))
    ∙ written_behind (length buf) (before buf at ++ w) u
    ∙ ap (octets_from (length buf)) (append_assoc (before buf at) w u)
    ∙ sym (written_is buf at (w ++ u))

-- Behind what was written the buffer is blank.
pub written-blank : (buf : List ℕ) (at : ℕ) (w : Bits) → T (blank_from (written buf at w) (at + length w))
unfolding blank_from
written-blank buf at w =
    rw (written_is buf at w, unpack-from (length buf) (before buf at ++ w), ← position buf at w)
    (blank-fill (8 * length buf) (before buf at ++ w))

-- Zeros at the end of what is written make no difference.
pub written-zeros : (buf : List ℕ) (at : ℕ) (w : Bits) (m : ℕ)
    → written buf at (w ++ replicate m false) ≡ written buf at w
unfolding written
written-zeros buf at w m =
    let p = take at (unpack buf) ++ w in
    rw (← append_assoc (take at (unpack buf)) w (replicate m false))
    (same-octets (length buf) (p ++ replicate m false) p (fill-zeros (8 * length buf) m p))

-- A buffer that is blank from bit `at` on is its bits before that.
pub blank-is : (buf : List ℕ) (at : ℕ) → Octets buf → T (blank_from buf at)
    → octets_from (length buf) (before buf at) ≡ buf
unfolding blank_from before
blank-is buf at h t =
    same-octets (length buf) (fill at (unpack buf)) (unpack buf)
    (rw (length-unpack buf) at (fill-blank at (unpack buf) t))
    ∙ from-unpack buf h

pub written-nothing : (buf : List ℕ) (at : ℕ) → Octets buf → T (blank_from buf at) → written buf at [] ≡ buf
written-nothing buf at h t =
    written_is buf at [] ∙ ap (octets_from (length buf)) (append-nil (before buf at)) ∙ blank-is buf at h t

-- ---- at the two ends of a run of writes

pub zeros-blank : (n : ℕ) → T (blank_from (replicate n 0) 0)
unfolding blank_from unpack each bits_of all_zero
zeros-blank zero = tt
zeros-blank (suc n) = zeros-blank n

-- ---- the same of what a function leaves

pub put_then : {buf mid after : List ℕ} {at p r : ℕ} {w u : Bits} → Put buf at w mid p
    → Put mid p u after r → Put buf at (w ++ u) after r
put_then {buf} {mid} {after} {at} {p} {r} {w} {u} a b =
    record {
      octets = b.octets ∙ ap₂ (λ os n. written os n u) a.octets a.next ∙ written_then buf at w u;
      next = omega (arith, a.next, b.next, length-append w u);
    }

pub put-blank : {buf after : List ℕ} {at r : ℕ} {w : Bits} → Put buf at w after r → T (blank_from after r)
put-blank {buf} {after} {at} {r} {w} a = rw (a.octets, a.next) (written-blank buf at w)

pub put-length : {buf after : List ℕ} {at r : ℕ} {w : Bits} → Put buf at w after r → length after ≡ length buf
put-length {buf} {after} {at} {r} {w} a = ap length a.octets ∙ length-written buf at w

pub put-known : {buf after : List ℕ} {at r : ℕ} {w : Bits} → Put buf at w after r
    → (i : ℕ) → Fits w8 (get_or after i 0)
put-known {buf} {after} {at} {r} {w} a i =
    record { fits = rw a.octets (octet-below (written buf at w) i (written-octets buf at w)) }

pub put-nothing : {buf : List ℕ} {at : ℕ} → ((i : ℕ) → Fits w8 (get_or buf i 0))
    → T (blank_from buf at) → Put buf at [] buf at
put-nothing {buf} {at} known t =
    record { octets = sym (written-nothing buf at (octets-of buf known) t); next = omega arith }
