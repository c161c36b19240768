-- Octets that are written from the start on: those that hold the bits, and zeros behind them.
use mathlib.Core.Path.{◌≡◌, refl, ap, ◌∙◌}
use Prim.Native.Nat.{ℕ, zero, suc, ◌+◌, ◌*◌, ◌-◌, ◌≤◌}
use native.Mathlib.Nat.{suc-add, zero-add}
use native.Mathlib.Omega.{arith}
use mathlib.Core.Bool.{false}
use mathlib.Core.List.{List, [], ◌∷◌, ◌++◌}
use lib.ListN.{length, take, drop, replicate, length-drop}
use Rattle.spec_fields.specs.Bits.{Bits, value_of, octets_from, octets_for, pack}
use Rattle.write_field.specs.Written.{written, Put}
use Rattle.write_field.proofs.Fill.{length-octets}

no_bits : (n : ℕ) → octets_from n [] ≡ replicate n 0
unfolding octets_from value_of
no_bits zero = refl
no_bits (suc n) = ap (λ (os : List ℕ). 0 ∷ os) (no_bits n)

-- Where m octets hold the bits.
zeros-behind : (m k : ℕ) (w : Bits) → length w ≤ 8 * m → octets_from (m + k) w ≡ octets_from m w ++ replicate k 0
unfolding octets_from
zeros-behind zero k [] h = rw (zero-add k) (no_bits k)
zeros-behind zero k (b ∷ w) h = absurd (omega arith)
zeros-behind (suc m) k w h =
    rw (suc-add m k)
    (ap (λ (os : List ℕ). value_of (take 8 (w ++ replicate 8 false)) ∷ os)
    (zeros-behind m k (drop 8 w) (simp length-drop (omega arith))))

pub pack-length : (w : Bits) → length (pack w) ≡ octets_for (length w)
unfolding pack
pack-length w = length-octets (octets_for (length w)) w

pub octets-packed : (n : ℕ) (w : Bits) → octets_for (length w) ≤ n
    → octets_from n w ≡ pack w ++ replicate (n - octets_for (length w)) 0
unfolding pack octets_for
octets-packed n w h =
    let m : ℕ = octets_for (length w) in
    let e : m + (n - m) ≡ n = omega arith in
    rw e at (zeros-behind m (n - m) w (omega arith))

-- All that was written.
pub put-packed : {stream after : List ℕ} {r : ℕ} {w : Bits} → Put stream 0 w after r → length (pack w) ≤ length stream
    → after ≡ pack w ++ replicate (length stream - length (pack w)) 0
unfolding written
put-packed {stream} {after} {r} {w} p h =
    let packed = octets-packed (length stream) w (rw (pack-length w) at h) in
    p.octets ∙ rw (pack-length w) packed
