-- A field cut out of a window of two or three octets by a shift and a mask.
use mathlib.Core.Path.{◌≡◌, sym, ap, ◌∙◌}
use mathlib.Core.List.{List}
use Prim.Native.Nat.{ℕ, ◌+◌, ◌*◌, ◌-◌, ◌/◌, ◌%◌, ◌^◌, ◌≤◌, ◌<◌}
use native.Mathlib.Nat.{mul_assoc, mul-add-mod_self_right}
use native.Mathlib.Omega.{arith}
use lib.ListN.{drop}
use lib.Seq.{drop-drop}
use lib.Pow.{pow-add, field, shl_exact}
use lib.Bits.{bit_and, and_mask}
use lib.Dec.{leb}
use borrow.Author.Tests.{leb-true, leb-false}
use Rattle.spec_fields.specs.Bits.{unpack}
use Rattle.spec_fields.proofs.Tests.{split}
use Rattle.read_field.specs.Parts.{ahead, Octet}
use Rattle.read_field.proofs.Ahead.{ahead-add, octet-ahead, cut}

-- ---- masks

-- 2 ^ n as the machine shifts it.
pub power : (n : ℕ) → n ≤ 16 → (1 * 2 ^ n) % 2 ^ 32 ≡ 2 ^ n
power n h = shl_exact 1 n 32 (omega arith) (omega arith) ∙ omega arith

-- The n lowest bits.
pub masked : (x n : ℕ) → n ≤ 16 → bit_and x ((1 * 2 ^ n) % 2 ^ 32 - 1) ≡ x % 2 ^ n
masked x n h = rw (power n h) (and_mask x n)

-- ---- the window

-- n bits in the middle of a number: what stands a bits above them makes no difference.
above : (w a n b r : ℕ) → (w * 2 ^ (a + n + b) + r) / 2 ^ b % 2 ^ n ≡ r / 2 ^ b % 2 ^ n
above w a n b r =
    let e : a + n + b ≡ a + (n + b) = omega arith in
    let m : w * 2 ^ (a + n + b) ≡ w * 2 ^ a * 2 ^ (n + b) =
    rw (e, pow-add 2 a (n + b)) (sym (mul_assoc w (2 ^ a) (2 ^ (n + b)))) in
    let x = w * 2 ^ (a + n + b) + r in
    let low : x % 2 ^ (n + b) ≡ r % 2 ^ (n + b) =
    rw m (mul-add-mod_self_right (w * 2 ^ a) (2 ^ (n + b)) r) in
    sym (field x n b) ∙ ap (λ y. y / 2 ^ b) low ∙ field r n b

-- An octet, q octets behind octet i.
octet-behind : (s : List ℕ) (i q : ℕ) {j o : ℕ} → Octet s j o → j ≡ i + q
    → o ≡ ahead 8 (drop (8 * q) (drop (8 * i) (unpack s)))
octet-behind s i q {j} h e =
    let d : 8 * i + 8 * q ≡ 8 * j = omega arith in
    rw (drop-drop (8 * q) (8 * i) (unpack s), d) (sym (octet-ahead s j h))

-- The bits behind the field in its last octet.
abbrev pub spare : ℕ → ℕ → ℕ
spare at n = 7 - (at + n - 1) % 8

module _ (s : List ℕ) (at n : ℕ) where
  -- The field lies in t octets, and other bits stand before them.
  spanned : (w t : ℕ) → 8 * t ≡ at % 8 + n + spare at n
      → (w * 2 ^ (8 * t) + ahead (8 * t) (drop (8 * (at / 8)) (unpack s))) / 2 ^ spare at n % 2 ^ n
      ≡ ahead n (drop at (unpack s))
  spanned w t e =
      let bs = drop (8 * (at / 8)) (unpack s) in
      let here : 8 * (at / 8) + at % 8 ≡ at = omega arith in
      let there : drop (at % 8) bs ≡ drop at (unpack s) =
      rw (drop-drop (at % 8) (8 * (at / 8)) (unpack s), here) in
      let r = ahead (at % 8 + n + spare at n) bs in
      rw e
      (above w (at % 8) n (spare at n) r ∙ cut (at % 8) n (spare at n) bs ∙ ap (ahead n) there)

  -- The first octet and the last, or one octet twice.
  pub window-two : {x z : ℕ} → 0 < n → n ≤ 8 → Octet s (at / 8) x → Octet s ((at + n - 1) / 8) z
      → (x * 256 + z) / 2 ^ spare at n % 2 ^ n ≡ ahead n (drop at (unpack s))
  window-two {x} {z} p h hx hz =
      let i = at / 8 in
      let j = (at + n - 1) / 8 in
      let bs = drop (8 * i) (unpack s) in
      split (leb j i)
      (λ e.
      let l = leb-true j i e in
      let ez : z ≡ ahead 8 bs = octet-behind s i 0 hz (omega arith) in
      let r : x * 256 + z ≡ x * 256 + ahead 8 bs = omega arith in
      rw r (spanned x 1 (omega arith)))
      (λ e.
      let l = leb-false j i e in
      let ex : x ≡ ahead 8 bs = octet-behind s i 0 hx (omega arith) in
      let ez : z ≡ ahead 8 (drop 8 bs) = octet-behind s i 1 hz (omega arith) in
      let r : x * 256 + z ≡ 0 * 65536 + ahead 16 bs = omega (arith, ahead-add 8 8 bs) in
      rw r (spanned 0 2 (omega arith)))

  -- The first octet, the one before the last, or the first again, and the last.
  pub window : {x y z : ℕ} → 0 < n → n ≤ 16 → Octet s (at / 8) x
      → Octet s ((at / 8 + (at + n - 1) / 8) / 2) y → Octet s ((at + n - 1) / 8) z
      → (x * 65536 + y * 256 + z) / 2 ^ spare at n % 2 ^ n ≡ ahead n (drop at (unpack s))
  window {x} {y} {z} p h hx hy hz =
      let i = at / 8 in
      let j = (at + n - 1) / 8 in
      let bs = drop (8 * i) (unpack s) in
      let ex : x ≡ ahead 8 bs = octet-behind s i 0 hx (omega arith) in
      split (leb j i)
      (λ e.
      let l = leb-true j i e in
      let ez : z ≡ ahead 8 bs = octet-behind s i 0 hz (omega arith) in
      let r : x * 65536 + y * 256 + z ≡ (x * 256 + y) * 256 + ahead 8 bs = omega arith in
      rw r (spanned (x * 256 + y) 1 (omega arith)))
      (λ e.
      let l = leb-false j i e in
      split (leb j (i + 1))
      (λ f.
      let m = leb-true j (i + 1) f in
      let ey : y ≡ ahead 8 bs = octet-behind s i 0 hy (omega arith) in
      let ez : z ≡ ahead 8 (drop 8 bs) = octet-behind s i 1 hz (omega arith) in
      let r : x * 65536 + y * 256 + z ≡ x * 65536 + ahead 16 bs = omega (arith, ahead-add 8 8 bs) in
      rw r (spanned x 2 (omega arith)))
      (λ f.
      let m = leb-false j (i + 1) f in
      let ey : y ≡ ahead 8 (drop 8 bs) = octet-behind s i 1 hy (omega arith) in
      let ez : z ≡ ahead 8 (drop 16 bs) = octet-behind s i 2 hz (omega arith) in
      let r : x * 65536 + y * 256 + z ≡ 0 * 16777216 + ahead 24 bs =
      omega (arith, ahead-add 16 8 bs, ahead-add 8 8 bs) in
      rw r (spanned 0 3 (omega arith))))
