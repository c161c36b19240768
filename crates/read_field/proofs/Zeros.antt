-- The width of a choice among m is the length of m - 1 in bits, which its leading zeros give.
use mathlib.Core.Path.{◌≡◌}
use Prim.Native.Nat.{ℕ, zero, suc, ◌+◌, ◌-◌, ◌*◌, ◌^◌, ◌≤◌, ◌<◌}
use native.Mathlib.Nat.{pow-suc}
use native.Mathlib.Omega.{arith}
use lib.Pow.{pow_mono}
use lib.Count.{count_leading_zeros, leading_length}
use lib.Dec.{leb}
use borrow.Author.Tests.{leb-true, leb-false}
use Rattle.spec_fields.specs.Field.{width}
use Rattle.spec_fields.proofs.Tests.{split}
use Rattle.spec_fields.proofs.Number.{width-enough, width-least}

-- A length that m - 1 needs is no more than the width.
needed : (m n : ℕ) → 0 < m → 2 ^ n ≤ 2 * (m - 1) + 1 → n ≤ width m
needed m zero p h = omega arith
needed m (suc n) p h =
    split (leb (width m) n)
    (λ e.
    let l : 2 ^ n * 2 ≤ 2 * (m - 1) + 1 = rw (pow-suc 2 n) at h in
    absurd (omega (arith, l, width-enough m, pow_mono (leb-true (width m) n e))))
    (λ e. leb-false (width m) n e)

pub by-zeros : (m : ℕ) → 0 < m → m ≤ 65536 → 32 - count_leading_zeros 32 (m - 1) ≡ width m
by-zeros m p h =
    let (n, all, above, below) = leading_length 32 (m - 1) (omega arith) in
    omega (arith, all, needed m n p below, width-least m n (omega (arith, above)))
