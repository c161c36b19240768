use mathlib.Core.Path.{◌≡◌}
use Prim.Native.Nat.{ℕ, ◌+◌, ◌≤◌, ◌<◌}
use native.Mathlib.Omega.{arith}
use lib.Dec.{leb}
use borrow.Author.Rules.{rules}
use borrow.Author.Tests.{leb-true, leb-false}
use Rattle.spec_fields.proofs.Tests.{split}
use Rattle.spec_exi.specs.Sizes.{max_stream}
use Rattle.receiver_course.specs.Course.{counted}
use Rattle.receiver_course.proofs.count.Goals as goal

-- `count` meets its contract.
pub returns : goal.returns
unfolding counted max_stream
returns c =
    split (leb (c.args.n + c.args.k) 16384)
    (λ e.
    let l : c.args.n + c.args.k ≤ 16384 = leb-true _ _ e in
    let r : c.min.result ≡ c.args.n + c.args.k = omega (arith, c.min.ensures, c.saturating_add.ensures) in
    rw e r)
    (λ e.
    let l : 16384 < c.args.n + c.args.k = leb-false _ _ e in
    let r : c.min.result ≡ 16385 = omega (arith, c.min.ensures, c.saturating_add.ensures) in
    rw e r)
