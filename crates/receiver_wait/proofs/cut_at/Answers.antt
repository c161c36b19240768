use native.Mathlib.Omega.{arith}
use mathlib.Core.Path.{◌≡◌}
use Prim.Native.Nat.{◌-◌}
use Rattle.receiver_wait.proofs.Asks.{look-asks, cut-nothing, cut-looked}
use Rattle.receiver_wait.proofs.cut_at.Goals as goal

-- `cut_at` meets its contract.
pub returns-then-number-ne-ENDED : goal.returns-then-number-ne-ENDED
returns-then-number-ne-ENDED c = cut-nothing c.requires _ _ c.nothing.ensures

pub returns-then-c-eq0 : goal.returns-then-c-eq0
returns-then-c-eq0 c =
    cut-nothing c.requires _ _ c.nothing-then-c-eq0.ensures

pub look-requires : goal.look-requires
look-requires c =
    let e : c.args.n - 0 ≡ c.args.n = omega arith in rw e (look-asks c.requires)

pub returns-in-Ok : goal.returns-in-Ok
returns-in-Ok c =
    let e : c.args.n - 0 ≡ c.args.n = omega arith in
    cut-looked c.requires c.if-number-ne-ENDED.false c.if-c-eq0.false (rw e at c.in-Ok.ensures)

pub returns-in-Err : goal.returns-in-Err
returns-in-Err c =
    let e : c.args.n - 0 ≡ c.args.n = omega arith in
    cut-looked c.requires c.if-number-ne-ENDED.false c.if-c-eq0.false (rw e at c.in-Err.ensures)
