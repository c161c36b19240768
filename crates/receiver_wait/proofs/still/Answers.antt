use native.Mathlib.Omega.{arith}
use mathlib.Core.Path.{◌≡◌}
use Prim.Native.Nat.{◌-◌}
use Rattle.receiver_wait.proofs.Asks.{still-asks}
use borrow.Author.Rules.{rules}
use Rattle.receiver_wait.proofs.still.Goals as goal

-- `still` meets its contract.
pub skip-requires : goal.skip-requires
skip-requires c =
    let e : c.args.n - 0 ≡ c.args.n = omega arith in rw e (still-asks c.requires)

pub returns : goal.returns
returns c =
    let e : c.args.n - 0 ≡ c.args.n = omega arith in rw e at c.skip.ensures
