use native.Mathlib.Omega.{arith}
use mathlib.Core.Path.{◌≡◌}
use Prim.Native.Nat.{◌-◌}
use borrow.Author.Rules.{rules}
use Rattle.receiver_read.proofs.read_held.Goals as goal

-- `read_held` meets its contract.
pub read_on-requires : goal.read_on-requires
read_on-requires c =
    let e : c.args.n - 0 ≡ c.args.n = omega arith in rw e c.requires.advance_pre

pub returns : goal.returns
returns c =
    let e : c.args.n - 0 ≡ c.args.n = omega arith in rw e at c.read_on.ensures
