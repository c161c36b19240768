use mathlib.Core.Path.{◌≡◌, refl}
use Prim.Native.Nat.{◌+◌, ◌-◌}
use native.Mathlib.Omega.{arith}
use Rattle.read_field.proofs.View.{refusal-some}
use Rattle.receiver_strings.proofs.Points.{turn-start, turn-asks, turn-refused}
use Rattle.receiver_strings.proofs.Points.{turn-next, turn_end}
use Rattle.receiver_strings.proofs.skip.Goals as goal

-- `skip` meets its contract.
pub loop-i-init : goal.loop-i-init
loop-i-init c =
    let e : c.args.n - 0 ≡ c.args.n = omega arith in
    rw e (turn-start _ c.requires)

pub code_point-requires : goal.code_point-requires
code_point-requires c = turn-asks _ c.requires c.loop-i.invariant

pub returns-in-Err : goal.returns-in-Err
returns-in-Err c =
    turn-refused _ c.requires c.loop-i.invariant (omega (arith, c.loop-i-test.true))
    c.in-Err.ensures (λ z. absurd (omega (arith, z, refusal-some c.in-Err.refusal)))

pub loop-i-preserved : goal.loop-i-preserved
loop-i-preserved c =
    let e : c.args.n - (c.loop-i.i + 1) ≡ c.args.n - c.loop-i.i - 1 = omega arith in
    rw e
    (turn-next _ c.requires c.loop-i.invariant (omega (arith, c.loop-i-test.true))
    c.in-Ok.ensures refl)

pub returns : goal.returns
returns c = turn_end _ c.requires c.loop-i.invariant (omega (arith, c.loop-i-test.false))
