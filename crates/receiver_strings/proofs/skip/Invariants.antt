use Prim.Native.Nat.{◌-◌}
use Rattle.receiver_strings.proofs.Points.{Turn}
use Rattle.receiver_strings.proofs.skip.Given as goal

abbrev pub invariant-loop-i : goal.invariant-loop-i
invariant-loop-i l = Turn l.stream l.at l.n l.place (l.n - l.i)
