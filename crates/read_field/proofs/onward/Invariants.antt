use Prim.Native.Nat.{◌-◌}
use Rattle.read_field.proofs.Groups.{Going}
use Rattle.read_field.proofs.onward.Given as goal

abbrev pub invariant-loop : goal.invariant-loop
invariant-loop l = Going l.s l.at l.first l.place (4 - l.counter) l.weight l.low
