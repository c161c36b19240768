use Rattle.receiver_phases.proofs.Phases.{Keeping}
use Rattle.receiver_phases.proofs.keep.Given as goal

abbrev pub invariant-loop-i : goal.invariant-loop-i
invariant-loop-i l = Keeping l.initial.held l.n l.piece l.held l.i
