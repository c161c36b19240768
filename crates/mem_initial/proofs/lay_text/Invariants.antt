use Rattle.mem_initial.proofs.Turn.{Copied}
use Rattle.mem_initial.proofs.lay_text.Given as goal

abbrev pub invariant-loop-i : goal.invariant-loop-i
invariant-loop-i l = Copied l.initial.cells l.origin l.cells l.i
