use Rattle.text.proofs.Rest.{SameEnds}
use Rattle.text.proofs.same_text.Given as goal

abbrev pub invariant-loop-k : goal.invariant-loop-k
invariant-loop-k l = SameEnds l.a l.b l.k
