use Prim.Native.Nat.{◌+◌}
use Rattle.read_header.proofs.Header.{Passing}
use Rattle.read_header.proofs.read_octets.Given as goal

abbrev pub invariant-loop-o : goal.invariant-loop-o
invariant-loop-o l = Passing l.stream l.fn.first l.at (l.fn.first + l.o-index)
