use Rattle.mem_entries.proofs.Hashing.{Hashing, hash-start, hash-on, hash-end}
use Rattle.mem_entries.proofs.hash.Given as goal

abbrev pub invariant-loop-c : goal.invariant-loop-c
invariant-loop-c l = Hashing l.x l.h l.c-index
