use Rattle.write_string.proofs.Laws.{Going}
use Rattle.write_string.proofs.put_characters.Given as goal

abbrev pub invariant-loop-c : goal.invariant-loop-c
invariant-loop-c l = Going l.initial.buf l.at l.k l.x l.buf l.j l.c-index
