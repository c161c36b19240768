use Rattle.mem_entries.proofs.Hashing.{Weighing, weigh-start, weigh-on, weigh-end}
use native.Mathlib.Omega.{arith}
use Rattle.mem_entries.proofs.weigh.Given as goal

abbrev pub invariant-loop-c : goal.invariant-loop-c
invariant-loop-c l = Weighing l.x l.h l.chars l.c-index
