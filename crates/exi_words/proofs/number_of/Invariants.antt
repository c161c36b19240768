-- The digits before the index mean n.
use Rattle.std.proofs.Common.{◌≡◌, drop}
use Rattle.exi_words.specs.Words.{number_from}
use Rattle.exi_words.proofs.number_of.Given as goal

abbrev pub invariant-loop-c : goal.invariant-loop-c
invariant-loop-c l = number_from l.word 0 ≡ number_from (drop l.c-index l.word) l.n
