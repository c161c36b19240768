use Rattle.grammar_update.specs.Growth.{growth_of}
use native.Mathlib.Omega.{arith}
use borrow.Author.Rules.{rules}
use Rattle.read_first.proofs.growth.Goals as goal

pub returns : goal.returns
unfolding growth_of
returns c = search rules
