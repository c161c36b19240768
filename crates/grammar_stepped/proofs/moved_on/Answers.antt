use Rattle.spec_exi.specs.Sizes.{max_store, max_grammars}
use Rattle.mem_state.proofs.Counts.{one-from}
use native.Mathlib.Omega.{arith}
use borrow.Author.Rules.{rules}
use Rattle.grammar_stepped.proofs.moved_on.Goals as goal

pub overflow_add-result : goal.overflow_add-result
unfolding max_store
overflow_add-result c =
    let pre = c.requires in
    omega (arith, pre.values, pre.stored, (one-from c.from.ensures).most)

pub overflow_add-result-2 : goal.overflow_add-result-2
unfolding max_grammars
overflow_add-result-2 c =
    let pre = c.requires in
    omega (arith, pre.grammars, (one-from c.from-2.ensures).most)

pub returns : goal.returns
returns c = rw ((one-from c.from.ensures).is, (one-from c.from-2.ensures).is)
