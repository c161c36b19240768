use Rattle.spec_exi.specs.Sizes.{max_uris, max_names, max_store, max_learned, max_grammars}
use native.Mathlib.Omega.{arith}
use borrow.Author.Rules.{rules}
use Rattle.read_first.proofs.moved.Goals as goal

pub overflow_add-result : goal.overflow_add-result
unfolding max_uris
overflow_add-result c =
    let pre = c.requires in
    omega (arith, pre.uris, c.one.ensures.most)

pub overflow_add-result-2 : goal.overflow_add-result-2
unfolding max_names
overflow_add-result-2 c =
    let pre = c.requires in
    omega (arith, pre.names, c.one-2.ensures.most)

pub overflow_add-result-3 : goal.overflow_add-result-3
unfolding max_store
overflow_add-result-3 c =
    let pre = c.requires in
    omega (arith, pre.values, pre.stored, c.one-3.ensures.most)

pub overflow_add-result-4 : goal.overflow_add-result-4
unfolding max_learned
overflow_add-result-4 c =
    let pre = c.requires in
    omega (arith, pre.learned, c.one-4.ensures.most)

pub overflow_add-result-5 : goal.overflow_add-result-5
unfolding max_grammars
overflow_add-result-5 c =
    let pre = c.requires in
    omega (arith, pre.grammars, c.one-5.ensures.most)

pub returns : goal.returns
returns c =
    rw (
      c.one.ensures.is,
      c.one-2.ensures.is,
      c.one-3.ensures.is,
      c.one-4.ensures.is,
      c.one-5.ensures.is,
    )
