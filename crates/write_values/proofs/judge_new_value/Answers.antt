use native.Mathlib.Omega.{arith}
use borrow.Author.Rules.{rules}
use Rattle.spec_exi.specs.Sizes.{max_store, max_values}
use Rattle.write_values.proofs.Values.{new-much, new-no-char, new-kept-out, new-full, new-laid}
use Rattle.write_values.proofs.judge_new_value.Goals as goal

-- `judge_new_value` meets its contract: each return is one law.
pub overflow_sub-stored : goal.overflow_sub-stored
unfolding max_store
overflow_sub-stored c = omega (arith, c.requires.store)

pub returns-then-stored-x : goal.returns-then-stored-x
unfolding max_store
returns-then-stored-x c = new-much _ _ _ _ _ _ c.requires.store c.if-stored-x.true

pub returns-then-not-chars : goal.returns-then-not-chars
unfolding max_store
returns-then-not-chars c =
    let pre = c.requires in
    new-no-char _ _ _ _ _ _ pre.store c.if-stored-x.false pre.weighed c.if-not-chars.true-raw

pub overflow_add-stored : goal.overflow_add-stored
unfolding max_store
overflow_add-stored c = omega (arith, c.requires.store, c.if-stored-x.false)

pub returns-then-not-joins : goal.returns-then-not-joins
unfolding max_store
returns-then-not-joins c =
    let pre = c.requires in
    new-kept-out _ _ _ _ _ _ pre.store c.if-stored-x.false pre.weighed c.if-not-chars.false-raw
    c.joins.ensures c.if-not-joins.true-raw

pub returns-then-capacity-values : goal.returns-then-capacity-values
unfolding max_store max_values
returns-then-capacity-values c =
    let pre = c.requires in
    new-full _ _ _ _ _ _ pre.store c.if-stored-x.false pre.weighed c.if-not-chars.false-raw
    c.joins.ensures c.if-not-joins.false-raw c.if-capacity-values.true

pub returns : goal.returns
unfolding max_store max_values
returns c =
    let pre = c.requires in
    new-laid _ _ _ _ _ _ pre.store c.if-stored-x.false pre.weighed c.if-not-chars.false-raw
    c.joins.ensures c.if-not-joins.false-raw c.if-capacity-values.false
