use native.Mathlib.Omega.{arith}
use Rattle.spec_exi.specs.Sizes.{max_store}
use Rattle.write_partition.proofs.Tests.{too_much, no_char, no-fault}
use Rattle.write_partition.proofs.literal_fault.Goals as goal

-- `literal_fault` meets its contract: each return is one law.
pub overflow_sub-stored : goal.overflow_sub-stored
unfolding max_store
overflow_sub-stored c = omega arith

pub returns-then-stored-x : goal.returns-then-stored-x
unfolding max_store
returns-then-stored-x c = too_much _ _ c.requires c.if-stored-x.true

pub returns-then-not-all_chars : goal.returns-then-not-all_chars
unfolding max_store
returns-then-not-all_chars c =
    no_char _ _ c.requires c.if-stored-x.false
    c.all_chars.ensures c.if-not-all_chars.true-raw

pub returns : goal.returns
unfolding max_store
returns c =
    no-fault _ _ c.requires c.if-stored-x.false
    c.all_chars.ensures c.if-not-all_chars.false-raw
