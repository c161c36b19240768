use native.Mathlib.Omega.{arith}
use mathlib.Core.Path.{refl}
use borrow.Author.Rules.{rules}
use Rattle.std.proofs.lemmas.Result.{err_from_is_err_and}
use Rattle.spec_exi.specs.Sizes.{max_names, max_store}
use Rattle.write_partition.proofs.Tests.{text-passes, number-ne}
use Rattle.write_names.proofs.Names.{name-fault, name-forbidden, name-full, name-joins}
use Rattle.write_names.proofs.judge_new_name.Goals as goal

-- `judge_new_name` meets its contract: each return is one law.
pub returns-in_err-literal_fault : goal.returns-in_err-literal_fault
returns-in_err-literal_fault c =
    let p = err_from_is_err_and c.from_residual.result c.from_residual.ensures.1 in
    rw (p.1, p.2) (name-fault _ _ _ _ _ _ c.in_err-literal_fault.ensures
    (number-ne c.in_err-literal_fault.field-0.0) refl)

pub returns-then-not-local_allowed : goal.returns-then-not-local_allowed
returns-then-not-local_allowed c =
    name-forbidden _ _ _ _ _ _ c.in_ok-literal_fault.ensures refl c.local_allowed.ensures
    c.if-not-local_allowed.true-raw refl

pub returns-then-names-ge-MAX_NAMES : goal.returns-then-names-ge-MAX_NAMES
unfolding max_names
returns-then-names-ge-MAX_NAMES c =
    name-full _ _ _ _ _ _ c.in_ok-literal_fault.ensures refl c.local_allowed.ensures
    c.if-not-local_allowed.false-raw c.if-names-ge-MAX_NAMES.true refl

pub overflow_add-result : goal.overflow_add-result
unfolding max_store
overflow_add-result c = omega (arith, (text-passes _ _ c.in_ok-literal_fault.ensures refl).store)

pub returns : goal.returns
unfolding max_names
returns c =
    name-joins _ _ _ _ _ _ c.in_ok-literal_fault.ensures refl c.local_allowed.ensures
    c.if-not-local_allowed.false-raw c.if-names-ge-MAX_NAMES.false refl
