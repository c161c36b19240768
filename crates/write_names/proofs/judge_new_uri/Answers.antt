use native.Mathlib.Omega.{arith}
use mathlib.Core.Path.{refl}
use borrow.Author.Rules.{rules}
use Rattle.std.proofs.lemmas.Result.{err_from_is_err_and}
use Rattle.spec_exi.specs.Sizes.{max_uris, max_store}
use Rattle.write_partition.proofs.Tests.{text-passes, number-ne}
use Rattle.write_names.proofs.Uris.{uri-fault, uri-full, uri-joins}
use Rattle.write_names.proofs.judge_new_uri.Goals as goal

-- `judge_new_uri` meets its contract: each return is one law.
pub returns-in_err-literal_fault : goal.returns-in_err-literal_fault
returns-in_err-literal_fault c =
    let p = err_from_is_err_and c.from_residual.result c.from_residual.ensures.1 in
    rw (p.1, p.2) (uri-fault _ _ _ c.in_err-literal_fault.ensures
    (number-ne c.in_err-literal_fault.field-0.0) refl)

pub returns-then-uris-ge-MAX_URIS : goal.returns-then-uris-ge-MAX_URIS
unfolding max_uris
returns-then-uris-ge-MAX_URIS c =
    uri-full _ _ _ c.in_ok-literal_fault.ensures refl c.if-uris-ge-MAX_URIS.true refl

pub overflow_add-result : goal.overflow_add-result
unfolding max_store
overflow_add-result c = omega (arith, (text-passes _ _ c.in_ok-literal_fault.ensures refl).store)

pub returns : goal.returns
unfolding max_uris
returns c = uri-joins _ _ _ c.in_ok-literal_fault.ensures refl c.if-uris-ge-MAX_URIS.false refl
