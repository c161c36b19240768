use native.Mathlib.Omega.{arith}
use mathlib.Core.Path.{refl}
use borrow.Author.Rules.{rules}
use Rattle.std.proofs.lemmas.Result.{err_from_is_err_and}
use Rattle.spec_exi.specs.Sizes.{max_string, max_store}
use Rattle.name_rules.specs.Texts.{fault_in}
use Rattle.write_partition.proofs.Tests.{number-ne}
use Rattle.write_values.proofs.Texts.{text-long, text-passed, text-fault, text-refused, text-laid}
use Rattle.write_values.proofs.judge_text.Goals as goal

-- `judge_text` meets its contract: each return is one law.
pub returns-then-x-gt-MAX_STRING : goal.returns-then-x-gt-MAX_STRING
unfolding max_string
returns-then-x-gt-MAX_STRING c = text-long _ _ c.requires.store c.if-x-gt-MAX_STRING.true

pub returns-in_err-literal_fault : goal.returns-in_err-literal_fault
unfolding max_string
returns-in_err-literal_fault c =
    let p = err_from_is_err_and c.from_residual.result c.from_residual.ensures.1 in
    rw (p.1, p.2) (text-fault _ _ c.requires.store c.if-x-gt-MAX_STRING.false
    c.in_err-literal_fault.ensures (number-ne c.in_err-literal_fault.field-0.0))

pub returns-in_err-judge_text : goal.returns-in_err-judge_text
unfolding max_string fault_in
returns-in_err-judge_text c =
    let p =
    err_from_is_err_and c.from_residual-in_err-judge_text.result
    c.from_residual-in_err-judge_text.ensures.1 in
    rw (p.1, p.2) (text-refused _ _ c.requires.store c.if-x-gt-MAX_STRING.false
    c.in_ok-literal_fault.ensures refl c.in_err-judge_text.ensures
    (number-ne c.in_err-judge_text.field-0.0))

pub overflow_add-result : goal.overflow_add-result
unfolding max_store
overflow_add-result c = omega (arith, (text-passed _ _ c.in_ok-literal_fault.ensures refl).store)

pub returns : goal.returns
unfolding max_string fault_in
returns c =
    text-laid _ _ c.requires.store c.if-x-gt-MAX_STRING.false c.in_ok-literal_fault.ensures refl
    c.in_ok-judge_text.ensures refl
