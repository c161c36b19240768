use mathlib.Core.Path.{refl}
use borrow.Author.Rules.{rules}
use Rattle.std.proofs.lemmas.Result.{err_from_is_err_and}
use Rattle.write_partition.proofs.Tests.{number-some}
use Rattle.write_content.proofs.Named.{value-asks, attribute-refused, attribute-value-refused, attribute-judged}
use Rattle.write_content.proofs.judge_attribute.Goals as goal

pub returns-in_err-n : goal.returns-in_err-n
returns-in_err-n c =
    let p = err_from_is_err_and c.from_residual.result c.from_residual.ensures.1 in
    rw (p.1, p.2) (attribute-refused c.requires c.in_err-n.ensures _
    (number-some c.in_err-n.field-0.0))

pub judge_value-requires : goal.judge_value-requires
judge_value-requires c = value-asks c.requires c.in_ok-n.ensures refl

pub returns-in_err-v : goal.returns-in_err-v
returns-in_err-v c =
    let p = err_from_is_err_and c.from_residual-in_err-v.result c.from_residual-in_err-v.ensures.1 in
    rw (p.1, p.2) (attribute-value-refused c.requires c.in_ok-n.ensures _ refl
    c.look_up-x.ensures.result_value c.in_err-v.ensures
    (number-some c.in_err-v.field-0.0))

pub returns : goal.returns
returns c =
    rw c.with_value.ensures (attribute-judged c.requires c.in_ok-n.ensures _ refl
    c.look_up-x.ensures.result_value c.in_ok-v.ensures refl)
