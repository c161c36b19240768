use mathlib.Core.Path.{refl}
use borrow.Author.Rules.{rules}
use Rattle.std.proofs.lemmas.Result.{err_from_is_err_and}
use Rattle.write_partition.proofs.Tests.{number-some}
use Rattle.write_qname.proofs.Returns.{uri-refused, local-asks, local-refused, name-judged}
use Rattle.write_qname.proofs.judge_name.Goals as goal

-- `judge_name` meets its contract: each return is one law.
pub returns-in_err-u : goal.returns-in_err-u
returns-in_err-u c =
    let p = err_from_is_err_and c.from_residual.result c.from_residual.ensures.1 in
    rw (p.1, p.2) (uri-refused c.requires _ _ _ c.look_up-y.ensures.result_value c.in_err-u.ensures
    (number-some c.in_err-u.field-0.0))

pub judge_local-requires : goal.judge_local-requires
judge_local-requires c = local-asks c.requires c.in_ok-u.ensures refl

pub returns-in_err-l : goal.returns-in_err-l
returns-in_err-l c =
    let p = err_from_is_err_and c.from_residual-in_err-l.result c.from_residual-in_err-l.ensures.1 in
    rw (p.1, p.2) (local-refused c.requires _ _ _ c.look_up-y.ensures.result_value c.in_ok-u.ensures refl
    c.look_up-x.ensures.result_value c.in_err-l.ensures
    (number-some c.in_err-l.field-0.0))

pub returns : goal.returns
returns c =
    rw c.named.ensures (name-judged c.requires _ _ _ c.look_up-y.ensures.result_value
    c.in_ok-u.ensures refl c.look_up-x.ensures.result_value c.in_ok-l.ensures refl)
