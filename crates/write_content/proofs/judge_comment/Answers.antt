use mathlib.Core.Path.{refl}
use borrow.Author.Rules.{rules}
use Rattle.std.proofs.lemmas.Result.{err_from_is_err_and}
use Rattle.write_partition.proofs.Tests.{number-some}
use Rattle.name_rules.specs.Texts.{role_in}
use Rattle.write_content.proofs.Unnamed.{comment-refused, comment-judged}
use Rattle.write_content.proofs.judge_comment.Goals as goal

pub returns-in_err-v : goal.returns-in_err-v
unfolding role_in
returns-in_err-v c =
    let p = err_from_is_err_and c.from_residual.result c.from_residual.ensures.1 in
    rw (p.1, p.2) (comment-refused c.requires _ c.look_up-x.ensures.result_value c.in_err-v.ensures
    (number-some c.in_err-v.field-0.0))

pub returns : goal.returns
unfolding role_in
returns c =
    rw (c.plain.ensures, c.no_strings.ensures) (comment-judged c.requires _
    c.look_up-x.ensures.result_value c.in_ok-v.ensures refl)
