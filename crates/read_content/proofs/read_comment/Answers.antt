use mathlib.Core.Path.{refl}
use Rattle.spec_exi.specs.Event.{CM}
use Rattle.name_rules.specs.Texts.{role_in}
use Rattle.read_field.proofs.View.{refusal-some}
use Rattle.read_partition.proofs.Fields.{passed-on}
use Rattle.read_content.proofs.Returns.{comment-refused, comment-read}
use Rattle.read_content.proofs.Contents.{kind-is}
use Rattle.read_content.proofs.read_comment.Goals as goal

pub read_text-requires : goal.read_text-requires
read_text-requires c = c.requires.content_pre.pair.literal

pub returns-in_err-x : goal.returns-in_err-x
unfolding role_in
returns-in_err-x c =
    let pre = c.requires in
    rw (passed-on c.from_residual.ensures.1)
    (λ a. comment-refused pre.content_pre c.in_err-x.ensures.text_post (kind-is CM pre.kind_value)
    (refusal-some _))

pub returns : goal.returns
unfolding role_in
returns c =
    let pre = c.requires in
    rw (c.plain.ensures, c.part_of-y.ensures)
    (λ a. comment-read pre.content_pre c.in_ok-x.ensures.text_post (kind-is CM pre.kind_value) refl)
