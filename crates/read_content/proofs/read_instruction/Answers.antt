use mathlib.Core.Path.{refl}
use Rattle.name_rules.specs.Texts.{role_in}
use Rattle.read_field.proofs.View.{refusal-some}
use Rattle.read_partition.proofs.Fields.{passed-on}
use Rattle.read_content.proofs.Returns.{target-refused, instruction-asks}
use Rattle.read_content.proofs.Returns.{instruction-refused, instruction-read}
use Rattle.read_content.proofs.read_instruction.Goals as goal

pub read_text-requires : goal.read_text-requires
read_text-requires c = c.requires.content_pre.pair.literal

pub returns-in_err-t : goal.returns-in_err-t
unfolding role_in
returns-in_err-t c =
    let pre = c.requires in
    rw (passed-on c.from_residual.ensures.1)
    (λ a. target-refused pre.content_pre c.in_err-t.ensures.text_post pre.kind_value
    (refusal-some _))

pub read_text-requires-2 : goal.read_text-requires-2
unfolding role_in
read_text-requires-2 c =
    let pre = c.requires in
    instruction-asks pre.content_pre c.in_ok-t.ensures.text_post pre.kind_value refl

pub returns-in_err-x : goal.returns-in_err-x
unfolding role_in
returns-in_err-x c =
    let pre = c.requires in
    rw (passed-on c.from_residual-in_err-x.ensures.1)
    (λ a. instruction-refused pre.content_pre c.in_ok-t.ensures.text_post pre.kind_value refl
    c.in_err-x.ensures.text_post (refusal-some _))

pub returns : goal.returns
unfolding role_in
returns c =
    let pre = c.requires in
    rw (c.plain.ensures, c.part_of-target.ensures, c.part_of-y.ensures)
    (λ a. instruction-read pre.content_pre c.in_ok-t.ensures.text_post pre.kind_value refl
    c.in_ok-x.ensures.text_post refl)
