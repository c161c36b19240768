use mathlib.Core.Path.{refl}
use Rattle.spec_exi.specs.Event.{CH}
use Rattle.read_field.proofs.View.{refusal-some}
use Rattle.read_partition.proofs.Fields.{passed-on}
use Rattle.read_content.proofs.Returns.{characters-asks, characters-refused, characters-read}
use Rattle.read_content.proofs.Contents.{kind-is}
use Rattle.read_content.proofs.read_characters.Goals as goal

pub read_value-requires : goal.read_value-requires
read_value-requires c = characters-asks c.requires.content_pre

pub returns-in_err-x : goal.returns-in_err-x
returns-in_err-x c =
    let pre = c.requires in
    rw (passed-on c.from_residual.ensures.1)
    (characters-refused pre.content_pre c.in_err-x.ensures.value_post
    c.in_err-x.ensures.joins_within (kind-is CH pre.kind_value) pre.kind_value (refusal-some _))

pub returns : goal.returns
returns c =
    let pre = c.requires in
    rw (c.part_of-value.ensures, c.valued.ensures, c.no_strings.ensures)
    (characters-read pre.content_pre c.in_ok-x.ensures.value_post c.in_ok-x.ensures.joins_within
    (kind-is CH pre.kind_value) pre.kind_value refl)
