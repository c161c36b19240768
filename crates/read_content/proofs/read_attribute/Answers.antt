use mathlib.Core.Path.{refl}
use Rattle.spec_exi.specs.Event.{AT}
use Rattle.read_field.proofs.View.{refusal-some}
use Rattle.read_partition.proofs.Fields.{passed-on}
use Rattle.read_qname.proofs.Returns.{as-pair}
use Rattle.read_content.proofs.Returns.{attribute-refused, attribute-asks, attribute-stops}
use Rattle.read_content.proofs.Returns.{attribute-read}
use Rattle.read_content.proofs.Contents.{kind-is}
use Rattle.read_content.proofs.read_attribute.Goals as goal

pub read_name-requires : goal.read_name-requires
read_name-requires c = c.requires.content_pre.pair

pub returns-in_err-n : goal.returns-in_err-n
returns-in_err-n c =
    let pre = c.requires in
    rw (passed-on c.from_residual.ensures.1)
    (attribute-refused pre.content_pre (as-pair pre.learned_value c.in_err-n.ensures)
    (kind-is AT pre.kind_value) (refusal-some _))

pub read_value-requires : goal.read_value-requires
read_value-requires c =
    let pre = c.requires in
    attribute-asks pre.content_pre (as-pair pre.learned_value c.in_ok-n.ensures)
    (kind-is AT pre.kind_value) refl

pub returns-in_err-x : goal.returns-in_err-x
returns-in_err-x c =
    let pre = c.requires in
    rw (passed-on c.from_residual-in_err-x.ensures.1)
    (attribute-stops pre.content_pre (as-pair pre.learned_value c.in_ok-n.ensures)
    (kind-is AT pre.kind_value) refl c.in_err-x.ensures.value_post c.in_err-x.ensures.joins_within
    (refusal-some _))

pub returns : goal.returns
returns c =
    let pre = c.requires in
    rw (c.part_of-value.ensures, c.valued.ensures)
    (attribute-read pre.content_pre (as-pair pre.learned_value c.in_ok-n.ensures)
    (kind-is AT pre.kind_value) refl c.in_ok-x.ensures.value_post c.in_ok-x.ensures.joins_within
    refl)
