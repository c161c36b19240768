use mathlib.Core.Path.{refl}
use Rattle.spec_exi.specs.Event.{SE}
use Rattle.read_field.proofs.View.{refusal-some}
use Rattle.read_partition.proofs.Fields.{passed-on}
use Rattle.read_qname.proofs.Returns.{as-pair}
use Rattle.read_content.proofs.Returns.{element-refused, element-read}
use Rattle.read_content.proofs.Contents.{kind-is}
use Rattle.read_content.proofs.read_element.Goals as goal

pub read_name-requires : goal.read_name-requires
read_name-requires c = c.requires.content_pre.pair

pub returns-in_err-n : goal.returns-in_err-n
returns-in_err-n c =
    let pre = c.requires in
    rw (passed-on c.from_residual.ensures.1)
    (element-refused pre.content_pre (as-pair pre.learned_value c.in_err-n.ensures) refl
    (kind-is SE pre.kind_value) (refusal-some _))

pub returns : goal.returns
returns c =
    let pre = c.requires in
    element-read pre.content_pre (as-pair pre.learned_value c.in_ok-n.ensures) refl
    (kind-is SE pre.kind_value) refl
