use mathlib.Core.Path.{refl}
use Rattle.mem_rows.specs.Rows.{carries}
use Rattle.event.specs.Cells.{meaning}
use Rattle.event.specs.declared.Event.TheVariants.{StartDocument, EndDocument, EndElement}
use Rattle.spec_exi.specs.Reader.{readContent}
use Rattle.spec_exi.specs.Grammar.{kind_number}
use Rattle.spec_exi.specs.Event.{start_document, end_document, end_element, SD, ED, EE, map_event}
use Rattle.spec_exi.specs.Event.{kind_of}
use Rattle.read_content.proofs.Returns.{bare-read}
use Rattle.read_content.proofs.Contents.{kind-is, other-kind}
use borrow.Author.Rules.{rules}
use Rattle.read_content.proofs.read_content.Goals as goal

pub read_element-requires : goal.read_element-requires
unfolding kind_number
read_element-requires c =
    let pre = c.requires in
    let match = c.in-2 in
    record {
      content_pre = pre.content_pre;
      kind_value = match.is;
      learned_value = pre.learned_value;
    }

pub read_attribute-requires : goal.read_attribute-requires
unfolding kind_number
read_attribute-requires c =
    let pre = c.requires in
    let match = c.in-3 in
    record {
      content_pre = pre.content_pre;
      kind_value = match.is;
      learned_value = pre.learned_value;
    }

pub read_characters-requires : goal.read_characters-requires
unfolding kind_number
read_characters-requires c =
    let pre = c.requires in
    let match = c.in-5 in
    record {
      content_pre = pre.content_pre;
      kind_value = match.is;
    }

pub read_comment-requires : goal.read_comment-requires
unfolding kind_number
read_comment-requires c =
    let pre = c.requires in
    let match = c.in-6 in
    record {
      content_pre = pre.content_pre;
      kind_value = match.is;
    }

pub read_instruction-requires : goal.read_instruction-requires
read_instruction-requires c =
    let pre = c.requires in
    let match = c.in_default.in_default-own in
    let n = match.rest in
    record {
      content_pre = pre.content_pre;
      kind_value = other-kind _ n.0.0.0.0.0.0.1 n.0.0.0.0.0.1 n.0.0.0.0.1 n.0.0.0.1 n.0.0.1 n.0.1 n.1;
    }

pub returns-in-0 : goal.returns-in-0
unfolding kind_number readContent meaning map_event kind_of carries
returns-in-0 c =
    let pre = c.requires in
    let match = c.in-0 in
    rw c.plain.ensures (bare-read pre.content_pre StartDocument start_document SD (kind-is SD match.is) refl refl refl (λ s t st n. refl))

pub returns-in-1 : goal.returns-in-1
unfolding kind_number readContent meaning map_event kind_of carries
returns-in-1 c =
    let pre = c.requires in
    let match = c.in-1 in
    rw c.plain-in-1.ensures (bare-read pre.content_pre EndDocument end_document ED (kind-is ED match.is) refl refl refl (λ s t st n. refl))

pub returns-in-4 : goal.returns-in-4
unfolding kind_number readContent meaning map_event kind_of carries
returns-in-4 c =
    let pre = c.requires in
    let match = c.in-4 in
    rw c.plain-in-4.ensures (bare-read pre.content_pre EndElement end_element EE (kind-is EE match.is) refl refl refl (λ s t st n. refl))

pub returns-in-6 : goal.returns-in-6
returns-in-6 c = c.read_comment.ensures _

pub returns-in_default : goal.returns-in_default
returns-in_default c = c.read_instruction.ensures _
