use Rattle.read_step.proofs.Steps.{tag-asks, first-asks, at-end, in-content, outside}
use Rattle.read_tags.proofs.Plain.{plain-outside}
use Rattle.read_event.proofs.Steps.{numbered}
use Rattle.spec_exi.specs.Grammar.{kind_number}
use Rattle.settings.specs.Meant.{settings_from}
use Rattle.spec_exi.specs.Sizes.{max_events}
use Rattle.spec_exi.specs.Event.{SD, ED, SE, AT, EE, CH}
use mathlib.Core.Path.{refl}
use native.Mathlib.Omega.{arith}
use borrow.Author.Rules.{rules}
use Rattle.read_step.proofs.fixed.Goals as goal

pub end_tag-requires : goal.end_tag-requires
end_tag-requires c =
    let code = c.requires.by_code_pre in
    let pre = c.requires.step_pre in
    record {
      tag_pre = tag-asks code pre EE (at-end code c.if-p-c.true);
      work_cells_in_bounds = pre.rows;
      learned_value = code.is;
      mode_value = in-content code
          c.if-p-c.true;
    }

pub shape_of-events-then-p-c : goal.shape_of-events-then-p-c
shape_of-events-then-p-c c =
    c.events-1.given

pub returns-then-p-c : goal.returns-then-p-c
unfolding settings_from
returns-then-p-c c =
    let pre = c.requires.step_pre in
    let code = c.requires.by_code_pre in
    c.end_tag.ensures.steps _ refl _ _ pre code.code

pub start_document-requires : goal.start_document-requires
unfolding kind_number
start_document-requires c =
    let code = c.requires.by_code_pre in
    let pre = c.requires.step_pre in
    tag-asks code pre SD c.in-0.is

pub end_document-requires : goal.end_document-requires
unfolding kind_number
end_document-requires c =
    let code = c.requires.by_code_pre in
    let pre = c.requires.step_pre in
    tag-asks code pre ED c.in-1.is

pub new_element-requires : goal.new_element-requires
unfolding kind_number
new_element-requires c =
    let pre = c.requires.step_pre in
    let code = c.requires.by_code_pre in
    record {
      step_pre = pre;
      first_pre = first-asks code SE c.in-2.is;
    }

pub new_attribute-requires : goal.new_attribute-requires
unfolding kind_number max_events
new_attribute-requires c =
    let pre = c.requires.step_pre in
    let code = c.requires.by_code_pre in
    record {
      step_pre = numbered pre (omega arith);
      first_pre = first-asks code AT c.in-3.is;
    }

pub first_end-requires : goal.first_end-requires
unfolding kind_number
first_end-requires c =
    let code = c.requires.by_code_pre in
    let pre = c.requires.step_pre in
    record {
      tag_pre = tag-asks code pre EE c.in-4.is;
      work_cells_in_bounds = pre.rows;
      learned_value = code.is;
    }

pub first_characters-requires : goal.first_characters-requires
unfolding kind_number
first_characters-requires c =
    let pre = c.requires.step_pre in
    let code = c.requires.by_code_pre in
    record {
      step_pre = pre;
      first_pre = first-asks code CH c.in-5.is;
    }

pub general-requires : goal.general-requires
general-requires c = c.requires

pub shape_of-events-in-0 : goal.shape_of-events-in-0
shape_of-events-in-0 c =
    c.events-in-0-1.given

pub returns-in-0 : goal.returns-in-0
unfolding settings_from
returns-in-0 c =
    let pre = c.requires.step_pre in
    let code = c.requires.by_code_pre in
    c.start_document.ensures.steps _ refl _ _ _ pre code.code
    (plain-outside code.is (outside code (omega (arith, c.in-0.is)))
    (omega (arith, c.in-0.is)))

pub shape_of-events-in-1 : goal.shape_of-events-in-1
shape_of-events-in-1 c =
    c.events-in-1-1.given

pub returns-in-1 : goal.returns-in-1
unfolding settings_from
returns-in-1 c =
    let pre = c.requires.step_pre in
    let code = c.requires.by_code_pre in
    (c.end_document.ensures _).steps _ refl _ _ _ pre code.code
    (plain-outside code.is (outside code (omega (arith, c.in-1.is)))
    (omega (arith, c.in-1.is)))

pub shape_of-events-in-2 : goal.shape_of-events-in-2
shape_of-events-in-2 c =
    c.events-in-2-1.given

pub shape_of-text-in-2 : goal.shape_of-text-in-2
shape_of-text-in-2 c =
    c.text-1.given

pub shape_of-work-in-2 : goal.shape_of-work-in-2
shape_of-work-in-2 c =
    c.work-1.given

pub returns-in-2 : goal.returns-in-2
returns-in-2 c =
    c.new_element.ensures

pub shape_of-events-in-3 : goal.shape_of-events-in-3
shape_of-events-in-3 c =
    c.events-in-3-1.given

pub shape_of-text-in-3 : goal.shape_of-text-in-3
shape_of-text-in-3 c =
    c.text-in-3-1.given

pub shape_of-work-in-3 : goal.shape_of-work-in-3
shape_of-work-in-3 c =
    c.work-in-3-1.given

pub returns-in-3 : goal.returns-in-3
returns-in-3 c =
    let pre = c.requires.step_pre in
    c.new_attribute.ensures _ pre.early

pub shape_of-events-in-4 : goal.shape_of-events-in-4
shape_of-events-in-4 c =
    c.events-in-4-1.given

pub shape_of-work-in-4 : goal.shape_of-work-in-4
shape_of-work-in-4 c =
    c.work-in-4-1.given

pub returns-in-4 : goal.returns-in-4
unfolding settings_from
returns-in-4 c =
    let pre = c.requires.step_pre in
    let code = c.requires.by_code_pre in
    c.first_end.ensures.steps _ refl _ _ pre code.code

pub shape_of-events-in-5 : goal.shape_of-events-in-5
shape_of-events-in-5 c =
    c.events-in-5-1.given

pub shape_of-text-in-5 : goal.shape_of-text-in-5
shape_of-text-in-5 c =
    c.text-in-5-1.given

pub shape_of-work-in-5 : goal.shape_of-work-in-5
shape_of-work-in-5 c =
    c.work-in-5-1.given

pub returns-in-5 : goal.returns-in-5
returns-in-5 c =
    c.first_characters.ensures

pub shape_of-events-in_default : goal.shape_of-events-in_default
shape_of-events-in_default c =
    c.events-in_default-1.given

pub shape_of-text-in_default : goal.shape_of-text-in_default
shape_of-text-in_default c =
    c.text-in_default-1.given

pub shape_of-work-in_default : goal.shape_of-work-in_default
shape_of-work-in_default c =
    c.work-in_default-1.given

pub returns-in_default : goal.returns-in_default
returns-in_default c =
    c.general.ensures
