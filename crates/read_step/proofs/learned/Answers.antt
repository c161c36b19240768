use Rattle.read_step.proofs.Steps.{tag-asks, learned-asks, is-end}
use Rattle.read_tags.proofs.Plain.{plain-learned}
use Rattle.settings.specs.Meant.{settings_from}
use Rattle.spec_exi.specs.Grammar.{kind_number}
use Rattle.spec_exi.specs.Event.{SE, AT, EE, CH}
use Rattle.read_event.proofs.Steps.{numbered}
use mathlib.Core.Path.{refl}
use native.Mathlib.Omega.{arith}
use borrow.Author.Rules.{rules}
use Rattle.read_step.proofs.learned.Goals as goal

pub known_element-requires : goal.known_element-requires
unfolding kind_number
known_element-requires c =
    let pre = c.requires in
    let match = c.in-2 in
    record {
      tag_pre = tag-asks pre.by_code_pre pre.step_pre SE match.is;
      work_cells_in_bounds = pre.step_pre.rows;
      learned_value = pre.by_code_pre.is;
    }

pub known_attribute-requires : goal.known_attribute-requires
unfolding kind_number
known_attribute-requires c =
    let pre = c.requires in
    let match = c.in-3 in
    record {
      step_pre = numbered pre.step_pre (omega (arith, pre.step_pre.early));
      learned_pre = learned-asks pre.by_code_pre AT match.is;
    }

pub known_characters-requires : goal.known_characters-requires
unfolding kind_number
known_characters-requires c =
    let pre = c.requires in
    let match = c.in-5 in
    record {
      step_pre = pre.step_pre;
      learned_pre = learned-asks pre.by_code_pre CH match.is;
    }

pub known_end-requires : goal.known_end-requires
known_end-requires c =
    let pre = c.requires in
    let match = c.in_default.in_default-own in
    tag-asks pre.by_code_pre pre.step_pre EE (is-end pre.by_code_pre match.rest.0.0.1 match.rest.0.1
    match.rest.1)

pub shape_of-events-in-2 : goal.shape_of-events-in-2
shape_of-events-in-2 c = c.events-1.given

pub shape_of-work-in-2 : goal.shape_of-work-in-2
shape_of-work-in-2 c = c.work-1.given

pub returns-in-2 : goal.returns-in-2
unfolding settings_from
returns-in-2 c =
    let pre = c.requires in
    let known-element = c.known_element in
    (known-element.ensures _).steps _ refl _ _ pre.step_pre pre.by_code_pre.code

pub shape_of-events-in-3 : goal.shape_of-events-in-3
shape_of-events-in-3 c = c.events-in-3-1.given

pub shape_of-text-in-3 : goal.shape_of-text-in-3
shape_of-text-in-3 c = c.text-1.given

pub shape_of-work-in-3 : goal.shape_of-work-in-3
shape_of-work-in-3 c = c.work-in-3-1.given

pub returns-in-3 : goal.returns-in-3
unfolding settings_from
returns-in-3 c =
    let pre = c.requires in
    let known-attribute = c.known_attribute in
    (known-attribute.ensures.numbered _ pre.step_pre.early).steps _ refl pre.by_code_pre.code

pub shape_of-events-in-5 : goal.shape_of-events-in-5
shape_of-events-in-5 c = c.events-in-5-1.given

pub shape_of-text-in-5 : goal.shape_of-text-in-5
shape_of-text-in-5 c = c.text-in-5-1.given

pub shape_of-work-in-5 : goal.shape_of-work-in-5
shape_of-work-in-5 c = c.work-in-5-1.given

pub returns-in-5 : goal.returns-in-5
unfolding settings_from
returns-in-5 c =
    let pre = c.requires in
    let known-characters = c.known_characters in
    known-characters.ensures.steps _ refl pre.by_code_pre.code

pub shape_of-events-in_default : goal.shape_of-events-in_default
shape_of-events-in_default c = c.events-in_default-1.given

pub returns-in_default : goal.returns-in_default
unfolding settings_from
returns-in_default c =
    let pre = c.requires in
    let known-end = c.known_end in
    known-end.ensures.steps _ refl _ _ _ pre.step_pre pre.by_code_pre.code (plain-learned pre.by_code_pre.is)
