use Rattle.read_tags.proofs.Tags.{element-limit, element-stepped}
use Rattle.spec_exi.specs.Sizes.{max_open}
use Rattle.spec_fields.specs.Refusal.{number_of}
use mathlib.Core.Path.{refl}
use native.Mathlib.Omega.{arith}
use borrow.Author.Rules.{rules}
use Rattle.read_tags.proofs.known_element.Goals as goal

pub has_grammar-enters-requires : goal.has_grammar-enters-requires
has_grammar-enters-requires c =
    let pre = c.requires in
    record { room = pre.work_cells_in_bounds; low = pre.tag_pre.bounds.name }

pub returns-then-not-has_room : goal.returns-then-not-has_room
unfolding number_of
returns-then-not-has_room c =
    let pre = c.requires in
    let has-grammar = c.has_grammar-enters in
    let has_room = c.has_room in
    let if1 = c.if-not-has_room in
    rw c.answer.ensures (λ fragment. element-limit _ pre.tag_pre pre.learned_value has-grammar.ensures refl
    has_room.ensures fragment if1.true-raw)

pub element-event-requires : goal.element-event-requires
element-event-requires c =
    let pre = c.requires in
    record {
      uri_row_pre = record { room = pre.work_cells_in_bounds; low = pre.tag_pre.bounds.uri };
      name_row_pre = record {
        room = pre.work_cells_in_bounds;
        low = pre.tag_pre.bounds.local;
      };
    }

pub store-requires : goal.store-requires
store-requires c =
    let pre = c.requires in
    pre.tag_pre.cells

pub enter-requires : goal.enter-requires
enter-requires c =
    let pre = c.requires in
    record { room = pre.work_cells_in_bounds; low = pre.tag_pre.bounds.name }

pub next_tag-tag-requires : goal.next_tag-tag-requires
next_tag-tag-requires c =
    let pre = c.requires in
    pre.tag_pre.early

pub overflow_add-c : goal.overflow_add-c
unfolding max_open
overflow_add-c c =
    let pre = c.requires in
    omega (arith, pre.tag_pre.bounded.depth)

pub moved_on-requires : goal.moved_on-requires
moved_on-requires c =
    let pre = c.requires in
    pre.tag_pre.bounded

pub shape_of-events : goal.shape_of-events
shape_of-events c = c.events-1.given

pub shape_of-work : goal.shape_of-work
shape_of-work c = c.work-1.given

pub returns : goal.returns
returns c =
    let pre = c.requires in
    let has-grammar = c.has_grammar-enters in
    let has_room = c.has_room in
    let if1 = c.if-not-has_room in
    let element = c.element-event in
    let store = c.store in
    let enter = c.enter in
    rw c.moved_on.ensures (λ fragment. element-stepped _ pre.tag_pre pre.learned_value has-grammar.ensures
    refl has_room.ensures fragment if1.false-raw element.ensures store.ensures enter.ensures
    c.next_tag-tag.ensures)
