use mathlib.Core.Path.{refl, sym}
use Rattle.spec_exi.specs.Sizes.{cells_per_event, max_open}
use Rattle.spec_exi.specs.Grammar.{kind_number}
use Rattle.mem_rows.specs.Rows.{mode_after}
use Rattle.mem_state.specs.Commit.{joined_value, joined_strings, top_after, depth_after, tag_number}
use Rattle.read_first.proofs.First.{grow-still, added-as}
use native.Mathlib.Omega.{arith}
use Rattle.read_new.proofs.add_element.Goals as goal

pub store-requires : goal.store-requires
store-requires c =
    let pre = c.requires.add_pre in
    pre.cells

pub join_names-requires : goal.join_names-requires
join_names-requires c =
    let pre = c.requires.add_pre in
    pre.join

pub grow-requires : goal.grow-requires
unfolding joined_strings joined_value
grow-requires c =
    let pre = c.requires.add_pre in
    let joined = c.join_names.ensures in
    grow-still pre joined

pub next_tag-tag-requires : goal.next_tag-tag-requires
next_tag-tag-requires c =
    let pre = c.requires.add_pre in
    pre.after.early

pub overflow_add-c : goal.overflow_add-c
unfolding max_open
overflow_add-c c =
    let pre = c.requires.add_pre in
    omega (arith, pre.after.bounded.depth)

pub moved-requires : goal.moved-requires
moved-requires c =
    let pre = c.requires.add_pre in
    pre.after.bounded

pub returns : goal.returns
unfolding kind_number joined_strings joined_value mode_after top_after depth_after tag_number
returns c =
    let pre = c.requires.add_pre in
    let joined = c.join_names.ensures in
    let kind = c.requires.kind_value in
    let name = c.requires.name_value in
    λ fragment. added-as pre joined fragment kind (rw (
      c.part_of-uri.ensures,
      c.part_of-local.ensures,
    )
    at c.store.ensures)
    c.grow.ensures refl (sym name) refl c.next_tag-tag.ensures
    (rw (c.is_some-new_uri.ensures, c.is_some-new_name.ensures) at c.moved.ensures)
