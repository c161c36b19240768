use mathlib.Core.Path.{refl}
use Rattle.spec_exi.specs.Grammar.{kind_number}
use Rattle.mem_rows.specs.Rows.{mode_after}
use Rattle.mem_state.specs.Commit.{joined_uri, joined_name, joined_strings, top_after, depth_after, tag_number}
use Rattle.read_first.proofs.First.{grow-still, added-as}
use borrow.Author.Rules.{rules}
use Rattle.read_first.proofs.add_characters.Goals as goal

pub store-requires : goal.store-requires
store-requires c =
    let pre = c.requires in
    pre.add_pre.cells

pub join_value-requires : goal.join_value-requires
join_value-requires c =
    let pre = c.requires in
    record {
      room = pre.add_pre.join.room;
      few = pre.add_pre.join.values;
      low = pre.add_pre.join.owner;
    }

pub grow-requires : goal.grow-requires
unfolding joined_strings joined_uri joined_name
grow-requires c =
    let pre = c.requires in
    let joined = c.join_value.ensures in
    grow-still pre.add_pre joined

pub next_tag-tag-requires : goal.next_tag-tag-requires
next_tag-tag-requires c =
    let pre = c.requires in
    pre.add_pre.after.early

pub moved-requires : goal.moved-requires
moved-requires c =
    let pre = c.requires in
    pre.add_pre.after.bounded

pub returns : goal.returns
unfolding kind_number joined_strings joined_uri joined_name mode_after top_after depth_after tag_number
returns c =
    let joined = c.join_value.ensures in
    λ fragment. added-as c.requires.add_pre joined fragment c.requires.kind_value
    (rw c.part_of-value.ensures at c.store.ensures)
    c.grow.ensures c.content_after-mode.ensures refl
    refl
    c.next_tag-tag.ensures (rw c.is_some.ensures at c.moved.ensures)
