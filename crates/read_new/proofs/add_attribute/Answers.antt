use mathlib.Core.Path.{refl, sym}
use mathlib.Core.Bool.{true≢false}
use Rattle.spec_exi.specs.Sizes.{cells_per_event}
use Rattle.spec_exi.specs.Grammar.{kind_number}
use Rattle.mem_rows.specs.Rows.{mode_after}
use Rattle.mem_state.specs.Commit.{joined_strings, top_after, depth_after, tag_number}
use Rattle.mem_state.proofs.Commit.{values-asks, join-steps}
use Rattle.read_first.proofs.First.{add-numbered, grow-still, added-as}
use native.Mathlib.Omega.{arith}
use Rattle.read_new.proofs.add_attribute.Goals as goal

pub store-requires : goal.store-requires
store-requires c =
    let pre = c.requires.add_pre in
    pre.cells

pub join_names-requires : goal.join_names-requires
join_names-requires c =
    let pre = c.requires.add_pre in
    record {
      room = pre.join.room;
      uris = pre.join.uris;
      names = pre.join.names;
      values = λ j. absurd
          (true≢false (sym j));
      uri = pre.join.uri;
      owner = pre.join.owner;
    }

pub join_value-requires : goal.join_value-requires
join_value-requires c =
    let pre = c.requires.add_pre in
    let names = c.join_names.ensures in
    values-asks pre.join refl names

pub grow-requires : goal.grow-requires
grow-requires c =
    let pre = c.requires.add_pre in
    let joined =
    join-steps c.requires.add_pre.join refl c.join_names.ensures c.join_value.ensures in
    grow-still pre (joined)

pub moved-requires : goal.moved-requires
moved-requires c =
    let pre = c.requires.add_pre in
    pre.after.bounded

pub returns : goal.returns
unfolding kind_number mode_after top_after depth_after tag_number
returns c =
    let pre = c.requires.add_pre in
    let joined =
    join-steps c.requires.add_pre.join refl c.join_names.ensures c.join_value.ensures in
    let kind = c.requires.kind_value in
    λ n early fragment. added-as (add-numbered pre early) (joined) fragment kind (rw (
      c.part_of-uri.ensures,
      c.part_of-local.ensures,
      c.part_of-value.ensures,
    ) at c.store.ensures)
    c.grow.ensures refl refl refl refl
    (rw (c.is_some-new_uri.ensures, c.is_some-new_name.ensures, c.is_some-new_value.ensures)
    at c.moved.ensures)
