use Rattle.read_tags.proofs.Plain.{some-open, end-stepped}
use Rattle.spec_exi.specs.Grammar.{kind_number}
use borrow.Author.Rules.{rules}
use Rattle.read_tags.proofs.known_end.Goals as goal

pub overflow_sub-c : goal.overflow_sub-c
overflow_sub-c c = some-open c.requires

pub bare-requires : goal.bare-requires
bare-requires c =
    let pre = c.requires in
    record {
      bounded = pre.bounded;
      cells_per_event_in_bounds = pre.cells;
      n_lt_max_events = pre.early;
    }

pub shape_of-events : goal.shape_of-events
shape_of-events c = c.events-1.given

pub returns : goal.returns
unfolding kind_number
returns c =
    let pre = c.requires in
    let mode-after = c.mode_after-mode in
    let bare = c.bare in
    let args = c.args in
    end-stepped args.fragment (pre) mode-after.ensures bare.ensures
