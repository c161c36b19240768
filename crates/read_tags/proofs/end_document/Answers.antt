use Rattle.read_tags.proofs.Plain.{over-stepped}
use borrow.Author.Rules.{rules}
use Rattle.read_tags.proofs.end_document.Goals as goal

pub bare-requires : goal.bare-requires
bare-requires c =
    let pre = c.requires in
    record {
      bounded = pre.bounded;
      cells_per_event_in_bounds = pre.cells;
      n_lt_max_events = pre.early;
    }

pub shape_of-events : goal.shape_of-events
shape_of-events c = c.events-1.given

pub returns : goal.returns
returns c =
    let pre = c.requires in
    let bare = c.bare in
    λ fragment. over-stepped fragment (pre) bare.ensures
