use Rattle.read_tags.proofs.Plain.{stored-as}
use borrow.Author.Rules.{rules}
use Rattle.read_tags.proofs.bare.Goals as goal

pub store-requires : goal.store-requires
store-requires c = c.requires.cells_per_event_in_bounds

pub next_tag-tag-requires : goal.next_tag-tag-requires
next_tag-tag-requires c = c.requires.n_lt_max_events

pub moved_on-requires : goal.moved_on-requires
moved_on-requires c = c.requires.bounded

pub shape_of-events : goal.shape_of-events
shape_of-events c = c.events-1.given

pub returns : goal.returns
returns c =
    let store = c.store in
    stored-as store.ensures c.next_tag-tag.ensures c.moved_on.ensures
