use Rattle.read_tags.proofs.Plain.{start-stepped}
use Rattle.spec_exi.specs.Grammar.{kind_number}
use borrow.Author.Rules.{rules}
use Rattle.read_tags.proofs.start_document.Goals as goal

pub bare-requires : goal.bare-requires
bare-requires c =
    let pre = c.requires in
    record {
      bounded = pre.bounded;
      cells_per_event_in_bounds = pre.cells;
      n_lt_max_events = pre.early;
    }

pub shape_of-events : goal.shape_of-events
shape_of-events c = c.events-1.given

pub returns : goal.returns
unfolding kind_number
returns c =
    start-stepped c.args.fragment c.requires c.mode_after-mode.ensures
    c.bare.ensures
