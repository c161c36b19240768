use Rattle.write_tags.proofs.Ends.{known-ended}
use Rattle.write_known.proofs.Values.{learned-asks}
use borrow.Author.Rules.{rules}
use Rattle.write_tags.proofs.known_end.Goals as goal

pub put_learned-at-requires : goal.put_learned-at-requires
put_learned-at-requires c = learned-asks c.requires.step_pre c.requires.learned_pre

pub ended-requires : goal.ended-requires
ended-requires c =
    record {
      bounded = c.requires.step_pre.bounded;
      depth_nonzero = c.requires.step_pre.bounded.fits.inner c.requires.learned_pre.inner;
      n_lt_max_events = c.requires.step_pre.early;
    }

pub returns : goal.returns
returns c =
    rw c.ended.ensures
    (known-ended c.requires.step_pre c.args.fragment c.requires.learned_pre
    c.put_learned-at.ensures)
