use native.Mathlib.Omega.{arith}
use Rattle.write_tags.proofs.Ends.{end-asks, content-ended}
use borrow.Author.Rules.{rules}
use Rattle.write_tags.proofs.end_tag.Goals as goal

pub put_first-at-requires : goal.put_first-at-requires
put_first-at-requires c =
    end-asks c.requires.step_pre c.requires.mode_value c.count_here-count.ensures

pub ended-requires : goal.ended-requires
ended-requires c =
    record {
      bounded = c.requires.step_pre.bounded;
      depth_nonzero = c.requires.step_pre.bounded.fits.inner (omega (arith, c.requires.mode_value));
      n_lt_max_events = c.requires.step_pre.early;
    }

pub returns : goal.returns
returns c =
    rw c.ended.ensures
    (content-ended c.requires.step_pre c.requires.mode_value c.args.fragment
    c.count_here-count.ensures c.requires.found_here c.put_first-at.ensures)
