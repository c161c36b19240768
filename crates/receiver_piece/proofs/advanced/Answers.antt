use Prim.Native.Nat.{ℕ, ◌≤◌}
use native.Mathlib.Omega.{arith}
use Rattle.spec_exi.specs.Sizes.{max_stream}
use Rattle.receiver_piece.proofs.Piece.{held_asks, advance-asks, on-as}
use borrow.Author.Rules.{rules}
use Rattle.receiver_piece.proofs.advanced.Goals as goal

-- `advanced` meets its contract.
pub read_held-requires : goal.read_held-requires
unfolding max_stream
read_held-requires c =
    let n : ℕ = c.args.n in
    let more : c.args.r.octets ≤ n = omega (arith, c.requires.more, c.requires.size) in
    let size : n ≤ max_stream = omega (arith, c.requires.more, c.requires.size) in
    record {
      n_in_bounds = held_asks c.requires n more size;
      advance_pre = advance-asks c.requires n more size;
    }

pub shape_of-events : goal.shape_of-events
shape_of-events c = c.events-1.given

pub shape_of-text : goal.shape_of-text
shape_of-text c = c.text-1.given

pub shape_of-work : goal.shape_of-work
shape_of-work c = c.work-1.given

pub returns : goal.returns
returns c =
    on-as c.settings_of-o.ensures c.read_held.ensures
