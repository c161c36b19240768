use Rattle.receiver_piece.proofs.Piece.{concludes-on, concludes-refused}
use Rattle.spec_exi.specs.Sizes.{max_events}
use native.Mathlib.Omega.{arith}
use borrow.Author.Rules.{rules}
use Rattle.receiver_piece.proofs.conclude.Goals as goal

-- `conclude` meets its contract.
pub went_on-requires : goal.went_on-requires
went_on-requires c = c.requires

pub returns-then-a : goal.returns-then-a
returns-then-a c = concludes-on _ _ _ _ _ c.if-a.true c.went_on.ensures

pub overflow_cast-a : goal.overflow_cast-a
unfolding max_events
overflow_cast-a c =
    omega (arith, c.requires.up_to)

pub returns : goal.returns
returns c = concludes-refused _ _ _ _ _ c.if-a.false c.refusal_at-y.ensures
    (search (rules, c.refuse.ensures.value))
