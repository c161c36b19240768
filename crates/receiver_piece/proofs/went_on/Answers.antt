use Rattle.receiver_piece.specs.Piece.{shown, went_on}
use Rattle.spec_exi.specs.Sizes.{max_stream, max_events, max_store}
use native.Mathlib.Omega.{arith}
use mathlib.Core.Path.{refl}
use Rattle.receiver_piece.proofs.went_on.Goals as goal

-- `went_on` meets its contract.
pub overflow_cast-reply : goal.overflow_cast-reply
unfolding max_events
overflow_cast-reply c = omega (arith, c.requires.up_to)

pub overflow_cast-reply-2 : goal.overflow_cast-reply-2
unfolding max_store
overflow_cast-reply-2 c = omega (arith, c.requires.stored)

pub overflow_add-receiver : goal.overflow_add-receiver
unfolding max_stream
overflow_add-receiver c = omega (arith, c.requires.few)

pub returns : goal.returns
unfolding went_on shown
returns c = refl
