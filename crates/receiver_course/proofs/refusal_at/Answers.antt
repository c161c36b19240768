use mathlib.Core.Path.{refl}
use Rattle.receiver_record.specs.Record.{refusal_at}
use Rattle.receiver_course.proofs.refusal_at.Goals as goal

-- `refusal_at` meets its contract.
pub returns : goal.returns
unfolding refusal_at
returns c = refl
