use mathlib.Core.Path.{refl}
use Rattle.spec_exi.specs.Sizes.{max_stream, max_store, cells_per_event, max_events, event_cells, reader_work}
use Rattle.receiver_course.specs.Course.{has_room}
use Rattle.receiver_course.proofs.has_room.Goals as goal

-- `has_room` meets its contract.
pub returns : goal.returns
unfolding has_room max_stream max_store max_events event_cells reader_work
returns c = refl
