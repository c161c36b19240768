use mathlib.Core.Path.{refl}
use Rattle.spec_exi.specs.Sizes.{event_cells, max_events, max_store, max_stream, reader_work, writer_work}
use Rattle.plumethrift.proofs.plumethrift_sizes.Goals as goal

-- The numbers are the sizes that the definitions name.
pub returns : goal.returns
unfolding event_cells max_events max_store max_stream reader_work writer_work
returns c = refl
