use native.Mathlib.Omega.{arith}
use Rattle.spec_exi.specs.Sizes.{max_store}
use Rattle.read_names.proofs.Bounds.{uri-find-asks}
use borrow.Author.Rules.{rules}
use Rattle.read_names.proofs.seek_uri.Goals as goal

pub overflow_cast-stored : goal.overflow_cast-stored
unfolding max_store
overflow_cast-stored c = omega (arith, c.requires.store)

pub find_uri-requires : goal.find_uri-requires
find_uri-requires c = uri-find-asks c.requires

pub returns : goal.returns
returns c = rw (← c.look_up-x.ensures.result_value) c.find_uri.ensures
