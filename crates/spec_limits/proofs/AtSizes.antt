-- The examples at the sizes hold, by computation.
use mathlib.Core.Path.{refl}
use Rattle.spec_exi.specs.Examples.Places.{at, in_uri, named}
use Rattle.spec_exi.specs.Examples.Written.{written_for, Written, listed, listed_in}
use Rattle.spec_exi.proofs.Definitions.{definitions}
use Rattle.spec_limits.specs.AtSizes.{up_to, nested, in_uris, with_attribute, a_row, at_sizes}

-- They hold.
pub at-sizes : Written at_sizes
unfolding definitions at in_uri named written_for listed listed_in up_to nested in_uris with_attribute a_row at_sizes
at-sizes = record { answers = refl }
