use mathlib.Core.Path.{refl}
use Rattle.spec_exi.specs.Sizes.{max_values}
use Rattle.spec_exi.specs.Settings.{meaningful}
use Rattle.settings.specs.Meant.{numbers_of}
use Rattle.settings.proofs.are_meaningful.Goals as goal

-- `are_meaningful` meets its contract by computation.
pub returns : goal.returns
unfolding meaningful numbers_of max_values
returns c = refl
