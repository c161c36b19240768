use mathlib.Core.Path.{refl}
use Rattle.spec_exi.specs.Sizes.{max_open}
use borrow.Author.Rules.{rules}
use Rattle.receiver_read.proofs.outermost.Goals as goal

-- `outermost` meets its contract.
pub returns : goal.returns
unfolding max_open
returns c = record { is = refl; places = search rules }
