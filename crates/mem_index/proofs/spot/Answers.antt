use Rattle.mem_index.specs.Index.{spot_of}
use native.Mathlib.Nat.{mod-lt}
use mathlib.Core.Path.{refl}
use borrow.Author.Rules.{rules}
use Rattle.mem_index.proofs.spot.Goals as goal

-- `spot` meets its contract.
pub returns : goal.returns
unfolding spot_of
returns c = record { is = refl; low = mod-lt _ c.requires.some }
