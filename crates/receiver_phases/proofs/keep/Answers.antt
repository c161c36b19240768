use mathlib.Core.Path.{refl}
use native.Mathlib.Omega.{arith}
use Rattle.receiver_phases.proofs.Phases.{none_kept, one_kept, all-kept}
use Rattle.receiver_phases.proofs.keep.Goals as goal

-- `keep` meets its contract.
pub loop-i-init : goal.loop-i-init
loop-i-init c = none_kept _ _ _ c.requires

pub loop-i-preserved : goal.loop-i-preserved
loop-i-preserved c = one_kept c.loop-i.invariant (omega arith) refl

pub returns : goal.returns
returns c = all-kept c.loop-i.invariant (omega arith)
