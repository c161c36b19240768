-- `good_octets` is safe and ends.
use Rattle.exi_fault.proofs.Memory.good_octets.Given as goal

abbrev pub decreases-loop-step : goal.decreases-loop-step
decreases-loop-step l = l.step
