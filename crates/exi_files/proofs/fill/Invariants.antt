-- `fill` is safe and ends. The place stays within the octets, which keep their number.
use Rattle.std.proofs.Common.{length, ◌-◌, ◌≤◌}
use Rattle.exi_files.proofs.fill.Given as goal

abbrev pub invariant-loop-at : goal.invariant-loop-at
invariant-loop-at g l = l.at ≤ length l.octets

abbrev pub decreases-loop-at : goal.decreases-loop-at
decreases-loop-at g l = length l.octets - l.at
