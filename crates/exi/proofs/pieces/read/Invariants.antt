-- `read` is safe and ends.
use Rattle.std.proofs.Common.{◌-◌, length}
use Rattle.exi.proofs.pieces.read.Given as goal

abbrev pub decreases-loop-at : goal.decreases-loop-at
decreases-loop-at l = length l.stream - l.at
