use mathlib.Core.Path.{◌∙◌}
use native.Mathlib.Omega.{arith}
use Rattle.write_field.proofs.Written.{put-length}
use Rattle.write_field.proofs.Unsigned.{Going, started, group-asks, finished, one_more}
use Rattle.write_field.proofs.put_unsigned.Given as goal

abbrev pub invariant-loop-rest : goal.invariant-loop-rest
invariant-loop-rest l = Going l.initial.buf l.at l.v l.buf l.next l.rest

abbrev pub decreases-loop-rest : goal.decreases-loop-rest
decreases-loop-rest l = l.rest
