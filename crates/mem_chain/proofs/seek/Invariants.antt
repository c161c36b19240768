use Prim.Native.Nat.{ℕ, ◌<◌}
use mathlib.Core.Path.{◌≡◌}
use mathlib.Core.Bool.{Bool}
use Rattle.mem_chain.proofs.Sought.{Seeking}
use Rattle.mem_chain.proofs.seek.Given as goal

abbrev pub invariant-loop-c : goal.invariant-loop-c
invariant-loop-c g l =
    Seeking l.work l.head l.nexts l.ring l.n l.low
    (λ test. (row : ℕ) (b : Bool) → row < l.ring → goal.F-post g l.has row b → b ≡ test row) l.c

abbrev pub decreases-loop-c : goal.decreases-loop-c
decreases-loop-c g l = l.c
