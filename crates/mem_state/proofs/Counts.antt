-- A bool as a number.
use Prim.Native.Nat.{ℕ}
use native.Mathlib.Omega.{arith}
use mathlib.Core.Path.{◌≡◌}
use mathlib.Core.Bool.{Bool, true, false}
use mir.Val.{bool_byte}
use Rattle.mem_state.specs.Commit.{One}

pub one-from : {b : Bool} {r : ℕ} → r ≡ bool_byte b → One b r
one-from {b = true} e = record { is = e; most = omega (arith, e) }
one-from {b = false} e = record { is = e; most = omega (arith, e) }
