use mathlib.Core.Path.{◌≡◌}
use Prim.Native.Nat.{◌+◌, ◌*◌, ◌%◌}
use Rattle.read_literal.proofs.Laws.{Turn}
use Rattle.read_literal.proofs.read_characters.Given as goal

abbrev pub invariant-loop-i : goal.invariant-loop-i
invariant-loop-i l =
    Turn l.stream l.at l.initial.text l.stored l.n l.text (8 * l.j + l.k) l.i l.h × (l.k ≡ l.at % 8)
