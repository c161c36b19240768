use Rattle.std.specs.Slice.Iter.{windows_size, windows_rest}
use mathlib.Core.Path.{◌≡◌}
use Rattle.text.specs.Names.{has_pair}
use Rattle.name_rules.proofs.has_pair.Given as goal

-- What is left has the pair exactly where the whole text has it.
abbrev pub invariant-loop-w : goal.invariant-loop-w
invariant-loop-w l =
    (windows_size l.w-iterator ≡ 2)
    × (has_pair l.a l.b (windows_rest l.w-iterator) ≡ has_pair l.a l.b l.x)
