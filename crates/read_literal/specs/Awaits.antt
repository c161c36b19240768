-- A parser that has come to a run of values by q, of which n are still to be read: whatever bits
-- follow, the rest of its work begins with them.
use Rattle.std.specs.Prelude.{◌≡◌, List, ◌++◌, ℕ, ◌*◌, ◌≤◌, length, drop}
use Rattle.spec_fields.specs.Bits.{Bits, unpack}
use Rattle.spec_fields.specs.Parser.{Parser, times, ◌>>=◌}

-- p at bs comes to n values by q at mid.
pub record Awaits {A B : Type 0} (q : Parser B) (p : Parser A) (bs mid : Bits) (n : ℕ)
    : Type 0 where
  pub onward : List B → Parser A
  pub comes : (more : Bits) → p (bs ++ more) ≡ (times n q >>= onward) (mid ++ more)

-- The same at positions of a stream.
pub record Waits {A B : Type 0} (q : Parser B) (p : Parser A) (stream : List ℕ)
    (at next left : ℕ) : Type 0 where
  pub after : at ≤ next
  pub inside : next ≤ 8 * length stream
  pub comes : Awaits q p (drop at (unpack stream)) (drop next (unpack stream)) left
