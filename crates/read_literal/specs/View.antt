-- What a code point and a literal come to, as the contracts speak of it: the number of a refusal or
-- 0 beside the values.
use Rattle.std.specs.Prelude.{ℕ, Option, Some, None, Result, Ok, Err}
use Rattle.refusal.specs.declared.Refusal.{Refusal}
use Rattle.refusal.specs.Numbers.{number_in}
use Rattle.read_literal.specs.declared.Point as point
use Rattle.read_literal.specs.declared.Literal as literal
use Rattle.read_literal.specs.declared.Stopped.{Stopped}

-- The code point, and the octet whose bit k is behind it.
pub record Point : Type 0 where
  pub number : ℕ
  pub value : ℕ
  pub behind : ℕ

abbrev pub point_in : Result point.Point Refusal → Point
point_in (Ok p) = record { number = 0; value = p.value; behind = p.behind }
point_in (Err k) = record { number = number_in k; value = 0; behind = 0 }

-- A code point, or 0 for none.
abbrev pub plain_in : Option ℕ → ℕ
plain_in (Some o) = o
plain_in None = 0

-- The position behind the string or, where code points are left, that of the first of these; how
-- many are left; the hash of the text, 0 after a refusal.
pub record Literal : Type 0 where
  pub number : ℕ
  pub next : ℕ
  pub left : ℕ
  pub hash : ℕ

abbrev pub literal_in : Result literal.Literal Stopped → Literal
literal_in (Ok l) = record { number = 0; next = l.next; left = 0; hash = l.hash }
literal_in (Err x) = record { number = number_in x.refusal; next = x.next; left = x.left; hash = 0 }
