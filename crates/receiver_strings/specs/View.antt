-- What passing over strings comes to, as the contracts speak of it: the number of a refusal or 0, or
-- whether all is passed, beside the values.
use Rattle.std.specs.Prelude.{ℕ, Bool, true, false, Result, Ok, Err}
use Rattle.refusal.specs.declared.Refusal.{Refusal}
use Rattle.refusal.specs.Numbers.{number_in}
use Rattle.receiver_strings.specs.declared.Stopped.{Stopped}
use Rattle.receiver_strings.specs.declared.Cut.{Cut}

-- The position after the code point, where it is read.
pub record Point : Type 0 where
  pub number : ℕ
  pub next : ℕ

-- A code point at a position.
abbrev pub point_in : ℕ → Result ℕ Refusal → Point
point_in at (Ok q) = record { number = 0; next = q }
point_in at (Err k) = record { number = number_in k; next = at }

-- The position after the code points, or that of the first that is refused; how many are left with
-- it.
pub record Skipped : Type 0 where
  pub number : ℕ
  pub at : ℕ
  pub left : ℕ

abbrev pub skipped_in : Result ℕ Stopped → Skipped
skipped_in (Ok q) = record { number = 0; at = q; left = 0 }
skipped_in (Err x) = record { number = number_in x.refusal; at = x.at; left = x.left }

-- Whether a string, or all strings so far, are passed, and the position after them; or where code
-- points are left the position of the first of these, and how many they are.
pub record Looked : Type 0 where
  pub past : Bool
  pub at : ℕ
  pub left : ℕ

abbrev pub looked_in : Result ℕ Cut → Looked
looked_in (Ok q) = record { past = true; at = q; left = 0 }
looked_in (Err x) = record { past = false; at = x.at; left = x.left }
