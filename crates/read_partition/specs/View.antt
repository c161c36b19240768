-- What a function that reads a string answers, as the contracts speak of it.
use Rattle.std.specs.Prelude.{ℕ, ◌+◌, Bool, false, Option, Some, None, Result, Ok, Err, is_some}
use Rattle.refusal.specs.declared.Refusal.{Refusal}
use Rattle.refusal.specs.Numbers.{number_in}
use Rattle.read_literal.specs.declared.Stopped.{Stopped}
use Rattle.read_partition.specs.declared.StringRead as code

-- The number of a refusal or 0; the position after the string or, where code points of a literal
-- are left, that of the first of these, and how many are left; where the string lies; its row in its
-- table, or the row that it is to have; the code points in the store; and whether it is to join,
-- with the hash of its text.
pub record StringRead : Type 0 where
  pub number : ℕ
  pub next : ℕ
  pub left : ℕ
  pub place : ℕ
  pub size : ℕ
  pub row : ℕ
  pub stored : ℕ
  pub joins : Bool
  pub hash : ℕ

abbrev pub refused_as : ℕ → ℕ → ℕ → ℕ → StringRead
refused_as number next left stored =
    record {
      number = number;
      next = next;
      left = left;
      place = 0;
      size = 0;
      row = 0;
      stored = stored;
      joins = false;
      hash = 0;
    }

-- A hash, or 0 for none.
abbrev pub hash_in : Option ℕ → ℕ
hash_in None = 0
hash_in (Some h) = h

abbrev pub read_as : code.StringRead → StringRead
read_as r =
    record {
      number = 0;
      next = r.next;
      left = 0;
      place = r.place;
      size = r.size;
      row = r.row;
      stored = r.stored;
      joins = is_some r.joins;
      hash = hash_in r.joins;
    }

abbrev pub string_in : Result code.StringRead Stopped → StringRead
string_in (Ok r) = read_as r
string_in (Err x) = refused_as (number_in x.refusal) x.next x.left x.stored

-- What the functions here answer.
abbrev pub stopped_at : Refusal → ℕ → ℕ → Stopped
stopped_at refusal next stored =
    record { refusal = refusal; next = next; left = 0; stored = stored }

abbrev pub found_at : ℕ → ℕ → ℕ → ℕ → ℕ → code.StringRead
found_at next place size row stored =
    record {
      next = next;
      place = place;
      size = size;
      row = row;
      stored = stored;
      joins = None;
    }

abbrev pub laid_after : ℕ → ℕ → ℕ → ℕ → Option ℕ → code.StringRead
laid_after next stored n row joins =
    record {
      next = next;
      place = stored;
      size = n;
      row = row;
      stored = stored + n;
      joins = joins;
    }
