-- What a part and a code come to, as the contracts speak of it: the number of a refusal or 0 beside
-- the values.
use Rattle.std.specs.Prelude.{ℕ, Bool, false, Result, Ok, Err}
use Rattle.refusal.specs.declared.Refusal.{Refusal}
use Rattle.refusal.specs.Numbers.{number_in}
use Rattle.read_field.specs.declared.Field.{Field}
use Rattle.read_production.specs.declared.ProductionRead as code

-- The value of a part and the position after it or, where it is refused, that of the part.
pub record Part : Type 0 where
  pub number : ℕ
  pub value : ℕ
  pub next : ℕ

-- A part at a position.
abbrev pub part_in : ℕ → Result Field Refusal → Part
part_in at (Ok p) = record { number = 0; value = p.value; next = p.next }
part_in at (Err k) = record { number = number_in k; value = 0; next = at }

-- The position after a code; the kind of the production that it names; whether that is a learned
-- one and, if so, the row of the name that it carries or 0, and the rows of the URI and of the name
-- that named it. After a refusal all but the number is 0, and the position is where the code began.
pub record ProductionRead : Type 0 where
  pub number : ℕ
  pub next : ℕ
  pub kind : ℕ
  pub learned : Bool
  pub name : ℕ
  pub uri : ℕ
  pub local : ℕ

abbrev pub refused_as : ℕ → ℕ → ProductionRead
refused_as number at =
    record { number = number; next = at; kind = 0; learned = false; name = 0; uri = 0; local = 0 }

-- A production that is not learned, and how a contract speaks of it.
abbrev pub unlearned_as : ℕ → ℕ → code.ProductionRead
unlearned_as kind next =
    record { next = next; kind = kind; learned = false; name = 0; uri = 0; local = 0 }

abbrev pub fixed_as : ℕ → ℕ → ProductionRead
fixed_as kind next =
    record { number = 0; next = next; kind = kind; learned = false; name = 0; uri = 0; local = 0 }

-- A production that a code names.
abbrev pub seen_of : code.ProductionRead → ProductionRead
seen_of p =
    record {
      number = 0;
      next = p.next;
      kind = p.kind;
      learned = p.learned;
      name = p.name;
      uri = p.uri;
      local = p.local;
    }

-- A code that began at a position.
abbrev pub production_in : ℕ → Result code.ProductionRead Refusal → ProductionRead
production_in at (Ok p) = seen_of p
production_in at (Err k) = refused_as (number_in k) at
