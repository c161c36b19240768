-- What writing an event code asks, and its bits as the table and memory give them.
use Rattle.std.specs.Prelude.{ℕ, ◌+◌, ◌-◌, ◌≤◌, ◌<◌, ◌≡◌, Bool, true, false, cond, List, length, drop, T, eqb}
use Rattle.spec_fields.specs.Bits.{Bits}
use Rattle.spec_fields.specs.Field.{Alignment, choice_bits}
use Rattle.spec_exi.specs.Settings.{Settings}
use Rattle.event_code.specs.Numbers.{in_element}
use Rattle.mem_chain.specs.Chain.{below}
use Rattle.grammar_codes.specs.declared.Place.{Place}
use Rattle.grammar_codes.specs.Table.{table_of, level_at, values_at, fixed_bits, max_levels}
use Rattle.write_field.specs.Written.{blank_from, farthest}
use Rattle.mem_index.specs.Index.{numbers}
use Rattle.write_production.specs.declared.Code.{Code}

-- ---- the bits

-- Of a production that is not learned, where so many are.
unfoldable pub placed_bits : Settings → ℕ → Place → ℕ → Bits
placed_bits s mode p count =
    fixed_bits s.alignment (table_of s.comments s.instructions mode) count p.level
    p.value

-- Its parts below the first.
unfoldable pub lower_bits : Settings → ℕ → Place → Bits
lower_bits s mode p =
    fixed_bits s.alignment (drop 1 (table_of s.comments s.instructions mode)) 0
    (p.level - 1) p.value

unfoldable pub code_bits_as : Settings → ℕ → Place → Code → Bits
code_bits_as s mode p code =
    let among = code.count + values_at s.comments s.instructions mode 0 in
    cond code.learned (choice_bits s.alignment among (below among code.part))
    (placed_bits s mode p code.count)

-- In an element, a code of one part: v among the learned productions and the state's own values.
unfoldable pub own_values : ℕ → ℕ
own_values mode = cond (eqb mode in_element) 2 1

unfoldable pub first_bits : Alignment → ℕ → ℕ → ℕ → Bits
first_bits a mode count v = choice_bits a (count + own_values mode) v

-- ---- what is asked

-- The place is one of the table's.
pub record InTable (s : Settings) (mode : ℕ) (p : Place) : Type 0 where
  pub level : p.level < max_levels
  pub value : p.value < length (level_at s.comments s.instructions mode p.level)

pub record FixedPre (s : Settings) (stream : List ℕ) (at mode : ℕ) (p : Place) (count : ℕ)
    : Type 0 where
  pub blank : T (blank_from stream at)
  pub near : at + 48 ≤ farthest
  pub few : count ≤ numbers
  pub place : InTable s mode p

pub record LowerPre (s : Settings) (stream : List ℕ) (at mode : ℕ) (p : Place) : Type 0 where
  pub blank : T (blank_from stream at)
  pub near : at + 32 ≤ farthest
  pub place : InTable s mode p
  pub under : 0 < p.level

pub record CodePre (s : Settings) (stream : List ℕ) (at mode : ℕ) (p : Place) (code : Code)
    : Type 0 where
  pub blank : T (blank_from stream at)
  pub near : at + 48 ≤ farthest
  pub few : code.count ≤ numbers
  pub place : InTable s mode p

pub record FirstPre (stream : List ℕ) (at count v : ℕ) : Type 0 where
  pub blank : T (blank_from stream at)
  pub near : at ≤ farthest
  pub few : count ≤ numbers
  pub low : v ≤ count
