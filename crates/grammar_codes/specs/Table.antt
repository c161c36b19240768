-- The productions of each state that are not learned, level by level of their event codes (EXI 8.4;
-- scope, "Grammars": the table of codes; P1).
--
-- States and kinds are numbers (crates/event_code/specs/Numbers.antt). Levels: 0 the first part of
-- a code, 1 the second, 2 the third.
use Rattle.std.specs.Prelude.{ℕ, zero, suc, ◌+◌, ◌≤◌, ◌<◌, ◌≡◌, Bool, true, false, cond, List, [], ◌∷◌, ◌++◌, map, length, get_or, drop, eqb, ltb}
use Rattle.std.specs.Prelude as prelude
use Rattle.std.proofs.Math.Option
use Rattle.std.proofs.Math.Option.{Option, none, some}
use Rattle.spec_fields.specs.Bits.{Bits}
use Rattle.spec_fields.specs.Field.{Alignment, choice_bits}
use Rattle.spec_exi.specs.Event.{Kind, SD, ED, SE, AT, EE, CH, CM, PI}
use Rattle.spec_exi.specs.Grammar.{Production, unnamed, kind_number, Code, at_level, below}
use Rattle.event_code.specs.Numbers.{in_tag, number_of_ed, number_of_ee, number_of_ch, kinds}
use Rattle.grammar_codes.specs.declared.Place.{Place}

-- ---- the table

-- Levels of a state at most.
abbrev pub max_levels : ℕ
max_levels = 3

-- Comments and instructions, as kept.
unfoldable pub kept_kinds : Bool → Bool → List Kind
kept_kinds comments instructions = cond comments (CM ∷ []) [] ++ cond instructions (PI ∷ []) []

-- By the state's number. In an element and a fragment's content the learned productions stand
-- before the first level's.
unfoldable pub tables : Bool → Bool → List (List (List Kind))
tables comments instructions =
    let kept = kept_kinds comments instructions in
    ((SD ∷ []) ∷ [])
    ∷ ((SE ∷ []) ∷ kept ∷ [])
    ∷ ((ED ∷ []) ∷ kept ∷ [])
    ∷ []
    ∷ ((SE ∷ ED ∷ []) ∷ kept ∷ [])
    ∷ ([] ∷ (EE ∷ AT ∷ SE ∷ CH ∷ []) ∷ kept ∷ [])
    ∷ ((EE ∷ []) ∷ (SE ∷ CH ∷ []) ∷ kept ∷ [])
    ∷ []

unfoldable pub table_of : Bool → Bool → ℕ → List (List Kind)
table_of comments instructions mode = get_or (tables comments instructions) mode []

unfoldable pub level_at : Bool → Bool → ℕ → ℕ → List Kind
level_at comments instructions mode level = get_or (table_of comments instructions mode) level []

-- No level has a production.
unfoldable pub no_kinds : List (List Kind) → Bool
no_kinds [] = true
no_kinds ([] ∷ ls) = no_kinds ls
no_kinds ((k ∷ ks) ∷ ls) = false

-- One value leads to the next level, where one has productions.
abbrev pub leads_on : List (List Kind) → ℕ
leads_on ls = cond (no_kinds ls) 0 1

-- How many values a part has at a level, before which no production is learned.
abbrev pub values_of : List Kind → List (List Kind) → ℕ
values_of l ls = length l + leads_on ls

abbrev pub values_at : Bool → Bool → ℕ → ℕ → ℕ
values_at comments instructions mode level =
    values_of (level_at comments instructions mode level)
    (drop (suc level) (table_of comments instructions mode))

-- The main level, and those below it: outside an element from the first on, in an element from the
-- second.
unfoldable pub fixed_levels : Bool → Bool → ℕ → List (List Kind)
fixed_levels comments instructions mode =
    drop (cond (ltb mode in_tag) 0 1) (table_of comments instructions mode)

-- Its productions, which are the same whatever is kept.
unfoldable pub fixed_kinds : ℕ → List Kind
fixed_kinds mode = get_or (fixed_levels false false mode) 0 []

-- ---- where a kind stands

-- The kind with this number, among these.
unfoldable pub number_in : List Kind → ℕ → Option ℕ
number_in [] kind = none
number_in (k ∷ ks) kind =
    let later = Option.map suc (number_in ks kind) in cond (eqb (kind_number k) kind) (some 0) later

-- In this level, or else in a later one.
unfoldable pub in_level : Option ℕ → Option (ℕ × ℕ) → Option (ℕ × ℕ)
in_level none p = Option.map (λ x. (suc x.0, x.1)) p
in_level (some v) p = some (0, v)

-- In a table: the level, and the number there.
unfoldable pub place_in : List (List Kind) → ℕ → Option (ℕ × ℕ)
place_in [] kind = none
place_in (l ∷ ls) kind = in_level (number_in l kind) (place_in ls kind)

-- The most levels where none has it.
unfoldable pub place_as : Option (ℕ × ℕ) → Place
place_as none = record { level = max_levels; value = 0 }
place_as (some x) = record { level = x.0; value = x.1 }

-- A place that a function answers, or the most levels for none.
abbrev pub place_view : prelude.Option Place → Place
place_view prelude.None = place_as none
place_view (prelude.Some p) = p

-- The same as `place_as`, of a level alone.
unfoldable pub kept_place : ℕ → Option ℕ → Place
kept_place level none = record { level = max_levels; value = 0 }
kept_place level (some v) = record { level = level; value = v }

-- ---- in the definitions

unfoldable pub leveled : List (List Kind) → List (List Production)
leveled ls = map (map unnamed) ls

-- With the learned productions of the state before the first level's.
unfoldable pub with_learned : List Production → List (List Kind) → List (List Production)
with_learned ps [] = []
with_learned ps (l ∷ ls) = (ps ++ map unnamed l) ∷ leveled ls

-- The table has this code: of a production of its first level, or of one below it.
pub data Reaches : List (List Kind) → Code → Type 0 where
  on_level : {l : List Kind} {ls : List (List Kind)} (v : ℕ) → v < length l
      → Reaches (l ∷ ls) (at_level v (unnamed (get_or l v SD)))
  in-next : {l : List Kind} {ls : List (List Kind)} {x : Code} → Reaches ls x
      → Reaches (l ∷ ls) (below (length l) x)

-- A code that the table has, of a production of this kind.
pub record FixedCode (t : List (List Kind)) (kind : ℕ) (x : Code) : Type 0 where
  pub reaches : Reaches t x
  pub is : kind_number x.production.kind ≡ kind

-- The code of a level's production with number v. (The first clause is not reached.)
unfoldable pub code_at : List (List Kind) → ℕ → ℕ → Code
code_at [] level v = at_level v (unnamed SD)
code_at (l ∷ ls) zero v = at_level v (unnamed (get_or l v SD))
code_at (l ∷ ls) (suc level) v = below (length l) (code_at ls level v)

unfoldable pub raised_by : ℕ → List ℕ → List ℕ
raised_by n [] = []
raised_by n (v ∷ vs) = (n + v) ∷ vs

-- The code where n learned productions stand first.
unfoldable pub after_learned : ℕ → Code → Code
after_learned n x = record { parts = raised_by n x.parts; production = x.production }

-- Its bits: each part is a choice among the values that it has (EXI 6.2).
unfoldable pub fixed_bits : Alignment → List (List Kind) → ℕ → ℕ → ℕ → Bits
fixed_bits a [] n level v = []
fixed_bits a (l ∷ ls) n zero v = choice_bits a (n + values_of l ls) (n + v)
fixed_bits a (l ∷ ls) n (suc level) v =
    choice_bits a (n + values_of l ls) (n + length l) ++ fixed_bits a ls 0 level v

-- ---- what the functions answer

pub record CountAt (comments instructions : Bool) (mode level r : ℕ) : Type 0 where
  pub is : r ≡ length (level_at comments instructions mode level)
  pub few : r ≤ 4

-- The document starts and ends outside of every element, which ends, and has characters, inside.
pub record Stands (mode kind : ℕ) : Type 0 where
  pub known : kind < kinds
  pub outside : kind ≤ number_of_ed → mode < in_tag
  pub inside : number_of_ee ≤ kind → kind ≤ number_of_ch → in_tag ≤ mode

pub record PlaceAt (comments instructions : Bool) (mode kind : ℕ) (r : Place) : Type 0 where
  pub is : r ≡ place_as (place_in (table_of comments instructions mode) kind)
  pub few : r.level ≤ max_levels
  pub low : r.level < max_levels → r.value < length (level_at comments instructions mode r.level)
