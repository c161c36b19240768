-- What the readers of parts, and of productions that are not learned, ask and leave.
use Rattle.std.specs.Prelude.{ℕ, ◌*◌, ◌≤◌, ◌<◌, ◌≡◌, cond, List, [], ◌∷◌, length, drop, eqb}
use Rattle.std.proofs.Math.Option.{Option, some}
use Rattle.std.proofs.Math.ListN.{get_elem?}
use Rattle.spec_fields.specs.Bits.{unpack}
use Rattle.spec_fields.specs.Refusal.{code}
use Rattle.spec_fields.specs.Parser.{got}
use Rattle.spec_fields.specs.Field.{Alignment, choice}
use Rattle.spec_exi.specs.Event.{Kind}
use Rattle.spec_exi.specs.Sizes.{max_stream}
use Rattle.spec_exi.specs.Settings.{Settings}
use Rattle.spec_exi.specs.Grammar.{Production}
use Rattle.spec_exi.specs.Reader.{read_code}
use Rattle.event_code.specs.Numbers.{in_element}
use Rattle.grammar_codes.specs.Table.{kept_kinds, fixed_levels, leveled, FixedCode, Stands}
use Rattle.read_contract.specs.Outcome.{Declined, Outcome}
use Rattle.read_production.specs.View.{Part, ProductionRead, refused_as, fixed_as}

-- ---- one part

-- A value among so many, for every list of so many choices.
pub record PartRead (a : Alignment) (stream : List ℕ) (at among number value next : ℕ)
    : Type 0 where
  pub refused : 0 < number → (l : List (Option Production)) → length l ≡ among
      → Declined (choice a code l) stream at number
  pub below : number ≡ 0 → value < among
  pub chosen : number ≡ 0 → (l : List (Option Production)) {p : Option Production}
      → length l ≡ among → get_elem? l value ≡ some p
      → choice a code l (drop at (unpack stream)) ≡ got (value, p) (drop next (unpack stream))
  pub after : number ≡ 0 → at ≤ next
  pub inside : next ≤ 8 * length stream

abbrev pub PartOf : Alignment → List ℕ → ℕ → ℕ → Part → Type 0
PartOf a stream at among p = PartRead a stream at among p.number p.value p.next

-- ---- productions that are not learned

pub record FixedPre (stream : List ℕ) (next : ℕ) : Type 0 where
  pub size : length stream ≤ max_stream
  pub place : next ≤ 8 * length stream

-- The rest of a code that began at bit `at`, by the levels of t.
pub record FixedRead (s : Settings) (mode : ℕ) (t : List (List Kind)) (stream : List ℕ)
    (next at : ℕ) (r : ProductionRead) : Type 0 where
  pub outcome :
      Outcome (read_code s.alignment (leveled t)) stream next r.number r.next
      (FixedCode t r.kind)
  pub refused : 0 < r.number → r ≡ refused_as r.number at
  pub read : r.number ≡ 0 → r ≡ fixed_as r.kind r.next
  pub inside : r.next ≤ 8 * length stream
  pub stands : r.number ≡ 0 → Stands mode r.kind

-- By the last level, in every state.
abbrev pub KeptRead : Settings → List ℕ → ℕ → ℕ → ProductionRead → Type 0
KeptRead s stream next at r =
    (mode : ℕ)
    → FixedRead s mode (kept_kinds s.comments s.instructions ∷ []) stream next at r

-- By the main level, and the one below it.
abbrev pub FixedAt : Settings → ℕ → List ℕ → ℕ → ℕ → ProductionRead → Type 0
FixedAt s mode stream next at r =
    FixedRead s mode (fixed_levels s.comments s.instructions mode) stream next at r

-- How many an element's first level has.
abbrev pub own_count : ℕ → ℕ
own_count mode = cond (eqb mode in_element) 1 0
