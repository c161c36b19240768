-- What reading an event code asks and leaves, in the definitions' terms.
use Rattle.std.specs.Prelude.{ℕ, ◌*◌, ◌≤◌, ◌<◌, ◌≡◌, true, false, cond, List, length}
use Rattle.std.proofs.Math.Option.{none, some}
use Rattle.text.specs.Text.{Text}
use Rattle.spec_exi.specs.Event.{Event, kind_of}
use Rattle.spec_exi.specs.Sizes.{max_stream, max_learned}
use Rattle.spec_exi.specs.Settings.{Settings}
use Rattle.spec_exi.specs.Grammar.{Production, Code, kind_number, fits, first_fit}
use Rattle.spec_exi.specs.Grammar.{same_code}
use Rattle.spec_exi.specs.Context.{levels_in}
use Rattle.spec_exi.specs.Reader.{read_code}
use Rattle.event_code.specs.Numbers.{number_of_se, number_of_ch, in_fragment}
use Rattle.grammar_codes.specs.Table.{Stands}
use Rattle.mem_layout.specs.Layout.{uri_rows, name_rows, work_cells}
use Rattle.mem_entries.specs.Entries.{key_at}
use Rattle.mem_rows.specs.Rows.{Rows, kind_at, carries, carried_at}
use Rattle.mem_rows.specs.Rows.{context_of}
use Rattle.mem_rows.specs.Valid.{Valid}
use Rattle.read_contract.specs.Outcome.{Outcome}
use Rattle.grammar_match.specs.Here.{CodeRows, learned_here, code_here}
use Rattle.grammar_match.specs.Codes.{Strict, Unlearned}
use Rattle.read_production.specs.View.{ProductionRead, refused_as}

-- ---- bounds

pub record ProductionPre (stream : List ℕ) (at top learned : ℕ) (work : List ℕ) : Type 0 where
  pub size : length stream ≤ max_stream
  pub place : at ≤ 8 * length stream
  pub low : top < name_rows
  pub few : learned ≤ max_learned
  pub room : work_cells ≤ length work

-- ---- on every memory

pub record Nameless (r : ProductionRead) : Type 0 where
  pub name : r.name ≡ 0
  pub uri : r.uri ≡ 0
  pub local : r.local ≡ 0

-- A learned production stands where something is learned, and is SE, AT, EE or CH.
pub record Inner (mode : ℕ) (r : ProductionRead) : Type 0 where
  pub learns : in_fragment ≤ mode
  pub from : number_of_se ≤ r.kind
  pub up_to : r.kind ≤ number_of_ch

pub record ProductionBounds (mode : ℕ) (r : ProductionRead) : Type 0 where
  pub stands : Stands mode r.kind
  pub inner : r.learned ≡ true → Inner mode r
  pub plain : r.learned ≡ false → Nameless r
  pub name : r.name < name_rows
  pub uri : r.uri < uri_rows
  pub local : r.local < name_rows

-- ---- where memory holds rows

-- The rows of a learned production's name.
pub record NameRows (w : Rows) (r : ProductionRead) : Type 0 where
  pub name : r.name < length w.names
  pub uri : carries (kind_at r.kind) ≡ true → r.uri ≡ key_at w.names r.name
  pub local : r.local ≡ r.name

module _ (s : Settings) (w : Rows) (store : Text) (mode : ℕ) (opened : List ℕ) where
  pub record Fixed (kind : ℕ) (x : Code) (e : Event Text) : Type 0 where
    pub strict : first_fit (learned_here w mode opened) e ≡ none
        → Unlearned s w store mode opened kind x e
    pub loose : (y : ℕ × Production) → first_fit (learned_here w mode opened) e ≡ some y
        → same_code x.parts (code_here s w store mode opened e) ≡ false

  pub record IsCode (r : ProductionRead) (x : Code) : Type 0 where
    pub production : x.production
        ≡ record {
          kind = kind_at r.kind;
          qname = cond r.learned (carried_at w (kind_at r.kind) r.name) none;
        }
    pub rows : r.learned ≡ true → NameRows w r
    pub nameless : carries (kind_at r.kind) ≡ false → Nameless r
    pub strict : r.learned ≡ true → (e : Event Text) → fits x.production e ≡ true
        → Strict s w store mode opened x e
    pub fixed : r.learned ≡ false → (e : Event Text) → kind_number (kind_of e) ≡ r.kind
        → Fixed r.kind x e

pub record ProductionPost (s : Settings) (stream : List ℕ) (at mode top learned : ℕ)
    (work : List ℕ) (r : ProductionRead) : Type 0 where
  pub inside : r.next ≤ 8 * length stream
  pub refused : 0 < r.number → r ≡ refused_as r.number at
  pub bounds : r.number ≡ 0 → ProductionBounds mode r
  pub meant : (w : Rows) (store : Text) (opened : List ℕ) → Valid w
      → CodeRows work learned mode top w opened
      → Outcome (read_code s.alignment (levels_in s (context_of w store mode opened))) stream at
      r.number r.next (IsCode s w store mode opened r)
