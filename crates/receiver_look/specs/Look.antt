-- What looking at an event asks and leaves.
use Rattle.std.specs.Prelude.{ℕ, ◌*◌, ◌≤◌, ◌<◌, ◌≡◌, Bool, true, false, List, [], ◌∷◌, map, length, drop}
use Rattle.std.proofs.Math.Option.{Option, none, some}
use Rattle.spec_fields.specs.Bits.{unpack}
use Rattle.spec_fields.specs.Refusal.{number_of, ended}
use Rattle.spec_fields.specs.Field.{Alignment}
use Rattle.text.specs.Text.{Text}
use Rattle.spec_exi.specs.Settings.{Settings}
use Rattle.spec_exi.specs.Sizes.{sizes, max_uris, max_string}
use Rattle.spec_exi.specs.Event.{QName, AT, PI}
use Rattle.spec_exi.specs.Tables.{Placed, Slot, Tables, uri, value, names_of}
use Rattle.spec_exi.specs.Grammar.{State}
use Rattle.spec_exi.specs.Context.{character_role}
use Rattle.spec_exi.specs.Reader.{read_character, read_hit, read_by_literals, read_string, readName}
use Rattle.spec_exi.specs.Reader.{readContent, step}
use Rattle.mem_layout.specs.Layout.{work_cells}
use Rattle.mem_entries.specs.Texts.{Source}
use Rattle.mem_names.specs.Uris.{uri_text}
use Rattle.mem_names.specs.Names.{NamesHold}
use Rattle.mem_rows.specs.Rows.{Rows, kind_at, tables_of}
use Rattle.mem_rows.specs.Valid.{Valid}
use Rattle.mem_state.specs.declared.Core.{Core}
use Rattle.mem_state.specs.Holds.{in_store, Bounded, Topped, Represents, context_at}
use Rattle.event_code.specs.Numbers.{number_of_at, number_of_ch}
use Rattle.read_contract.specs.Outcome.{Declined}
use Rattle.read_literal.specs.Awaits.{Awaits}
use Rattle.read_production.specs.View.{ProductionRead}
use Rattle.read_production.specs.Levels.{FixedAt}
use Rattle.receiver_strings.specs.View.{Looked}
use Rattle.receiver_strings.specs.Cuts.{Passes, Sees}
use Rattle.receiver_strings.specs.Strings.{SpotPre, LookBounds, StringSeen}

pub record UriPre (stream : List ℕ) (at uris : ℕ) : Type 0 where
  pub spot : SpotPre stream at
  pub few : uris ≤ max_uris

-- Over any tables with so many URIs.
pub record UriSeen (a : Alignment) (stream : List ℕ) (at uris : ℕ) (r : Looked) : Type 0 where
  pub bounds : LookBounds stream r
  pub sees : (s : Settings) → s.alignment ≡ a → (t : Tables) → length t.uris ≡ uris
      → Sees s (read_string sizes s t uri) stream at r

pub record NameSeen (a : Alignment) (stream : List ℕ) (at uris : ℕ) (r : Looked) : Type 0 where
  pub bounds : LookBounds stream r
  pub sees : (s : Settings) → s.alignment ≡ a → (t : Tables) → length t.uris ≡ uris
      → (attr : Bool) → Sees s (readName sizes s t attr none) stream at r

-- ---- a name by its numbers

pub record HitPre (stream work : List ℕ) (at : ℕ) : Type 0 where
  pub spot : SpotPre stream at
  pub rows : work_cells ≤ length work

-- Tables with so many URIs, whose names memory holds.
pub record Tabled (work : List ℕ) (uris : ℕ) (t : Tables) : Type 0 where
  pub rows : Rows
  pub store : Text
  pub is : t ≡ tables_of rows store
  pub valid : Valid rows
  pub count : length rows.uris ≡ uris
  pub from : ℕ → Source
  pub hold : NamesHold work from (length rows.names) rows.names

-- The names of a URI's row.
abbrev pub own_names : Rows → Text → ℕ → List Slot
own_names w store row = map some (names_of (tables_of w store) (uri_text w.uris row))

pub record OwnSeen (a : Alignment) (stream work : List ℕ) (at row : ℕ) (r : Looked) : Type 0 where
  pub bounds : LookBounds stream r
  pub sees : (s : Settings) → s.alignment ≡ a → {uris : ℕ} {t : Tables} (h : Tabled work uris t)
      → row < length h.rows.uris
      → Sees s (read_hit sizes s 0 (own_names h.rows h.store row)) stream at r

pub record LocalSeen (a : Alignment) (stream work : List ℕ) (at row : ℕ) (r : Looked) : Type 0 where
  pub bounds : LookBounds stream r
  pub sees : (s : Settings) → s.alignment ≡ a → {uris : ℕ} {t : Tables} (h : Tabled work uris t)
      → row < length h.rows.uris
      → Sees s (read_by_literals sizes s t (own_names h.rows h.store row ∷ [])) stream at r

pub record HitSeen (a : Alignment) (stream work : List ℕ) (at uris : ℕ) (r : Looked) : Type 0 where
  pub bounds : LookBounds stream r
  pub past : r.past ≡ true → (s : Settings) → s.alignment ≡ a → {t : Tables}
      → Tabled work uris t
      → Passes (readName sizes s t true none) (drop at (unpack stream))
      (drop r.at (unpack stream))

-- ---- a string after others

pub record ThenPre (stream : List ℕ) (l : Looked) : Type 0 where
  pub spot : SpotPre stream l.at
  pub few : l.left ≤ max_string

pub record ThenSeen (stream : List ℕ) (l : Looked) (k : ℕ) (r : Looked) : Type 0 where
  pub bounds : LookBounds stream r
  pub after : l.past ≡ true → StringSeen stream l.at k r
  pub stays : l.past ≡ false → r ≡ l

-- ---- by the kind

-- What a production carries: no name, where it is not learned; an attribute's, where it is.
pub record Carries (learned : Bool) (kind : ℕ) (q : Option (QName Placed)) : Type 0 where
  pub none_is : learned ≡ false → q ≡ none
  pub some_is : learned ≡ true → kind ≡ number_of_at → (x : QName Placed) × (q ≡ some x)

pub record AttributeSeen (a : Alignment) (stream work : List ℕ) (at : ℕ) (learned : Bool)
    (uris : ℕ) (r : Looked) : Type 0 where
  pub bounds : LookBounds stream r
  pub sees : (s : Settings) → s.alignment ≡ a → (t : Tables) → Tabled work uris t
      → (st : State) (q : Option (QName Placed)) → Carries learned number_of_at q
      → Sees s (readContent sizes s t st AT q) stream at r

pub record InstructionSeen (stream : List ℕ) (at : ℕ) (r : Looked) : Type 0 where
  pub bounds : LookBounds stream r
  pub sees : (s : Settings) (t : Tables) (st : State) (q : Option (QName Placed))
      → Sees s (readContent sizes s t st PI q) stream at r

-- Characters are a value.
abbrev pub Valued : State → Type 0
Valued st = (q : QName Text) × (character_role st ≡ value q)

pub record ContentSeen (a : Alignment) (stream work : List ℕ) (at kind : ℕ) (learned : Bool)
    (uris : ℕ) (r : Looked) : Type 0 where
  pub bounds : LookBounds stream r
  pub sees : (s : Settings) → s.alignment ≡ a → (t : Tables) → Tabled work uris t
      → (st : State) → (kind ≡ number_of_ch → Valued st) → (q : Option (QName Placed))
      → Carries learned kind q → Sees s (readContent sizes s t st (kind_at kind) q) stream at r

-- ---- an event

pub record LookPre (stream work : List ℕ) (c : Core) : Type 0 where
  pub spot : SpotPre stream c.at
  pub rows : work_cells ≤ length work
  pub bounded : Bounded c

-- The rest of a code in an element that names no learned production, and the content.
pub record FixedLookPre (stream work : List ℕ) (next : ℕ) (c : Core) : Type 0 where
  pub spot : SpotPre stream c.at
  pub place : next ≤ 8 * length stream
  pub rows : work_cells ≤ length work
  pub bounded : Bounded c

-- The rest is read to this production, and its content is looked at.
pub record FixedFound (s : Settings) (stream work : List ℕ) (next : ℕ) (c : Core) (r : Looked) :
    Type 0 where
  pub production : ProductionRead
  pub read : FixedAt s c.mode stream next c.at production
  pub good : production.number ≡ 0
  pub seen : ContentSeen s.alignment stream work production.next production.kind
      production.learned c.uris r

pub record FixedSeen (s : Settings) (stream work : List ℕ) (next : ℕ) (c : Core) (r : Looked) :
    Type 0 where
  pub bounds : LookBounds stream r
  pub found : 0 < r.left → FixedFound s stream work next c r
  pub passed : r.past ≡ true → FixedFound s stream work next c r

-- Where octets end in the definitions' step, the event is not passed; and where code points are
-- left, it is cut there: whatever rows memory represents.
pub record LookPost (s : Settings) (stream work : List ℕ) (c : Core) (r : Looked) : Type 0 where
  pub bounds : LookBounds stream r
  pub cut : 0 < r.left → (text : List ℕ) (w : Rows) (opened : List ℕ)
      → Represents work (in_store text c.stored) c w opened → Topped c opened
      → Declined (step sizes s (context_at text c w opened)) stream c.at (number_of ended)
      → Awaits (read_character s) (step sizes s (context_at text c w opened))
      (drop c.at (unpack stream)) (drop r.at (unpack stream)) r.left
  pub ends : (text : List ℕ) (w : Rows) (opened : List ℕ)
      → Represents work (in_store text c.stored) c w opened → Topped c opened
      → Declined (step sizes s (context_at text c w opened)) stream c.at (number_of ended)
      → r.past ≡ false
