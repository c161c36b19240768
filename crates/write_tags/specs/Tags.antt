-- What a quick step of an event without a value leaves: what any step does
-- (crates/write_event/specs/Step.antt), and work memory as it was.
use Rattle.std.specs.Prelude.{ℕ, ◌+◌, ◌-◌, ◌≤◌, ◌≡◌, Bool, true, false, List}
use Rattle.spec_fields.specs.Field.{Alignment}
use Rattle.text.specs.Text.{inside}
use Rattle.spec_exi.specs.Settings.{Settings}
use Rattle.spec_exi.specs.Event.{EE}
use Rattle.spec_exi.specs.Grammar.{kind_number}
use Rattle.event.specs.declared.Part.{Part}
use Rattle.event.specs.declared.Event as declared
use Rattle.event.specs.declared.Event.TheVariants.{StartElement}
use Rattle.event.specs.Cells.{as_span, meaning}
use Rattle.mem_rows.specs.Rows.{mode_after}
use Rattle.mem_state.specs.declared.Core.{Core}
use Rattle.grammar_codes.specs.Table.{PlaceAt}
use Rattle.grammar_match.specs.Here.{CountedHere}
use Rattle.grammar_stepped.specs.declared.Stepped.{Stepped}
use Rattle.grammar_stepped.specs.Stepped.{stepped_as, moved_on}
use Rattle.write_field.specs.Written.{Put}
use Rattle.write_production.specs.Codes.{code_bits_as}
use Rattle.write_event.specs.Step.{StepPost}
use Rattle.write_known.specs.Names.{Named}

-- The numbers after an end tag, in a fragment or not.
abbrev pub ended_at : Bool → Core → ℕ → ℕ → Core
ended_at fragment c at n =
    moved_on c at c.stored false false (mode_after fragment (kind_number EE) c.mode c.depth)
    c.top (c.depth - 1) (n + 2)

pub record TagPost (a : Alignment) (fragment : Bool) (e : declared.Event) (stream work : List ℕ)
    (c : Core) (n : ℕ) (stream' : List ℕ) (r : Stepped) : Type 0 where
  pub steps : (s : Settings) → s.alignment ≡ a → s.fragment ≡ fragment → (opening text : List ℕ)
      → StepPost s opening text (meaning e) stream work c n stream' work r

-- Of a start element with this name.
pub record ElementPost (a : Alignment) (name : ℕ) (stream work : List ℕ) (c : Core) (n : ℕ)
    (stream' : List ℕ) (r : Stepped) : Type 0 where
  pub steps : (s : Settings) → s.alignment ≡ a → (opening text : List ℕ) (uri local : Part)
      → inside text (as_span uri) ≡ true → inside text (as_span local) ≡ true
      → Named opening text false uri local c work name
      → StepPost s opening text (meaning (StartElement uri local)) stream work c n stream' work r

-- ---- outside the root element

-- The kind is the first of its state, and SD or ED.
pub record OuterPre (s : Settings) (c : Core) (kind : ℕ) : Type 0 where
  pub place : PlaceAt s.comments s.instructions c.mode kind
      (record { level = 0; value = 0 })
  pub few : kind ≤ 1

pub record OuterPost (s : Settings) (kind : ℕ) (stream work : List ℕ) (c : Core) (n : ℕ)
    (stream' : List ℕ) (r : Stepped) : Type 0 where
  pub count : ℕ
  pub counted : CountedHere work c.mode c.top count
  pub at : ℕ
  pub put : Put stream c.at
      (code_bits_as s c.mode (record { level = 0; value = 0 })
      (record { learned = false; count = count; part = 0 })) stream' at
  pub is : r
      ≡ stepped_as 0
      (moved_on c at c.stored false false (mode_after s.fragment kind c.mode c.depth)
      c.top c.depth (n + 2))

pub record DocumentPost (s : Settings) (e : declared.Event) (stream work : List ℕ) (c : Core)
    (n : ℕ) (stream' : List ℕ) (r : Stepped) : Type 0 where
  pub steps : (opening text : List ℕ)
      → StepPost s opening text (meaning e) stream work c n stream' work r
