-- What the tests before a quick step tell.
use Prim.Native.Nat.{ℕ, suc, ◌≤◌, ◌<◌}
use native.Mathlib.Omega.{arith}
use mathlib.Core.Path.{◌≡◌, refl, sym, subst, ◌∙◌}
use mathlib.Core.Bool.{Bool, true, false, ◌&&◌, ◌||◌, not, true≢false}
use mathlib.Core.List.{List}
use lib.Dec.{eqb, leb, ltb}
use borrow.Author.Tests.{eqb-true, leb-true, ltb-true, not-true, not-false}
use Rattle.spec_fields.proofs.Tests.{split}
use Rattle.event_code.specs.Numbers.{in_tag, in_element}
use Rattle.spec_fields.specs.Field.{Alignment}
use Rattle.spec_exi.specs.Settings.{Settings}
use Rattle.text.specs.Text.{Span}
use Rattle.spec_exi.specs.Event.{Event}
use Rattle.spec_exi.specs.Sizes.{max_events}
use Rattle.settings.specs.declared.Settings as given
use Rattle.settings.specs.Meant.{settings_from}
use Rattle.event.specs.declared.Part.{Part}
use Rattle.event.specs.declared.Event.TheVariants.{StartElement, Attribute}
use Rattle.event.specs.Cells.{meaning}
use Rattle.mem_marks.specs.Marks.{marked_in}
use Rattle.mem_learned.specs.Grammars.{flag_in}
use Rattle.mem_state.specs.declared.Core.{Core}
use Rattle.std.specs.Prelude.{Option, Some}
use Rattle.mem_chain.specs.Chain.{link_of}
use Rattle.grammar_match.specs.Found.{FoundHere}
use Rattle.grammar_stepped.specs.declared.Stepped.{Stepped}
use Rattle.write_event.specs.Step.{StepPre, StepPost}
use Rattle.write_known.specs.Names.{NameAnswer, LearnedName}
use Rattle.write_known.specs.Known.{AttributePost}
use Rattle.write_tags.specs.Tags.{ElementPost}

and-both : (a b : Bool) → a && b ≡ true → (a ≡ true) × (b ≡ true)
and-both true b e = (refl, e)
and-both false b e = absurd (true≢false (sym e))

-- An element's: a grammar, room for an element more, and one around it.
pub element-tests : (depth mode : ℕ) (has : Bool) → (has && ltb depth 100) && leb in_tag mode ≡ true
    → (has ≡ true) × (depth < 100) × (in_tag ≤ mode)
element-tests depth mode has e =
    let (tests, inner) = and-both (has && ltb depth 100) (leb in_tag mode) e in
    let (flag, room) = and-both has (ltb depth 100) tests in
    (flag, ltb-true depth 100 room, leb-true in_tag mode inner)

-- An attribute's: no mark, and a start tag.
pub attribute-tests : (mode : ℕ) (marked : Bool) → not marked && eqb mode in_tag ≡ true
    → (marked ≡ false) × (mode ≡ in_tag)
attribute-tests mode marked e =
    let (mark, tag) = and-both (not marked) (eqb mode in_tag) e in
    (not-true marked mark, eqb-true mode in_tag tag)

pub tag-inner : {mode : ℕ} → mode ≡ in_tag → in_tag ≤ mode
tag-inner e = omega (arith, e)

-- A step by copies of the settings and the core is a step by them.
pub copied-asks : {d c : Core} → d ≡ c → {stream work : List ℕ} {n : ℕ} → StepPre stream work c n
    → StepPre stream work d n
copied-asks e {stream} {work} {n} pre = subst (λ x. StepPre stream work x n) (sym e) pre

pub copied-step : {p o : given.Settings} {d c : Core} {q r : Stepped} → p ≡ o → d ≡ c → q ≡ r → {opening text : List ℕ}
    {e : Event Span} {stream work : List ℕ} {n : ℕ} {stream' work' : List ℕ}
    → StepPost (settings_from p) opening text e stream work d n stream' work' r
    → StepPost (settings_from o) opening text e stream work c n stream' work' q
copied-step {p} {o} {d} {c} {q} {r} e₁ e₂ e₃ {opening} {text} {e} {stream} {work} {n} {stream'} {work'} h =
    subst (λ x. StepPost (settings_from x) opening text e stream work c n stream' work' q) e₁
    (subst (λ x. StepPost (settings_from p) opening text e stream work x n stream' work' q) e₂
    (subst (λ x. StepPost (settings_from p) opening text e stream work d n stream' work' x) (sym e₃) h))

-- A name whose learned production is in this row.
pub name-found : {opening text : List ℕ} {kind : ℕ} {uri local : Part} {c : Core} {work : List ℕ}
    {name g : ℕ} {row : Option ℕ} → row ≡ Some g
    → LearnedName opening text kind uri local c work (record { name = name; row = link_of row })
    → LearnedName opening text kind uri local c work (record { name = name; row = suc g })
name-found {opening} {text} {kind} {uri} {local} {c} {work} {name} e l =
    subst
    (λ o. LearnedName opening text kind uri local c work (record { name = name; row = link_of o }))
    e l

module _ {opening text : List ℕ} {uri local : Part} {c : Core} {work : List ℕ} {f : NameAnswer} {n : ℕ}
    {a : Alignment} {stream stream' : List ℕ} {r : Stepped} where
  pub element-step : LearnedName opening text 2 uri local c work f → 0 < f.row
      → ElementPost a f.name stream work c n stream' r → (s : Settings) → s.alignment ≡ a
      → StepPost s opening text (meaning (StartElement uri local)) stream work c n stream' work r
  element-step l some p s same =
      let (u, v) = l.within some in p.steps s same opening text uri local u v (l.named some)

  pub attribute-step : LearnedName opening text 3 uri local c work f → 0 < f.row
      → {value : Part} {work' : List ℕ} → AttributePost a text value f.name stream work c stream' work' r
      → n < max_events → (s : Settings) → s.alignment ≡ a
      → StepPost s opening text (meaning (Attribute uri local value)) stream work c n stream' work' r
  attribute-step l some p early s same =
      let (u, v) = l.within some in p.steps n early s same opening uri local u v (l.named some)
