-- What memory that represents rows gives to the readers of an event's parts, and the event that
-- they read.
use Prim.Native.Nat.{ℕ}
use native.Mathlib.Omega.{arith}
use mathlib.Core.Path.{◌≡◌, refl, sym, ap}
use mathlib.Core.Bool.{true, true≢false}
use mathlib.Core.List.{List}
use mathlib.Core.Option.{some, map}
use Rattle.spec_fields.specs.Bits.{Bits}
use Rattle.spec_fields.specs.Parser.{Result, bad, got, return, and_then, ◌>>=◌}
use Rattle.spec_exi.specs.Sizes.{Sizes}
use Rattle.spec_exi.specs.Settings.{Settings}
use Rattle.spec_exi.specs.Event.{QName, Event, start_document, end_document, end_element}
use Rattle.spec_exi.specs.Event.{start_element, attribute, characters, comment, instruction}
use Rattle.spec_exi.specs.Event.{Kind, SD, ED, SE, AT, EE, CH, CM, PI, kind_of, name_of, map_event}
use Rattle.spec_exi.specs.Tables.{Placed, Tables, name_text, event_text, value}
use Rattle.spec_exi.specs.Grammar.{State}
use Rattle.spec_exi.specs.Reader.{read_string, readName, readContent}
use Rattle.mem_rows.specs.Rows.{Rows, carries}
use Rattle.mem_state.specs.declared.Core.{Core}
use Rattle.mem_state.specs.Holds.{in_store, Represents}
use Rattle.read_qname.specs.Qnames.{Prepared}

-- ---- memory

module _ {work text : List ℕ} {c : Core} {w : Rows} {opened : List ℕ}
    (r : Represents work (in_store text c.stored) c w opened) where
  pub prepared : Prepared work text c w
  prepared = record { valid = r.valid; holds = r.holds; counts = r.counts }

-- ---- events by their texts

pub kind-text : (f : Event Placed) → kind_of (event_text f) ≡ kind_of f
unfolding event_text map_event kind_of
kind-text start_document = refl
kind-text end_document = refl
kind-text end_element = refl
kind-text (start_element q) = refl
kind-text (attribute q v) = refl
kind-text (characters v) = refl
kind-text (comment x) = refl
kind-text (instruction x y) = refl

pub name-text : (f : Event Placed) → name_of (event_text f) ≡ map name_text (name_of f)
unfolding event_text map_event name_of name_text
name-text start_document = refl
name-text end_document = refl
name-text end_element = refl
name-text (start_element q) = refl
name-text (attribute q v) = refl
name-text (characters v) = refl
name-text (comment x) = refl
name-text (instruction x y) = refl

-- ---- a name that is carried is the event's

got_same : {A : Type 0} {a b : A} {x y : Bits} → got a x ≡ got b y → a ≡ b
got_same {A} {a} e = ap (λ (r : Result A). elim r [ bad k ↦ a | got v bs ↦ v ]) e

module _ (q : QName Placed) {v : Event Placed × Tables} {rest : Bits} where
  attribute-name : (r : Result (Placed × Tables))
      → and_then r (λ x. return (attribute q x.0, x.1)) ≡ got v rest → name_of v.0 ≡ some q
  unfolding and_then return name_of
  attribute-name (bad k) e = let z : ◌≡◌ {A = ℕ} 0 1 = cc in absurd (omega arith)
  attribute-name (got x bs) e =
      ap (λ (u : Event Placed × Tables). name_of u.0) (sym (got_same e))

  pub content-name : (z : Sizes) (s : Settings) (t : Tables) (st : State) (k : Kind) (bs : Bits)
      → carries k ≡ true → readContent z s t st k (some q) bs ≡ got v rest → name_of v.0 ≡ some q
  unfolding readContent readName return ◌>>=◌ and_then carries name_of
  content-name z s t st SD bs h e = absurd (true≢false (sym h))
  content-name z s t st ED bs h e = absurd (true≢false (sym h))
  content-name z s t st SE bs h e =
      ap (λ (u : Event Placed × Tables). name_of u.0) (sym (got_same e))
  content-name z s t st AT bs h e =
      attribute-name (read_string z s t (value (name_text q)) bs) e
  content-name z s t st EE bs h e = absurd (true≢false (sym h))
  content-name z s t st CH bs h e = absurd (true≢false (sym h))
  content-name z s t st CM bs h e = absurd (true≢false (sym h))
  content-name z s t st PI bs h e = absurd (true≢false (sym h))
