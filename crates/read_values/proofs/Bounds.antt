-- Bounds, passed on to the functions that are called.
use Prim.Native.Nat.{ℕ, ◌-◌, ◌≤◌}
use native.Mathlib.Omega.{arith}
use mathlib.Core.Path.{◌≡◌, sym, ◌∙◌}
use mathlib.Core.Bool.{false, true≢false}
use mathlib.Core.List.{List}
use Rattle.spec_fields.specs.Field.{unsigned}
use Rattle.spec_exi.specs.Sizes.{max_stream, max_store}
use Rattle.mem_values.specs.Window.{Replaced, Newest}
use Rattle.mem_values.specs.Hold.{ValueAtPre, FindRowPre, NthLocalPre}
use Rattle.mem_values.specs.Forms.{Order}
use Rattle.read_field.specs.View.{Seen, Value, field_at, InStream, NumberPre}
use Rattle.read_contract.proofs.Outcome.{unsigned-gotten}
use Rattle.read_literal.specs.View as seen
use Rattle.read_literal.specs.Literal.{LiteralPre, LiteralRead}
use Rattle.read_partition.specs.View.{StringRead}
use Rattle.mem_index.specs.Index.{numbers}
use Rattle.read_values.specs.Values.{HitPre, NewPre, ValuePre, SoughtPre, JoinsWithin}

pub in-stream : {stream : List ℕ} {at : ℕ} {text : List ℕ} {stored : ℕ}
    → LiteralPre stream at text stored → InStream stream at
unfolding max_stream
in-stream fit = omega (arith, fit.size, fit.place)

-- After a number.
pub number_fits : {stream : List ℕ} {at : ℕ} {text : List ℕ} {stored : ℕ}
    → LiteralPre stream at text stored → {f : Seen}
    → f ≡ field_at unsigned stream at → {v q : ℕ} → f ≡ Value v q → LiteralPre stream q text stored
number_fits {stream} {at} fit answer z =
    record {
      size = fit.size;
      place = (unsigned-gotten stream at fit.place (sym answer ∙ z)).inside;
      room = fit.room;
      few = fit.few;
    }

module _ {stream : List ℕ} {at : ℕ} {stored : ℕ} {work : List ℕ} {values owner : ℕ}
    (fit : HitPre stream at stored work values owner) where
  pub choice-asks : {among : ℕ} → among ≤ numbers → NumberPre stream at among 65536
  unfolding max_stream
  choice-asks h = omega (arith, fit.size, fit.place)

  pub all-asks : (low : ℕ) → NumberPre stream at (values - low) 65536
  unfolding max_store
  all-asks low = choice-asks (omega (arith, fit.few, fit.store))

  pub count-asks : NthLocalPre work owner 0
  count-asks = record { room = fit.room; low = fit.low; few = omega arith }

  pub nth-asks : NthLocalPre work owner values
  unfolding max_store
  nth-asks = record { room = fit.room; low = fit.low; few = omega (arith, fit.few, fit.store) }

  pub global-asks : {capacity low newer : ℕ} → Replaced values capacity low
      → Newest values capacity newer → Order values low newer low
  unfolding max_store
  global-asks g n =
      record {
        few = omega (arith, fit.few, fit.store);
        some = g.within;
        new = omega (arith, g.is, n.within);
        from = omega arith;
        to = g.within;
      }

  pub row-asks : ValueAtPre work 0
  row-asks = record { room = fit.room; low = omega arith }

pub find-asks : {text : List ℕ} {stored n hash : ℕ} {work : List ℕ} {values : ℕ}
    → SoughtPre text stored n hash work values → FindRowPre work values
unfolding max_store
find-asks fit = record { room = fit.room; few = omega (arith, fit.few, fit.store) }

pub seek-asks : {stream : List ℕ} {at : ℕ} {text : List ℕ} {stored : ℕ} {work : List ℕ} {values : ℕ}
    → NewPre stream at text stored work values
    → {n : ℕ} {text' : List ℕ} {l : seen.Literal} → LiteralRead stream at text stored n text' l
    → l.number ≡ 0 → SoughtPre text' stored n l.hash work values
seek-asks fit r z =
    record { is = r.hashed.is z; store = fit.literal.few; room = fit.room; few = fit.few }

-- A value after its number.
module _ {stream : List ℕ} {at : ℕ} {text : List ℕ} {stored : ℕ} {work : List ℕ} {values owner : ℕ}
    (fit : ValuePre stream at text stored work values owner) {f : Seen}
    (answer : f ≡ field_at unsigned stream at)
    {v q : ℕ} (z : f ≡ Value v q) where
  pub new-asks : NewPre stream q text stored work values
  new-asks =
      record { literal = number_fits fit.literal answer z; room = fit.room; few = fit.few }

  pub hit-asks : HitPre stream q stored work values owner
  hit-asks =
      let l = number_fits fit.literal answer z in
      record {
        size = l.size;
        place = l.place;
        store = l.few;
        room = fit.room;
        few = fit.few;
        low = fit.low;
      }

-- A string that does not join.
pub joins-not : {values : ℕ} {text : List ℕ} {r : StringRead} → r.joins ≡ false
    → JoinsWithin values text r
joins-not e =
    record {
      left = λ j. absurd (true≢false (sym j ∙ e));
      room = λ j. absurd (true≢false (sym j ∙ e));
      hashed = record { is = λ j. absurd (true≢false (sym j ∙ e)) };
    }
