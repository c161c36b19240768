-- A part as the field of a choice gives it, and what it comes to at a level.
use Prim.Native.Nat.{ℕ, ◌*◌, ◌≤◌, ◌<◌}
use native.Mathlib.Omega.{arith}
use mathlib.Core.Path.{◌≡◌}
use mathlib.Core.List.{List, ◌∷◌}
use mathlib.Core.Option.{Option, none, some}
use lib.ListN.{length, get_elem?}
use Rattle.spec_fields.specs.Refusal.{number_of, code}
use Rattle.spec_fields.specs.Field.{Alignment, number_field, width, choice}
use Rattle.spec_exi.specs.Grammar.{Production, Code, choices, at_level, below}
use Rattle.spec_exi.specs.Reader.{read_part, read_code}
use Rattle.read_field.specs.View.{Value, Refused}
use Rattle.read_field.specs.View.{field_at}
use Rattle.read_contract.specs.Outcome.{Gotten, Outcome}
use Rattle.read_contract.proofs.Outcome.{declined-number, refused-declined, number-gotten}
use Rattle.read_contract.proofs.Outcome.{choice-declined, choice-got, choice-none}
use Rattle.read_contract.proofs.Outcome.{declined-outcome, outcome-then, outcome-map}
use Rattle.read_contract.proofs.Outcome.{return-outcome}
use Rattle.read_production.specs.Levels.{PartRead}

-- ---- the field

module _ (a : Alignment) (stream : List ℕ) (at among : ℕ) (place : at ≤ 8 * length stream) where
  pub part-refused : {k : ℕ} → field_at (number_field a (width among)) stream at ≡ Refused k
      → PartRead a stream at among k 0 at
  part-refused {k} e =
      let some : 0 < k =
      declined-number (refused-declined (number_field a (width among)) stream at e) in
      record {
        refused = λ _ l z. choice-declined a code l
            (refused-declined (number_field a (width (length l))) stream at (rw z e));
        below = λ z. absurd (omega arith);
        chosen = λ z. absurd (omega arith);
        after = λ z. absurd (omega arith);
        inside = place;
      }

  module _ {v q : ℕ} (e : field_at (number_field a (width among)) stream at ≡ Value v q) where
    -- The value names no choice.
    pub part_none : among ≤ v → PartRead a stream at among 6 0 at
    unfolding number_of
    part_none h =
        record {
          refused = λ _ l z.
              choice-none a code l {q = q}
              (number-gotten stream at place {v = v} a (width (length l)) (rw z e)) (rw z h);
          below = λ z. absurd (omega arith);
          chosen = λ z. absurd (omega arith);
          after = λ z. absurd (omega arith);
          inside = place;
        }

    pub part-value : v < among → PartRead a stream at among 0 v q
    part-value h =
        let g = number-gotten stream at place a (width among) e in
        record {
          refused = λ z. absurd (omega arith);
          below = λ _. h;
          chosen = λ _ l z i.
              choice-got a code l {q = q}
              (number-gotten stream at place {v = v} a (width (length l)) (rw z e)) i;
          after = λ _. g.after;
          inside = g.inside;
        }

-- ---- at a level

module _ (a : Alignment) (l : List Production) (ls : List (List Production)) {stream : List ℕ}
    {at among number value next : ℕ} (r : PartRead a stream at among number value next)
    (size : length (choices l ls) ≡ among) where
  pub level-refused : {q : ℕ} {good : Code → Type 0} → 0 < number
      → Outcome (read_code a (l ∷ ls)) stream at number q good
  unfolding read_code
  level-refused h = declined-outcome _ (r.refused h (choices l ls) size)

  module _ (z : number ≡ 0) where
    abbrev part-gotten : {c : Option Production} → get_elem? (choices l ls) value ≡ some c
        → Gotten (choice a code (choices l ls)) stream at next
    part-gotten {c} e =
        record {
          value = (value, c);
          result = r.chosen z (choices l ls) size e;
          after = r.after z;
          inside = r.inside;
        }

    -- A production of the level.
    pub level-here : {q : Production} {good : Code → Type 0}
        → get_elem? (choices l ls) value ≡ some (some q) → good (at_level value q)
        → Outcome (read_code a (l ∷ ls)) stream at 0 next good
    unfolding read_code read_part
    level-here {q} e g =
        outcome-then _ (part-gotten e) (return-outcome (at_level value q) g r.inside)

    -- A production of a level below.
    pub level-below : {n q : ℕ} {good good' : Code → Type 0}
        → get_elem? (choices l ls) value ≡ some none
        → Outcome (read_code a ls) stream next n q good
        → (n ≡ 0 → (x : Code) → good x → good' (below value x))
        → Outcome (read_code a (l ∷ ls)) stream at n q good'
    unfolding read_code read_part
    level-below e o h = outcome-then _ (part-gotten e) (outcome-map (below value) o h)
