-- A code point, and a turn of the loop that passes over code points.
use Prim.Native.Nat.{ℕ, suc, ◌+◌, ◌-◌, ◌≤◌, ◌<◌}
use mathlib.Core.Path.{◌≡◌, refl, sym, ◌∙◌}
use mathlib.Core.Bool.{true, false}
use mathlib.Core.List.{List}
use native.Mathlib.Omega.{arith}
use lib.ListN.{drop}
use Rattle.spec_fields.specs.Bits.{unpack}
use Rattle.spec_fields.specs.Refusal.{number_character}
use Rattle.spec_fields.specs.Parser.{times}
use Rattle.spec_fields.specs.Field.{unsigned}
use Rattle.spec_fields.proofs.Steady.{Steady, steady_then, steady-guard, steady-return, steady-unsigned}
use Rattle.text.specs.Text.{is_char}
use Rattle.spec_exi.specs.Sizes.{max_stream}
use Rattle.spec_exi.specs.Reader.{read_character}
use Rattle.read_field.specs.View.{Seen}
use Rattle.read_field.specs.View.{Value, Refused}
use Rattle.read_field.specs.View.{field_at, InStream}
use Rattle.read_contract.specs.Outcome.{Gotten}
use Rattle.read_contract.proofs.Outcome.{declined-number, refused-declined, times-empty, times-gotten}
use Rattle.read_literal.specs.Awaits.{Awaits}
use Rattle.read_literal.specs.Literal.{base}
use Rattle.read_literal.proofs.Laws.{character-gotten, character-not, character-refused}
use Rattle.read_literal.proofs.Awaits.{awaits-all, awaits-one}
use Rattle.receiver_strings.specs.View.{Point}
use Rattle.receiver_strings.specs.Strings.{SpotPre, PointRead, SkipPost}

-- ---- a code point

steady-character : Steady (read_character base)
unfolding read_character
steady-character = steady_then steady-unsigned (λ p. steady-guard _ _ (steady-return p))

module _ {stream : List ℕ} {at : ℕ} (pre : SpotPre stream at) where
  pub spot-asks : InStream stream at
  unfolding max_stream
  spot-asks = record { size = omega (arith, pre.size); place = pre.place }

  module _ {f : Seen} (answer : f ≡ field_at unsigned stream at) where
    pub point-refused : {n : ℕ} → f ≡ Refused n → PointRead stream at (record { number = n; next = at })
    point-refused z =
        let d = refused-declined (read_character base) stream at
        (sym (character-refused stream at (sym answer ∙ z))) in
        record { refused = λ _. d; read = λ e. absurd (omega (arith, declined-number d)) }

    module _ {v q : ℕ} (z : f ≡ Value v q) where
      pub point-not : is_char v ≡ false
          → PointRead stream at (record { number = number_character; next = at })
      point-not t =
          record {
            refused = λ _. refused-declined (read_character base) stream at
                (sym (character-not stream at pre.place (sym answer ∙ z) t));
            read = λ e. absurd (omega arith);
          }

      pub point-is : is_char v ≡ true → PointRead stream at (record { number = 0; next = q })
      point-is t =
          record {
            refused = λ l. absurd (omega arith);
            read = λ _. (character-gotten stream at pre.place (sym answer ∙ z) t).0;
          }

-- ---- the loop

-- All but `left` of n code points are passed.
pub record Turn (stream : List ℕ) (at n place left : ℕ) : Type 0 where
  pub few : left ≤ n
  pub read : Gotten (times (n - left) (read_character base)) stream at place
  pub waits : Awaits (read_character base) (times n (read_character base)) (drop at (unpack stream))
      (drop place (unpack stream)) left

module _ {stream : List ℕ} {at : ℕ} (n : ℕ) (pre : SpotPre stream at) where
  pub turn-start : Turn stream at n at n
  turn-start =
      let e : n - n ≡ 0 = omega arith in
      record {
        few = omega arith;
        read = rw e (times-empty (read_character base) pre.place);
        waits = awaits-all (read_character base) (drop at (unpack stream)) n;
      }

  module _ {place left : ℕ} (t : Turn stream at n place left) where
    pub turn-asks : SpotPre stream place
    turn-asks = record { size = pre.size; place = t.read.inside }

    pub turn-refused : 0 < left → {p : Point} → PointRead stream place p → (p.number ≡ 0 → ⊥)
        → SkipPost stream at n (record { number = p.number; at = place; left = left })
    turn-refused l {p} h some =
        record {
          inside = t.read.inside;
          few = t.few;
          passed = t.read;
          none = λ z. absurd (some z);
          whole = λ z. absurd (some z);
          cut = λ _. record {
            some = l;
            waits = record { after = t.read.after; inside = t.read.inside; comes = t.waits };
            stops = h.refused (omega (arith, some));
          };
        }

    pub turn-next : 0 < left → {p : Point} → PointRead stream place p → p.number ≡ 0
        → Turn stream at n p.next (left - 1)
    turn-next l {p} h none =
        let g = h.read none in
        let m : n - (left - 1) ≡ n - left + 1 = omega (arith, t.few) in
        let e : left ≡ suc (left - 1) = omega arith in
        record {
          few = omega (arith, t.few);
          read = rw m (times-gotten (read_character base) (n - left) t.read g);
          waits = awaits-one g.value steady-character g.result (rw e at t.waits);
        }

    pub turn_end : left ≤ 0 → SkipPost stream at n (record { number = 0; at = place; left = 0 })
    turn_end l =
        let m : n - left ≡ n = omega arith in
        let e : n - 0 ≡ n = omega arith in
        record {
          inside = t.read.inside;
          few = omega arith;
          passed = rw e (rw m at t.read);
          none = λ _. refl;
          whole = λ _. rw m at t.read;
          cut = λ z. absurd (omega arith);
        }
