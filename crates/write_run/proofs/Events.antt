-- Events one behind the other, and what they leave of the definitions' answer.
use Prim.Native.Nat.{ℕ, suc, ◌+◌}
use native.Mathlib.Omega.{arith}
use mathlib.Core.Path.{◌≡◌, refl, sym, ap, subst, ◌∙◌}
use mathlib.Core.Bool.{true, false}
use mathlib.Core.List.{List, [], ◌∷◌, ◌++◌, append_assoc, append-nil}
use mathlib.Core.Option.{none, some}
use lib.ListN.{length}
use Rattle.spec_fields.specs.Bits.{Bits}
use Rattle.spec_fields.specs.Refusal.{Refusal, number_of, limit, shape, Answer, refused, accepted}
use Rattle.text.specs.Text.{Text, Span, part}
use Rattle.spec_exi.specs.Event.{Event, map_event}
use Rattle.spec_exi.specs.Settings.{Settings}
use Rattle.spec_exi.specs.Sizes.{sizes}
use Rattle.spec_exi.specs.Grammar.{is_finished}
use Rattle.spec_exi.specs.Context.{Context, next}
use Rattle.spec_exi.specs.Strict.{event_bits}
use Rattle.spec_exi.specs.Writer.{Stored, fault_of, prepended, unless, write_events}
use Rattle.write_partition.specs.Judged.{fault_number}
use Rattle.write_partition.proofs.Tests.{some-fault, some-refusal}
use Rattle.write_run.specs.Events.{Steps, none_written, one_written}

-- n events, with these bits, stand before what this answer is about.
pub shifted : ℕ → Bits → Answer Bits → Answer Bits
shifted n w (refused k i) = refused k (n + i)
shifted n w (accepted bs) = accepted (w ++ bs)

shifted_none : (x : Answer Bits) → shifted 0 [] x ≡ x
unfolding shifted
shifted_none (refused k i) = ap (refused k) (omega arith)
shifted_none (accepted bs) = refl

pub shifted-refused : (n : ℕ) (w : Bits) (k : Refusal) → shifted n w (refused k 0) ≡ refused k n
unfolding shifted
shifted-refused n w k = ap (refused k) (omega arith)

pub shifted-accepted : (n : ℕ) (w bs : Bits) → shifted n w (accepted bs) ≡ accepted (w ++ bs)
unfolding shifted
shifted-accepted n w bs = refl

shifted-first : (n : ℕ) (u w : Bits) (x : Answer Bits)
    → prepended u (shifted n w x) ≡ shifted (suc n) (u ++ w) x
unfolding shifted prepended
shifted-first n u w (refused k i) = ap (refused k) (omega arith)
shifted-first n u w (accepted bs) = ap accepted (sym (append_assoc u w bs))

-- ---- by the first of the events

-- The first of these events is refused with this number.
pub record Stops (n : ℕ) (s : Settings) (c : Context) (text : Text) (xs : List Stored) (number : ℕ)
    : Type 0 where
  pub refusal : Refusal
  pub is : number ≡ number_of refusal
  pub answer : write_events n sizes s c text xs ≡ refused refusal 0

module _ (n : ℕ) (s : Settings) (c : Context) (text : Text) where
  pub answer-ended : is_finished c.state ≡ true → write_events n sizes s c text [] ≡ accepted []
  unfolding write_events
  answer-ended e = rw e

  pub stops-early : is_finished c.state ≡ false → Stops n s c text [] 14
  unfolding write_events number_of
  stops-early e = record { refusal = shape; is = refl; answer = rw e }

  pub stops-full : (x : Stored) (xs : List Stored) → Stops 0 s c text (x ∷ xs) 12
  unfolding write_events number_of
  stops-full x xs = record { refusal = limit; is = refl; answer = refl }

  pub stops-shape : (xs : List Stored) → Stops (suc n) s c text (none ∷ xs) 14
  unfolding write_events number_of
  stops-shape xs = record { refusal = shape; is = refl; answer = refl }

  module _ (e : Event Span) (xs : List Stored) where
    answer-fault : (k : Refusal) → fault_of sizes s c text e ≡ some k
        → write_events (suc n) sizes s c text (some e ∷ xs) ≡ refused k 0
    unfolding write_events unless
    answer-fault k f = rw f

    pub stops-fault : {number : ℕ} → number ≡ fault_number (fault_of sizes s c text e)
        → (number ≡ 0 → ⊥) → Stops (suc n) s c text (some e ∷ xs) number
    stops-fault f Some-number =
        let (k, g) = some-refusal (fault_of sizes s c text e) (omega (arith, Some-number)) in
        record { refusal = k; is = f ∙ ap fault_number g ∙ some-fault k; answer = answer-fault k g }

    answer-more : fault_of sizes s c text e ≡ none
        → (let e' = map_event (part text) e in
        write_events (suc n) sizes s c text (some e ∷ xs)
        ≡ prepended (event_bits s c e') (write_events n sizes s (next s c e') text xs))
    unfolding write_events unless
    answer-more f = rw f

-- ---- steps

steps_then : {s : Settings} {text : Text} {c d f : Context} {xs ys : List Stored} {bs cs : Bits}
    → Steps s text c xs bs d → Steps s text d ys cs f → Steps s text c (xs ++ ys) (bs ++ cs) f
steps_then none_written more = more
steps_then {s} {text} {c} {f = f} {ys = ys} {cs = cs} (one_written {e = e} {xs} {bs} clean h) more =
    subst (λ (u : Bits). Steps s text c (some e ∷ (xs ++ ys)) u f)
    (sym (append_assoc (event_bits s c (map_event (part text) e)) bs cs))
    (one_written clean (steps_then h more))

pub one_more : {s : Settings} {text : Text} {c d : Context} {xs : List Stored} {bs : Bits}
    (e : Event Span) → Steps s text c xs bs d → fault_of sizes s d text e ≡ none
    → (let e' = map_event (part text) e in
    Steps s text c (xs ++ (some e ∷ [])) (bs ++ event_bits s d e') (next s d e'))
one_more {s} {text} {c} {d} {xs} {bs} e h clean =
    let e' = map_event (part text) e in
    subst (λ (u : Bits). Steps s text c (xs ++ (some e ∷ [])) (bs ++ u) (next s d e'))
    (append-nil (event_bits s d e')) (steps_then h (one_written clean none_written))

-- The answer for a list, by the events that are written and the answer for those that are left.
pub steps-answer : {s : Settings} {text : Text} {c d : Context} {xs : List Stored} {bs : Bits}
    (m n : ℕ) → m ≡ length xs + n → (ys : List Stored) → Steps s text c xs bs d
    → write_events m sizes s c text (xs ++ ys)
    ≡ shifted (length xs) bs (write_events n sizes s d text ys)
steps-answer {s} {text} {c} m n l ys none_written =
    let e : m ≡ n = omega arith in rw e (sym (shifted_none (write_events n sizes s c text ys)))
steps-answer {s} {text} {c} {d} m n l ys (one_written {e = e} {xs} {bs} clean h) =
    let k : m ≡ suc (length xs + n) = omega arith in
    let u = event_bits s c (map_event (part text) e) in
    rw k
    (answer-more (length xs + n) s c text e (xs ++ ys) clean
    ∙ ap (prepended u) (steps-answer (length xs + n) n refl ys h)
    ∙ shifted-first (length xs) u bs (write_events n sizes s d text ys))
