-- What the events that were read, and where it stopped, come to: the definitions' answer, and the
-- events that are complete.
use Prim.Native.Nat.{ℕ, zero, suc, ◌+◌, ◌-◌, ◌≤◌, ◌<◌}
use native.Mathlib.Omega.{arith}
use native.Mathlib.Decide.{ℕ_discrete}
use mathlib.Core.Path.{◌≡◌, refl, ap, ◌∙◌}
use mathlib.Core.Bool.{true, false}
use mathlib.Core.List.{List, ◌++◌}
use lib.ListN.{length, drop, length-append}
use Rattle.spec_fields.specs.Bits.{Bits, unpack}
use Rattle.spec_fields.specs.Refusal.{Refusal, number_of, limit, Answer, refused}
use Rattle.spec_fields.specs.Parser.{bad}
use Rattle.spec_exi.specs.Settings.{Settings}
use Rattle.spec_exi.specs.Sizes.{sizes, max_events}
use Rattle.spec_exi.specs.Event.{Event}
use Rattle.spec_exi.specs.Tables.{Placed}
use Rattle.spec_exi.specs.Grammar.{is_finished}
use Rattle.spec_exi.specs.Context.{Context}
use Rattle.spec_exi.specs.Reader.{Reading, step, ending, onward, read_events}
use Rattle.spec_exi.specs.Packets.{nothing_yet, firstThen, first_events}
use Rattle.mem_rows.specs.Rows.{Rows}
use Rattle.mem_state.specs.Holds.{in_store, Topped, Represents, context_at}
use Rattle.read_contract.specs.Outcome.{Declined}
use Rattle.grammar_open.specs.declared.State.{State}
use Rattle.read_run.specs.declared.Advanced.{Advanced}
use Rattle.read_run.specs.Events.{Steps}
use Rattle.grammar_open.specs.Opened.{opened_in}
use Rattle.grammar_open.proofs.Over.{context-over, context-going}
use Rattle.read_run.specs.Run.{Running, AdvancePost}
use Rattle.read_run.proofs.Events.{steps_then, no_step, shifted, on_from, steps-answer}
use Rattle.read_run.proofs.Events.{steps_first}

-- ---- where it stops

module _ (s : Settings) (c : Context) (bs : Bits) where
  answer-full : read_events 0 sizes s c bs ≡ refused limit 0
  unfolding read_events
  answer-full = refl

  first-full : first_events 0 s c bs ≡ nothing_yet c
  unfolding first_events
  first-full = refl

  module _ {k : Refusal} (e : step sizes s c bs ≡ bad k) where
    answer-refused : (n : ℕ) → read_events (suc n) sizes s c bs ≡ refused k 0
    unfolding read_events onward
    answer-refused n = rw e

    first-refused : (n : ℕ) → first_events n s c bs ≡ nothing_yet c
    unfolding first_events firstThen
    first-refused zero = refl
    first-refused (suc n) = rw e

-- ---- the whole

-- This is refused with that number at index i.
pub record RefusedAt (a : Answer Reading) (number i : ℕ) : Type 0 where
  pub refusal : Refusal
  pub is : number ≡ number_of refusal
  pub answer : a ≡ refused refusal i

-- From a context and bits on these events were read, up to another context and the rest.
pub record Answers (s : Settings) (c : Context) (bs : Bits) (es : List (Event Placed)) (d : Context)
    (rest : Bits) (number : ℕ) : Type 0 where
  pub over : number ≡ 0 → read_events max_events sizes s c bs ≡ shifted es (ending s d rest)
  pub refused : 0 < number → RefusedAt (read_events max_events sizes s c bs) number (length es)
  pub first : first_events max_events s c bs ≡ record { events = es; store = d.tables.store }

module _ {s : Settings} {stream events text work : List ℕ} {st : State} {first : ℕ}
    {events' text' work' : List ℕ} {r : Advanced}
    (p : AdvancePost s stream events text work st first events' text' work' r) {w : Rows}
    (a : Represents work (in_store text st.core.stored) st.core w (opened_in st))
    (b : Topped st.core (opened_in st)) (d : st.core.tag ≤ first + 1) where
  abbrev run : Running s stream events text st first w events' text' work' r.state r.index
  run = p.progress.meant w a b d

  abbrev reached : Context
  reached = context_at text' r.state.core run.rows (opened_in r.state)

  abbrev rest : Bits
  rest = drop r.state.core.at (unpack stream)

  is-over : r.number ≡ 0 → is_finished reached.state ≡ true
  is-over z = context-over p.progress.bounded run.after _ (p.over z)

  is-going : 0 < r.number → is_finished reached.state ≡ false
  is-going l = context-going p.progress.bounded run.after _ (p.going l)

  next-refused : 0 < r.number → r.index < max_events
      → Declined (step sizes s reached) stream r.state.core.at r.number
  next-refused l h = (p.refused l h).next run.rows run.after run.topped run.late

  -- The first events may be read already, from c on; for none, c is the state's own context.
  module _ {c : Context} {bs : Bits} {es : List (Event Placed)}
      (read : Steps s c bs es (context_at text st.core w (opened_in st))
      (drop st.core.at (unpack stream))) (count : length es ≡ first)
      (open-still : is_finished c.state ≡ false) where
    abbrev all : List (Event Placed)
    all = es ++ run.es

    all_read : Steps s c bs all reached rest
    all_read = steps_then read run.read

    size : length all ≡ r.index
    size = omega (arith, length-append es run.es, count, run.count)

    abbrev left : ℕ
    left = max_events - r.index

    sum : max_events ≡ length all + left
    sum = omega (arith, size, p.progress.up_to)

    answer : read_events max_events sizes s c bs ≡ shifted all (on_from left s reached rest)
    answer = rw open-still at (steps-answer max_events left sum all_read)

    -- What is left is refused at its first event.
    stops : (k : Refusal) → r.number ≡ number_of k → 0 < r.number
        → read_events left sizes s reached rest ≡ refused k 0
        → RefusedAt (read_events max_events sizes s c bs) r.number (length all)
    unfolding shifted
    stops k e l f =
        let i : length all + 0 ≡ length all = omega arith in
        record {
          refusal = k;
          is = e;
          answer = rw (is-going l) at answer ∙ ap (shifted all) f ∙ ap (refused k) i;
        }

    refuses : 0 < r.number → RefusedAt (read_events max_events sizes s c bs) r.number (length all)
    refuses l = elim (ℕ_discrete r.index max_events) [
      | yes e ↦
          let z : left ≡ 0 = omega arith in
          stops limit (p.full l e) l
          (ap (λ n. read_events n sizes s reached rest) z ∙ answer-full s reached rest)
      | no e ↦
          let h : r.index < max_events = omega (arith, p.progress.up_to) in
          let d = next-refused l h in
          let m : left ≡ suc (left - 1) = omega arith in
          stops d.refusal d.is l
          (ap (λ n. read_events n sizes s reached rest) m
          ∙ answer-refused s reached rest d.result (left - 1))
    ]

    completes : first_events left s reached rest ≡ nothing_yet reached
    completes = elim (ℕ_discrete r.number 0) [
      | yes z ↦ first-refused s reached rest (no_step s reached rest (is-over z)) left
      | no z ↦ elim (ℕ_discrete r.index max_events) [
        | yes e ↦
            let n : left ≡ 0 = omega arith in
            ap (λ m. first_events m s reached rest) n ∙ first-full s reached rest
        | no e ↦
            let h : r.index < max_events = omega (arith, p.progress.up_to) in
            first-refused s reached rest (next-refused (omega (arith, z)) h).result left
      ]
    ]

    pub running-answers : Answers s c bs all reached rest r.number
    running-answers =
        record {
          over = λ z. rw (is-over z) at answer;
          refused = refuses;
          first = steps_first max_events left sum all_read completes;
        }
