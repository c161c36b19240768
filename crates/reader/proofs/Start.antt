-- Zeros with the initial entries in them, behind the header: the events can be read, and the
-- context is the definitions' start.
use Prim.Native.Nat.{ℕ, zero, suc, ◌+◌, ◌*◌, ◌-◌, ◌≤◌, ◌<◌}
use native.Mathlib.Omega.{arith}
use mathlib.Core.Path.{◌≡◌, refl, sym, ap, ◌∙◌}
use mathlib.Core.List.{List, ◌++◌}
use lib.ListN.{length, get_or, drop, replicate, length-append, length-drop, length-replicate}
use lib.Seq.{get_or-drop, get_or-append-add}
use Rattle.spec_fields.specs.Bits.{unpack}
use Rattle.spec_exi.specs.Settings.{Settings}
use Rattle.spec_exi.specs.Sizes.{sizes, max_events, max_store, max_open, max_values, reader_work}
use Rattle.spec_exi.specs.Context.{start}
use Rattle.spec_exi.specs.Reader.{read_events}
use Rattle.mem_layout.specs.Layout.{work_cells, zero_from, zero_to}
use Rattle.mem_initial.specs.Initial.{zeroed, initial_text, with_text, with_rows, start_rows, start_at, initial_size}
use Rattle.mem_initial.specs.Initial.{LayRowsPre}
use Rattle.mem_initial.proofs.Initial.{store-sourced, counts_zero, start-represents, start-topped}
use Rattle.mem_initial.proofs.Initial.{start-bounded, BoundsOf, start-means}
use Rattle.read_literal.specs.Literal.{ZeroFrom}
use Rattle.grammar_open.specs.declared.State.{State}
use Rattle.grammar_open.specs.Opened.{last_first, none_open}
use Rattle.read_body.specs.read_run.Run.{AdvancePre}
use Rattle.read_body.specs.Body.{BodyReady, answer_from}
use Rattle.reader.specs.Read.{ReadStreamPre}

-- ---- zeros

pub zeros-at : (n k : ℕ) → get_or {A = ℕ} (replicate n 0) k 0 ≡ 0
zeros-at zero k = refl
zeros-at (suc n) zero = refl
zeros-at (suc n) (suc k) = zeros-at n k

-- The text store behind the initial entries.
text-zeros : (text : List ℕ) → text ≡ replicate (length text) 0 → initial_size ≤ length text
    → length (with_text text 0) ≡ length text → ZeroFrom (with_text text 0) initial_size
unfolding with_text
text-zeros text e h same =
    let size : length initial_text ≡ initial_size =
    omega (arith, same, length-append initial_text (drop initial_size text), length-drop initial_size text) in
    record {
      zero = λ k l.
          let i : k ≡ length initial_text + (k - initial_size) = omega arith in
          ap (λ n. get_or (initial_text ++ drop initial_size text) n 0) i
          ∙ get_or-append-add initial_text (drop initial_size text) (k - initial_size) 0
          ∙ get_or-drop initial_size text (k - initial_size) 0
          ∙ ap (λ (m : List ℕ). get_or m (initial_size + (k - initial_size)) 0) e
          ∙ zeros-at (length text) (initial_size + (k - initial_size));
    }

-- ---- the start

module _ {stream events text work : List ℕ} (h : ReadStreamPre stream events text work) where
  pub counts-ask : work_cells ≤ length work
  unfolding reader_work
  counts-ask = h.rows

  pub rows-ask : {work₁ : List ℕ} → length work₁ ≡ length work → LayRowsPre work₁ 0
  unfolding reader_work
  rows-ask e = record { room = omega (arith, h.rows); near = omega arith }

  pub text-asks : 0 + initial_size ≤ length text
  unfolding max_store
  text-asks = omega (arith, h.room)

  -- The counts are cleared, the rows are laid, and the text.
  module _ (at longest capacity : ℕ) {work₁ work₂ text₁ : List ℕ} {st : State}
      (counts : work₁ ≡ zeroed work)
      (rows : work₂ ≡ with_rows work₁ 0) (laid : text₁ ≡ with_text text 0)
      (begins : st ≡ none_open (start_at at longest capacity))
      (same₁ : length work₁ ≡ length work) (same₂ : length work₂ ≡ length work₁)
      (same : length text₁ ≡ length text) where
    pub events-ask : at ≤ 8 * length stream → capacity ≤ max_values + 1
        → AdvancePre stream events text₁ work₂ st 0
    unfolding none_open start_at reader_work
    events-ask l b =
        rw begins
        (record {
          size = h.size;
          place = l;
          room = omega (arith, h.room, same);
          rows = omega (arith, h.rows, same₁, same₂);
          cells = h.cells;
          few = omega arith;
          bounded = start-bounded at longest capacity b;
          array = length-replicate {A = ℕ} max_open 0;
        })

    zeros : (j : ℕ) → zero_from ≤ j → j < zero_to → get_or work₁ j 0 ≡ 0
    zeros j k l = ap (λ (m : List ℕ). get_or m j 0) counts ∙ counts_zero work counts-ask j k l

    pub body-ready : BodyReady events text₁ work₂ st (start_rows longest capacity)
    unfolding none_open last_first start_at reader_work
    body-ready =
        rw (begins, rows, laid)
        (record {
          represents = start-represents work₁ (omega (arith, h.rows, same₁)) zeros
              (store-sourced text text-asks) at longest capacity;
          topped = start-topped at longest capacity;
          late = omega arith;
          going = λ e. omega arith;
          none = h.cleared.no_events;
          zeros = text-zeros text h.cleared.no_text text-asks (ap length (sym laid) ∙ same);
        })

    pub body-answer : (s : Settings) → BoundsOf s longest capacity
        → answer_from s stream text₁ st (start_rows longest capacity)
        ≡ read_events max_events sizes s (start s) (drop at (unpack stream))
    unfolding none_open last_first start_at
    body-answer s b =
        rw (begins, laid)
        (ap (λ c. read_events max_events sizes s c (drop at (unpack stream))) (start-means text at b))
