-- Before the first event: what laying the initial entries asks, and what memory then holds.
use mathlib.Core.Path.{◌≡◌, refl, sym, ap, ◌∙◌}
use mathlib.Core.List.{List, [], ◌++◌}
use Prim.Native.Nat.{ℕ, ◌+◌, ◌-◌, ◌≤◌}
use native.Mathlib.Omega.{arith}
use lib.ListN.{length, replicate, length-replicate}
use Rattle.spec_exi.specs.Settings.{Settings}
use Rattle.spec_exi.specs.Sizes.{max_store, reader_work}
use Rattle.spec_exi.specs.Context.{start}
use Rattle.event.specs.Cells.{cells_of_all}
use Rattle.mem_layout.specs.Layout.{work_cells}
use Rattle.mem_state.specs.Holds.{context_at}
use Rattle.mem_initial.specs.Initial.{zeroed, with_text, with_rows, start_rows, start_at, LayRowsPre}
use Rattle.mem_initial.proofs.Initial.{BoundsOf, start-means}
use Rattle.grammar_open.specs.declared.State.{State}
use Rattle.grammar_open.specs.Opened.{last_first, none_open, opened_in}
use Rattle.reader.specs.read_body.Body.{BodyReady}
use Rattle.reader.specs.Read.{ReadStreamPre}
use Rattle.reader.proofs.Start.{body-ready}
use Rattle.receiver_read.specs.On.{BeginPre, BeginPost, before-it, Underway}

module _ {events text work : List ℕ} (pre : BeginPre events text work) where
  pub counts-ask : work_cells ≤ length work
  unfolding reader_work
  counts-ask = pre.rows

  pub rows-ask : {work₁ : List ℕ} → length work₁ ≡ length work → LayRowsPre work₁ 0
  unfolding reader_work
  rows-ask e = record { room = omega (arith, pre.rows); near = omega arith }

  pub text-asks : (n : ℕ) → n ≡ length text → 0 + 99 ≤ n
  unfolding max_store
  text-asks n e = omega (arith, pre.room)

-- Zeros, then the initial entries.
pub begins : {events text work events' text₁ text' work₁ work' : List ℕ}
    → events' ≡ replicate (length events) 0 → text₁ ≡ replicate (length text) 0
    → work₁ ≡ zeroed work → work' ≡ with_rows work₁ 0 → text' ≡ with_text text₁ 0
    → length text₁ ≡ length text → length work₁ ≡ length work → length work' ≡ length work₁
    → length text' ≡ length text₁ → BeginPost events text work events' text' work'
begins e t w v x a b c d =
    record {
      events-is = e;
      text-is = x ∙ ap (λ (l : List ℕ). with_text l 0) t;
      work-is = v ∙ ap (λ (l : List ℕ). with_rows l 0) w;
      zeroed-size = ap length (sym w) ∙ b;
      work-size = c ∙ b;
      text-size = d ∙ a;
    }

-- No event is read, and memory represents the definitions' start.
module _ {events text work events' text' work' : List ℕ} (pre : BeginPre events text work)
    (post : BeginPost events text work events' text' work') (s : Settings) {longest capacity : ℕ}
    (bounds : BoundsOf s longest capacity) where
  zeros-size : (l : List ℕ) {z : List ℕ} → z ≡ replicate (length l) 0 → length z ≡ length l
  zeros-size l e = ap length e ∙ length-replicate {A = ℕ} (length l) 0

  zeros-same : (l : List ℕ) {z : List ℕ} → z ≡ replicate (length l) 0
      → z ≡ replicate (length z) 0
  zeros-same l e = e ∙ ap (λ (n : ℕ). replicate n 0) (sym (zeros-size l e))

  ready : ReadStreamPre [] events' (replicate (length text) 0) work
  ready =
      record {
        size = omega arith;
        cells = omega (arith, pre.cells, zeros-size events post.events-is);
        room = omega (arith, pre.room, length-replicate {A = ℕ} (length text) 0);
        rows = pre.rows;
        cleared = record {
          no_events = zeros-same events post.events-is;
          no_text = zeros-same text refl;
        };
      }

  abbrev begun : State
  begun = none_open (start_at 0 longest capacity)

  body : BodyReady events' text' work' begun (start_rows longest capacity)
  body =
      body-ready ready 0 longest capacity refl post.work-is post.text-is refl post.zeroed-size
      (post.work-size ∙ sym post.zeroed-size)
      (post.text-size ∙ sym (length-replicate {A = ℕ} (length text) 0))

  context-is : context_at text' begun.core (start_rows longest capacity) (opened_in begun)
      ≡ start s
  unfolding none_open last_first start_at
  context-is = rw post.text-is (start-means (replicate (length text) 0) 0 bounds)

  cells-none : events' ≡ cells_of_all [] ++ replicate (length events' - length (cells_of_all [])) 0
  unfolding cells_of_all
  cells-none =
      let n : length events' ≡ length events' - 0 = omega arith in
      zeros-same events post.events-is ∙ ap (λ (k : ℕ). replicate k 0) n

  pub begin-underway : Underway s [] events' text' work' begun 0
  unfolding none_open start_at
  begin-underway =
      record {
        rows = start_rows longest capacity;
        represents = body.represents;
        topped = body.topped;
        late = omega (arith, body.late);
        es = [];
        count = refl;
        cells = cells-none;
        zeros = body.zeros;
        headed = before-it refl refl context-is refl;
      }
