-- Cells written one behind the other.
use Prim.Native.Nat.{ℕ, zero, suc, ◌+◌, ◌*◌, ◌-◌, ◌≤◌}
use native.Mathlib.Omega.{arith}
use mathlib.Core.Path.{◌≡◌, sym, ap, ◌∙◌}
use mathlib.Core.List.{List, [], ◌∷◌, ◌++◌, append_assoc, append-nil}
use lib.ListN.{length, take, drop, replicate, length-append, length-replicate}
use lib.ListN.{replicate-append-replicate}
use lib.Seq.{length-take-le, drop-drop, take_at, drop_at}
use Rattle.text.specs.Text.{Text}
use Rattle.spec_exi.specs.Sizes.{max_store, cells_per_event}
use Rattle.spec_exi.specs.Event.{Event, map_event}
use Rattle.spec_exi.specs.Tables.{Placed, span_of}
use Rattle.event.specs.Cells.{cells_of, cells_of_all}
use Rattle.event.proofs.Laws.{cells-append}
use Rattle.read_literal.specs.Literal.{laid_at, Cleared}
use Rattle.read_literal.proofs.Store.{laid-size, laid-before}
use Rattle.read_run.specs.Run.{EventsLaid, TextLaid}

zeros-over : (n k : ℕ) (l : List ℕ)
    → drop n (replicate k 0 ++ l) ≡ replicate (k - n) 0 ++ drop (n - k) l
zeros-over zero k l =
    let a : k - 0 ≡ k = omega arith in let b : 0 - k ≡ 0 = omega arith in rw (a, b)
zeros-over (suc n) zero l =
    let a : 0 - suc n ≡ 0 = omega arith in let b : suc n - 0 ≡ suc n = omega arith in rw (a, b)
zeros-over (suc n) (suc k) l =
    let a : suc k - suc n ≡ k - n = omega arith in
    let b : suc n - suc k ≡ n - k = omega arith in
    rw (a, b) (zeros-over n k l)

-- y behind x, over zeros or what stood there.
module _ (l : List ℕ) (at : ℕ) (x y : List ℕ) (k : ℕ) where
  abbrev front : List ℕ
  front = take at l ++ x

  abbrev end : ℕ
  end = at + length x

  laid-zeros-first : length (x ++ replicate k 0) ≡ length x + k
  laid-zeros-first =
      length-append x (replicate k 0)
      ∙ ap (λ n. length x + n) (length-replicate {A = ℕ} k 0)

  pub laid_then : end + k ≤ length l
      → laid_at (laid_at l at (x ++ replicate k 0)) end y
      ≡ laid_at l at (x ++ y ++ replicate (k - length y) 0)
  unfolding laid_at
  laid_then h =
      let size : length front ≡ end =
      length-append (take at l) x ∙ ap (λ n. n + length x) (length-take-le at l (omega arith)) in
      let e : at + length (x ++ replicate k 0) ≡ end + k = omega (arith, laid-zeros-first) in
      let whole : take at l ++ (x ++ replicate k 0) ++ drop (end + k) l
      ≡ front ++ (replicate k 0 ++ drop (end + k) l) =
      ap (λ (m : List ℕ). m ++ drop (end + k) l) (sym (append_assoc (take at l) x (replicate k 0)))
      ∙ append_assoc front (replicate k 0) (drop (end + k) l) in
      let over : drop (end + length y) (front ++ (replicate k 0 ++ drop (end + k) l))
      ≡ replicate (k - length y) 0 ++ drop (end + length y + (k - length y)) l =
      sym (drop-drop (length y) end (front ++ (replicate k 0 ++ drop (end + k) l)))
      ∙ ap (drop (length y)) (drop_at front (replicate k 0 ++ drop (end + k) l) end size)
      ∙ zeros-over (length y) k (drop (end + k) l)
      ∙ ap (λ (m : List ℕ). replicate (k - length y) 0 ++ m)
      (drop-drop (length y - k) (end + k) l
      ∙ (let n : end + k + (length y - k) ≡ end + length y + (k - length y) = omega arith in
      ap (λ n. drop n l) n)) in
      let long : at + length (x ++ y ++ replicate (k - length y) 0)
      ≡ end + length y + (k - length y) =
      omega (
        arith,
        length-append (x ++ y) (replicate (k - length y) 0),
        length-append x y,
        length-replicate {A = ℕ} (k - length y) 0,
      ) in
      rw (e, long, whole, over, take_at front (replicate k 0 ++ drop (end + k) l) end size)
      (sym (append_assoc (front ++ y) (replicate (k - length y) 0)
      (drop (end + length y + (k - length y)) l))
      ∙ ap (λ (m : List ℕ). m ++ drop (end + length y + (k - length y)) l)
      (append_assoc front y (replicate (k - length y) 0)
      ∙ append_assoc (take at l) x (y ++ replicate (k - length y) 0)
      ∙ ap (λ (m : List ℕ). take at l ++ m)
      (sym (append_assoc x y (replicate (k - length y) 0)))))

-- The same over what stood there.
pub laid_next : (l : List ℕ) (at : ℕ) (x y : List ℕ) → at + length x ≤ length l
    → laid_at (laid_at l at x) (at + length x) y ≡ laid_at l at (x ++ y)
laid_next l at x y h =
    let z : 0 - length y ≡ 0 = omega arith in
    rw (append-nil x, z, append-nil (x ++ y)) at (laid_then l at x y 0 (omega arith))

-- ---- the cells of events

pub cells-more : (es : List (Event Placed)) (e : Event Placed)
    → cells_of_all (es ++ e ∷ []) ≡ cells_of_all es ++ cells_of (map_event span_of e)
unfolding cells_of_all
cells-more es e =
    cells-append es (e ∷ [])
    ∙ ap (λ (r : List ℕ). cells_of_all es ++ r) (append-nil (cells_of (map_event span_of e)))

-- A row of nine behind others.
pub row_next : (events : List ℕ) (at : ℕ) (cells row : List ℕ) {events' events'' : List ℕ} {k : ℕ}
    → events' ≡ laid_at events at cells → at + length cells ≡ k → k ≤ length events
    → length row ≡ cells_per_event
    → events'' ≡ take k events' ++ row ++ drop (k + cells_per_event) events'
    → events'' ≡ laid_at events at (cells ++ row)
unfolding laid_at
row_next events at cells row {events'} {k = k} e size h long is =
    is ∙ ap (λ i. take k events' ++ row ++ drop (k + i) events') (sym long)
    ∙ ap (λ (l : List ℕ). laid_at l k row) e
    ∙ ap (λ i. laid_at (laid_at events at cells) i row) (sym size)
    ∙ laid_next events at cells row (omega arith)

pub events-next : {events events' events'' : List ℕ} {first n : ℕ} (row : List ℕ)
    → EventsLaid events first events' n → cells_per_event * n ≤ length events
    → length row ≡ cells_per_event
    → events'' ≡ take (cells_per_event * n) events' ++ row
    ++ drop (cells_per_event * n + cells_per_event) events'
    → EventsLaid events first events'' (n + 1)
events-next {events} {first = first} row h room long is =
    record {
      cells = h.cells ++ row;
      size = omega (arith, length-append h.cells row, h.size);
      is = row_next events (cells_per_event * first) h.cells row h.is h.size room long
          is;
    }

-- ---- the store

module _ {text text' : List ℕ} {stored now : ℕ} (h : TextLaid text stored text' now)
    (room : max_store ≤ length text) where
  pub text-next : (y : Text) {text'' : List ℕ} {after : ℕ} → text'' ≡ laid_at text' now y
      → after ≡ now + length y → after ≤ max_store → TextLaid text stored text'' after
  text-next y e size small =
      record {
        x = h.x ++ y;
        cleared = h.cleared - length y;
        grows = omega (arith, size, h.grows, length-append h.x y);
        room = omega (arith, h.room);
        is = e ∙ over;
      }
    where
      over : laid_at text' now y
          ≡ laid_at text stored (h.x ++ y ++ replicate (h.cleared - length y) 0)
      over =
          ap (λ (l : List ℕ). laid_at l now y) h.is
          ∙ ap (λ i. laid_at (laid_at text stored (h.x ++ replicate h.cleared 0)) i y) h.grows
          ∙ laid_then text stored h.x y h.cleared (omega (arith, h.grows, h.room))

  pub text-cleared : {text'' : List ℕ} → Cleared text' now text'' → TextLaid text stored text'' now
  text-cleared c =
      record {
        x = h.x;
        cleared = c.cells + (h.cleared - c.cells);
        grows = h.grows;
        room = omega (arith, c.room, h.room);
        is = c.text-is ∙ over;
      }
    where
      zeros : length (replicate {A = ℕ} c.cells 0) ≡ c.cells
      zeros = length-replicate c.cells 0

      over : laid_at text' now (replicate c.cells 0)
          ≡ laid_at text stored (h.x ++ replicate (c.cells + (h.cleared - c.cells)) 0)
      over =
          ap (λ (l : List ℕ). laid_at l now (replicate c.cells 0)) h.is
          ∙ ap (λ i. laid_at (laid_at text stored (h.x ++ replicate h.cleared 0)) i
          (replicate c.cells 0)) h.grows
          ∙ laid_then text stored h.x (replicate c.cells 0) h.cleared
          (omega (arith, h.grows, h.room))
          ∙ ap (λ i. laid_at text stored
          (h.x ++ replicate c.cells 0 ++ replicate (h.cleared - i) 0)) zeros
          ∙ ap (laid_at text stored)
          (append_assoc h.x (replicate c.cells 0) (replicate (h.cleared - c.cells) 0)
          ∙ ap (λ (l : List ℕ). h.x ++ l)
          (replicate-append-replicate {A = ℕ} c.cells (h.cleared - c.cells) 0))

  pub text_same : length text' ≡ length text
  text_same =
      ap length h.is
      ∙ laid-size text stored (h.x ++ replicate h.cleared 0)
      (omega (
        arith,
        h.grows,
        h.room,
        length-append h.x (replicate h.cleared 0),
        length-replicate {A = ℕ} h.cleared 0,
      ))

pub events-same : {events events' : List ℕ} {first n : ℕ} → EventsLaid events first events' n
    → cells_per_event * n ≤ length events → length events' ≡ length events
events-same {events} {first = first} h room =
    ap length h.is ∙ laid-size events (cells_per_event * first) h.cells (omega (arith, h.size))

-- What is cleared leaves the store.
pub cleared-before : {text text' : List ℕ} {stored : ℕ} → max_store ≤ length text
    → Cleared text stored text' → take stored text' ≡ take stored text
unfolding laid_at
cleared-before {text} {stored = stored} room c =
    ap (take stored) c.text-is
    ∙ laid-before text stored (replicate c.cells 0)
    (omega (arith, c.room, length-replicate {A = ℕ} c.cells 0))
