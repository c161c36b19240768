-- An event's cells mean that event, and cells that mean an event are its cells.
-- What a list of cells is as stored events.
use Prim.Native.Nat.{ℕ, zero, suc, ◌+◌, ◌*◌, ◌≤◌, ◌<◌}
use native.Mathlib.Omega.{arith}
use native.Mathlib.Numerals.{towards_suc}
use mathlib.Core.Path.{◌≡◌, refl, sym, ap, ◌∙◌}
use mathlib.Core.Bool.{true, false, ◌&&◌}
use mathlib.Core.List.{List, [], ◌∷◌, ◌++◌, map, append_assoc}
use mathlib.Core.Option.{none, some}
use lib.ListN.{length, set, get_or, take, drop, length-append, length-drop, drop_of_length-le}
use lib.Seq.{drop-cons, take_at, drop_at, drop-drop, sets-eq}
use Rattle.std.specs.Prelude.{Some, None}
use Rattle.text.specs.Text.{Span}
use Rattle.spec_exi.specs.Event.{Event, map_event, start_document, end_document, end_element}
use Rattle.spec_exi.specs.Event.{start_element, attribute, characters, comment, instruction}
use Rattle.spec_exi.specs.Sizes.{cells_per_event}
use Rattle.spec_exi.specs.Tables.{Placed, span_of}
use Rattle.spec_exi.specs.Writer.{Stored}
use Rattle.spec_exi.specs.Meaning.{stored_of}
use Rattle.event.specs.declared.Event as declared
use Rattle.event.specs.Cells.{meaning, Judged, judged, judged_as, row, zeros, cells_of, is_zeros}
use Rattle.event.specs.Cells.{if_zeros, of_row, span_at, loaded_from, events_of, cells_of_all}

-- ---- the values of the code and those of the format

-- What a loaded value says of the stored event.
pub whole-means : (e : declared.Event) (x : Stored) → judged (Some e) ≡ judged_as x → x ≡ some (meaning e)
unfolding judged judged_as
whole-means e none h = sym (ap (λ (j : Judged). j.event) h)
whole-means e (some d) h = sym (ap (λ (j : Judged). j.event) h)

pub shape-means : (x : Stored) → judged None ≡ judged_as x → x ≡ none
unfolding judged judged_as
shape-means none h = refl
shape-means (some d) h = sym (ap (λ (j : Judged). j.event) h)

module _ (x y p v : Span) (e : declared.Event) where
  pub zeros-whole : is_zeros x && is_zeros y && is_zeros p && is_zeros v ≡ true
      → judged (Some e) ≡ judged_as (if_zeros x y p v (meaning e))
  unfolding if_zeros judged judged_as
  zeros-whole h = rw h

  pub data-shape : is_zeros x && is_zeros y && is_zeros p && is_zeros v ≡ false
      → judged None ≡ judged_as (if_zeros x y p v (meaning e))
  unfolding if_zeros judged judged_as
  data-shape h = rw h

-- ---- an event and its cells

pub cells-length : (e : Event Span) → length (cells_of e) ≡ 9
unfolding cells_of row
cells-length start_document = refl
cells-length end_document = refl
cells-length end_element = refl
cells-length (start_element q) = refl
cells-length (attribute q v) = refl
cells-length (characters v) = refl
cells-length (comment x) = refl
cells-length (instruction x y) = refl

pub cells-per-event : (e : Event Span) → length (cells_of e) ≡ cells_per_event
cells-per-event e = cells-length e

-- What was stored is loaded.
pub loaded-cells : (e : Event Span) → loaded_from (cells_of e) ≡ some e
unfolding cells_of row zeros loaded_from span_at of_row is_zeros if_zeros
loaded-cells start_document = refl
loaded-cells end_document = refl
loaded-cells end_element = refl
loaded-cells (start_element q) = refl
loaded-cells (attribute q v) = refl
loaded-cells (characters v) = refl
loaded-cells (comment x) = refl
loaded-cells (instruction x y) = refl

-- The cells from a place on, read one by one.
abbrev reads : ℕ → List ℕ → ℕ → List ℕ
reads zero xs at = []
reads (suc n) xs at = get_or xs at 0 ∷ reads n xs (suc at)

reads-is : (n : ℕ) (xs : List ℕ) (at : ℕ) → at + n ≤ length xs → reads n xs at ≡ take n (drop at xs)
reads-is zero xs at h = refl
reads-is (suc n) xs at h =
    let inside : at < length xs = omega arith in
    rw (drop-cons xs at 0 inside) (ap (λ (l : List ℕ). get_or xs at 0 ∷ l) (reads-is n xs (suc at) (omega arith)))

-- Nine cells are a row.
pub row_at : (xs : List ℕ) (at : ℕ) → at + cells_per_event ≤ length xs
    → row (get_or xs at 0) (span_at xs (at + 1) (at + 2)) (span_at xs (at + 3) (at + 4))
    (span_at xs (at + 5) (at + 6)) (span_at xs (at + 7) (at + 8))
    ≡ take cells_per_event (drop at xs)
unfolding row span_at
row_at xs at h = simp towards_suc (reads-is 9 xs at h)

-- Nine stores put a row.
pub row_put : (l : List ℕ) (at k : ℕ) (x y p v : Span) → at + cells_per_event ≤ length l
    → (let l₂ = set (set (set l at k) (at + 1) x.place) (at + 2) x.size in
    let l₄ = set (set l₂ (at + 3) y.place) (at + 4) y.size in
    let l₆ = set (set l₄ (at + 5) p.place) (at + 6) p.size in
    set (set l₆ (at + 7) v.place) (at + 8) v.size)
    ≡ take at l ++ row k x y p v ++ drop (at + cells_per_event) l
unfolding row
row_put l at k x y p v h =
    simp towards_suc (sets-eq (row k x y p v) l at h)

-- ---- cells as stored events

pub events-whole : (xs : List ℕ) → cells_per_event ≤ length xs
    → events_of xs ≡ loaded_from (take cells_per_event xs) ∷ events_of (drop cells_per_event xs)
unfolding events_of
events-whole [] h = absurd (omega arith)
events-whole (a ∷ []) h = absurd (omega arith)
events-whole (a ∷ b ∷ []) h = absurd (omega arith)
events-whole (a ∷ b ∷ c ∷ []) h = absurd (omega arith)
events-whole (a ∷ b ∷ c ∷ d ∷ []) h = absurd (omega arith)
events-whole (a ∷ b ∷ c ∷ d ∷ e ∷ []) h = absurd (omega arith)
events-whole (a ∷ b ∷ c ∷ d ∷ e ∷ f ∷ []) h = absurd (omega arith)
events-whole (a ∷ b ∷ c ∷ d ∷ e ∷ f ∷ g ∷ []) h = absurd (omega arith)
events-whole (a ∷ b ∷ c ∷ d ∷ e ∷ f ∷ g ∷ k ∷ []) h = absurd (omega arith)
events-whole (a ∷ b ∷ c ∷ d ∷ e ∷ f ∷ g ∷ k ∷ l ∷ xs) h = refl

pub events-short : (xs : List ℕ) → 0 < length xs → length xs < cells_per_event → events_of xs ≡ none ∷ []
unfolding events_of
events-short [] p h = absurd (omega arith)
events-short (a ∷ []) p h = refl
events-short (a ∷ b ∷ []) p h = refl
events-short (a ∷ b ∷ c ∷ []) p h = refl
events-short (a ∷ b ∷ c ∷ d ∷ []) p h = refl
events-short (a ∷ b ∷ c ∷ d ∷ e ∷ []) p h = refl
events-short (a ∷ b ∷ c ∷ d ∷ e ∷ f ∷ []) p h = refl
events-short (a ∷ b ∷ c ∷ d ∷ e ∷ f ∷ g ∷ []) p h = refl
events-short (a ∷ b ∷ c ∷ d ∷ e ∷ f ∷ g ∷ k ∷ []) p h = refl
events-short (a ∷ b ∷ c ∷ d ∷ e ∷ f ∷ g ∷ k ∷ l ∷ xs) p h = absurd (omega arith)

pub events-row : (xs ys : List ℕ) → length xs ≡ 9 → events_of (xs ++ ys) ≡ loaded_from xs ∷ events_of ys
events-row xs ys n =
    let long : cells_per_event ≤ length (xs ++ ys) = simp length-append (omega arith) in
    events-whole (xs ++ ys) long ∙ rw (take_at xs ys 9 n, drop_at xs ys 9 n)

pub events-cells : (e : Event Span) (xs : List ℕ) → events_of (cells_of e ++ xs) ≡ some e ∷ events_of xs
events-cells e xs = events-row (cells_of e) xs (cells-length e) ∙ rw (loaded-cells e)

-- The cells of events mean these events.
pub cells-mean : (es : List (Event Placed)) → events_of (cells_of_all es) ≡ map stored_of es
unfolding cells_of_all events_of stored_of
cells-mean [] = refl
cells-mean (e ∷ es) =
    events-cells (map_event span_of e) (cells_of_all es)
    ∙ ap (λ (l : List Stored). stored_of e ∷ l) (cells-mean es)

pub cells-append : (a b : List (Event Placed)) → cells_of_all (a ++ b) ≡ cells_of_all a ++ cells_of_all b
unfolding cells_of_all
cells-append [] b = refl
cells-append (e ∷ a) b =
    ap (λ (r : List ℕ). cells_of (map_event span_of e) ++ r) (cells-append a b)
    ∙ sym (append_assoc (cells_of (map_event span_of e)) (cells_of_all a) (cells_of_all b))

pub cells-size : (es : List (Event Placed)) → length (cells_of_all es) ≡ cells_per_event * length es
unfolding cells_of_all
cells-size [] = refl
cells-size (e ∷ es) =
    omega (
      arith,
      length-append (cells_of (map_event span_of e)) (cells_of_all es),
      cells-length (map_event span_of e),
      cells-size es,
    )

-- The stored events from a cell on.
module _ (xs : List ℕ) (at : ℕ) where
  pub events-at : at + cells_per_event ≤ length xs
      → events_of (drop at xs) ≡ loaded_from (take cells_per_event (drop at xs)) ∷ events_of (drop (at + cells_per_event) xs)
  events-at h =
      let long : cells_per_event ≤ length (drop at xs) = simp length-drop (omega arith) in
      rw (events-whole (drop at xs) long, drop-drop cells_per_event at xs)

  pub events-cut : at < length xs → length xs < at + cells_per_event → events_of (drop at xs) ≡ none ∷ []
  events-cut p h = events-short (drop at xs) (simp length-drop (omega arith)) (simp length-drop (omega arith))

  pub events-end : length xs ≤ at → events_of (drop at xs) ≡ []
  unfolding events_of
  events-end h = rw (drop_of_length-le xs h)
