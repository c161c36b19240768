-- Entries that join one after the other: memory holds them, and they stay valid.
use Prim.Native.Nat.{ℕ, suc, ◌+◌, ◌<◌}
use native.Mathlib.Omega.{arith}
use mathlib.Core.Path.{◌≡◌, refl, sym, subst, ◌∙◌}
use mathlib.Core.Bool.{Bool, true, false, ◌&&◌, true≢false}
use mathlib.Core.List.{List, [], ◌∷◌, map}
use lib.ListN.{length, length-append}
use lib.Dec.{T, eqb, ltb, ltb→lt, eqb→eq}
use Rattle.spec_fields.proofs.Tests.{left, right}
use Rattle.text.specs.Text.{Text}
use Rattle.spec_exi.specs.Event.{QName, eq_name}
use Rattle.spec_exi.specs.Tables.{Placed, local, name_allowed}
use Rattle.spec_exi.proofs.Codes.{eq_name-refl}
use Rattle.mem_layout.specs.Layout.{uri_rows, name_rows}
use Rattle.mem_chain.specs.Chain.{first_that}
use Rattle.mem_chain.proofs.First.{first-none}
use Rattle.mem_entries.proofs.Texts.{is-text}
use Rattle.mem_entries.specs.Texts.{Source, up_to, hash_of, Lies}
use Rattle.mem_names.specs.Uris.{uri_text, has_uri}
use Rattle.mem_names.specs.Uris as cells
use Rattle.mem_names.specs.Names as names
use Rattle.mem_marks.specs.Marks.{MarksHold}
use Rattle.mem_marks.proofs.Marks.{marks-kept}
use Rattle.mem_rows.specs.Rows.{Rows, name_at, with_uri, with_name}
use Rattle.mem_rows.specs.Valid.{Valid}
use Rattle.mem_rows.proofs.Grown.{uri-grows, name-grows}
use Rattle.mem_state.specs.Holds.{Stores, Holds}
use Rattle.mem_state.proofs.Frames.{uri-marks, name-marks}
use Rattle.mem_state.proofs.Joins.{holds-uri, holds-name}
use Rattle.mem_initial.specs.Initial.{Local, together, with_uris, with_names, plus_uris}
use Rattle.mem_initial.specs.Initial.{plus_names}
use Rattle.mem_initial.proofs.Texts.{Has, first-lies, rest_has}

pub record Stands (work : List ℕ) (from : Stores) (w : Rows) : Type 0 where
  pub valid : Valid w
  pub holds : Holds work from w
  -- no name has the first mark
  pub marks : MarksHold work 1 (λ _. false)

-- ---- tests of what joins: there is room, and it is not there yet

abbrev placed : ℕ → ℕ → Text → Placed
placed origin k x = record { place = origin + k; text = x }

abbrev uri_room : Rows → Bool
uri_room w = ltb (length w.uris) uri_rows

abbrev uri_new : Rows → Text → Bool
uri_new w x = eqb (first_that (has_uri w.uris x) (length w.uris)) 0

unfoldable pub fresh_uri : Rows → Text → Bool
fresh_uri w x = uri_room w && uri_new w x

unfoldable pub fresh_uris : Rows → ℕ → ℕ → List Text → Bool
fresh_uris w origin k [] = true
fresh_uris w origin k (x ∷ xs) =
    fresh_uri w x && fresh_uris (with_uri w (placed origin k x)) origin (k + length x) xs

abbrev name_room : Rows → Bool
name_room w = ltb (length w.names) name_rows

abbrev uri_there : Rows → ℕ → Bool
uri_there w u = ltb u (length w.uris)

abbrev name_of : Rows → ℕ → Text → QName Text
name_of w u x = record { uri = uri_text w.uris u; local = x }

abbrev name_new : Rows → ℕ → Text → Bool
name_new w u x = eqb (first_that (λ n. eq_name (name_at w n) (name_of w u x)) (length w.names)) 0

-- It may be an element's name.
abbrev allowed : Rows → ℕ → Text → Bool
allowed w u x = name_allowed (local false (uri_text w.uris u)) x

unfoldable pub fresh_name : Rows → ℕ → Text → Bool
fresh_name w u x = (name_room w && uri_there w u) && (name_new w u x && allowed w u x)

unfoldable pub fresh_names : Rows → ℕ → ℕ → List Local → Bool
fresh_names w origin k [] = true
fresh_names w origin k (l ∷ ls) =
    fresh_name w l.uri l.name
    && fresh_names (with_name w l.uri (placed origin k l.name)) origin (k + length l.name) ls

is_true : (b : Bool) → T b → b ≡ true
is_true true t = refl
is_true false t = absurd t

-- ---- one entry

-- The string of a row that lies in this store.
abbrev LiesIn : Source → Placed → Type 0
LiesIn s x = Lies s.store s.stored x.place (length x.text) x.text

module _ {work : List ℕ} {from : Stores} {w : Rows} (h : Stands work from w) where
  module _ (x : Placed) (t : T (fresh_uri w x.text)) where
    uri-new : (u : ℕ) → u < length w.uris → uri_text w.uris u ≡ x.text → ⊥
    unfolding fresh_uri
    uri-new u l e =
        true≢false (sym (is-text (uri_text w.uris u) x.text e)
        ∙ first-none (has_uri w.uris x.text) (length w.uris) u
        (eqb→eq _ _ (right (uri_room w) (uri_new w x.text) t)) l)

    uri-stands : (n : ℕ) → n ≡ length w.uris → LiesIn (from.uris n) x
        → Stands (cells.with_uri work n x.place (length x.text) n) from (with_uri w x)
    unfolding fresh_uri
    uri-stands n e lies =
        let v : Valid (with_uri w x) = uri-grows h.valid x uri-new in
        let room : length w.uris < uri_rows =
        ltb→lt _ _ (left (uri_room w) (uri_new w x.text) t) in
        record {
          valid = v;
          holds = rw e (holds-uri w x v h.holds
              room (subst (λ m. LiesIn (from.uris m) x) e lies));
          marks = marks-kept
              (uri-marks work n x.place (length x.text) n h.marks.room
              (omega (arith, room, e))) h.marks;
        }

  module _ (u : ℕ) (x : Placed) (t : T (fresh_name w u x.text)) where
    named : T ((name_room w && uri_there w u) && (name_new w u x.text && allowed w u x.text))
    unfolding fresh_name
    named = t

    fits : T (name_room w && uri_there w u)
    fits = left (name_room w && uri_there w u) (name_new w u x.text && allowed w u x.text) named

    good : T (name_new w u x.text && allowed w u x.text)
    good = right (name_room w && uri_there w u) (name_new w u x.text && allowed w u x.text) named

    name_new_lem : (n : ℕ) → n < length w.names → name_at w n ≡ name_of w u x.text → ⊥
    name_new_lem n l e =
        let q : QName Text = name_of w u x.text in
        subst T (first-none (λ i. eq_name (name_at w i) q) (length w.names) n
        (eqb→eq _ _ (left (name_new w u x.text) (allowed w u x.text) good)) l)
        (subst (λ p. T (eq_name (name_at w n) p)) e (eq_name-refl (name_at w n)))

    name-stands : (n : ℕ) → n ≡ length w.names → LiesIn (from.names n) x
        → Stands (names.with_name work n u x.place (length x.text) (hash_of x.text)) from
        (with_name w u x)
    name-stands n e lies =
        let room : length w.names < name_rows =
        ltb→lt _ _ (left (name_room w) (uri_there w u) fits) in
        let below : u < length w.uris =
        ltb→lt _ _ (right (name_room w) (uri_there w u) fits) in
        let low : u < uri_rows = omega (arith, below, h.holds.uris.few) in
        let v : Valid (with_name w u x) =
        name-grows h.valid u x below name_new_lem
        (is_true (allowed w u x.text)
        (right (name_new w u x.text) (allowed w u x.text) good)) in
        record {
          valid = v;
          holds = rw e (holds-name w h.valid.refers u x v h.holds room low
              (subst (λ m. LiesIn (from.names m) x) e lies));
          marks = marks-kept
              (name-marks work n u x.place (length x.text) (hash_of x.text)
              h.marks.room (omega (arith, room, e)) low) h.marks;
        }

-- ---- lists of them, whose rows lie in one store

module _ (from : Stores) (store : List ℕ) (stored origin : ℕ) where
  abbrev here : Source
  here = up_to store stored

  pub uris-stand : (xs : List Text) (k n : ℕ) {work : List ℕ} {w : Rows}
      → Stands work from w → n ≡ length w.uris
      → ((i : ℕ) → i < n + length xs → from.uris i ≡ here)
      → Has store stored (origin + k) (together xs) → T (fresh_uris w origin k xs)
      → Stands (with_uris work origin n k xs) from (plus_uris w origin k xs)
  unfolding with_uris plus_uris together fresh_uris with_uri
  uris-stand [] k n h e same has t = h
  uris-stand (x ∷ xs) k n {w = w} h e same has t =
      let p : Placed = placed origin k x in
      let later : Bool = fresh_uris (with_uri w p) origin (k + length x) xs in
      uris-stand xs (k + length x) (suc n)
      (uri-stands h p (left (fresh_uri w x) later t) n e
      (subst (λ s. LiesIn s p) (sym (same n (omega arith))) (first-lies x (together xs) has)))
      (omega (arith, length-append w.uris (p ∷ []))) (λ i l. same i (omega arith))
      (rest_has x (together xs) has (origin + (k + length x)) (omega arith))
      (right (fresh_uri w x) later t)

  pub names_stand : (ls : List Local) (k n : ℕ) {work : List ℕ} {w : Rows}
      → Stands work from w → n ≡ length w.names
      → ((i : ℕ) → i < n + length ls → from.names i ≡ here)
      → Has store stored (origin + k) (together (map (λ l. l.name) ls))
      → T (fresh_names w origin k ls)
      → Stands (with_names work origin n k ls) from (plus_names w origin k ls)
  unfolding with_names plus_names together fresh_names with_name
  names_stand [] k n h e same has t = h
  names_stand (l ∷ ls) k n {w = w} h e same has t =
      let x : Text = l.name in
      let p : Placed = placed origin k x in
      let others : Text = together (map (λ m. m.name) ls) in
      let now : Bool = fresh_name w l.uri x in
      let later : Bool = fresh_names (with_name w l.uri p) origin (k + length x) ls in
      names_stand ls (k + length x) (suc n)
      (name-stands h l.uri p (left now later t) n e
      (subst (λ s. LiesIn s p) (sym (same n (omega arith))) (first-lies x others has)))
      (omega (arith, length-append w.names (record { key = l.uri; string = p } ∷ [])))
      (λ i l. same i (omega arith))
      (rest_has x others has (origin + (k + length x)) (omega arith)) (right now later t)
