-- The string of a number, as the definitions have it: what a hit that is read stands for.
use Prim.Native.Nat.{ℕ, zero, suc, ◌+◌, ◌-◌, ◌<◌}
use native.Mathlib.Omega.{arith}
use mathlib.Core.Path.{◌≡◌, refl, sym, ap, ◌∙◌}
use mathlib.Core.Bool.{Bool, true}
use mathlib.Core.List.{List, [], ◌∷◌, ◌++◌, map, map-map}
use mathlib.Core.Option
use mathlib.Core.Option.{Option, some}
use lib.ListN.{length, take, drop, get_elem?, length-map}
use lib.Dec.{eqb, ltb}
use borrow.Author.Tests.{ltb-true}
use Rattle.text.specs.Text.{Text}
use Rattle.spec_exi.specs.Event.{QName, eq_name}
use Rattle.spec_exi.specs.Tables.{Placed, Entry, Tables, replaced, global_id, gone}
use Rattle.spec_exi.specs.Tables.{present_values, values_of, by_number, all_values}
use Rattle.spec_exi.proofs.Codes.{eq_name-refl, eq_name-eq}
use Rattle.mem_chain.specs.Chain.{last_that, since}
use Rattle.mem_chain.proofs.Last.{split}
use Rattle.mem_index.specs.Index.{is_numbered}
use Rattle.mem_entries.specs.Entries.{Entries, entry_at, key_at, slots, named, Keys, Keyed}
use Rattle.mem_entries.proofs.Alike.{at_map, at_entry, key-test, named-slots, map-append}
use Rattle.mem_values.specs.Window.{insertion, Ordered, present_strings, Capacity}
use Rattle.mem_values.specs.Forms.{nth_of}
use Rattle.mem_values.proofs.Answers.{local-string, local-gone}
use Rattle.mem_values.proofs.Order.{ordered}
use Rattle.mem_values.proofs.Global.{present-length, present-at}
use Rattle.mem_values.proofs.Tables.{local-slots}

-- ---- global numbers, under any capacity
module _ {cap : Option ℕ} (es : Entries) (p : Capacity cap (length es)) where
  order : Ordered (length es) (replaced cap (length es)) (global_id cap (length es)) (global_id cap)
  order = ordered p

  pub present-slot : (i : ℕ) → i < length es - replaced cap (length es)
      → get_elem? (present_strings cap es) i
      ≡ some (some
      (entry_at es
      (insertion (length es) (replaced cap (length es)) (global_id cap (length es)) i)).string)
  unfolding present_strings
  present-slot i h =
      at_map (λ e. some e.string)
      (by_number (global_id cap (length es)) (drop (replaced cap (length es)) es)) i
      ∙ ap (Option.map (λ e. some e.string))
      (at_entry (by_number (global_id cap (length es)) (drop (replaced cap (length es)) es)) i
      (omega (
        arith,
        present-length es (replaced cap (length es)) (global_id cap (length es))
            order.have order.few,
      )))
      ∙ ap (λ (e : Entry ℕ). some (some e.string))
      (present-at es (replaced cap (length es)) (global_id cap (length es)) order.have
      order.few i h)

-- ---- the same order of any list's members

module _ {A B : Type 0} (f : A → B) where
  map-drop : (n : ℕ) (l : List A) → map f (drop n l) ≡ drop n (map f l)
  map-drop zero l = refl
  map-drop (suc n) [] = refl
  map-drop (suc n) (x ∷ l) = map-drop n l

  map-take : (n : ℕ) (l : List A) → map f (take n l) ≡ take n (map f l)
  map-take zero l = refl
  map-take (suc n) [] = refl
  map-take (suc n) (x ∷ l) = ap (λ m. f x ∷ m) (map-take n l)

  map-number : (n : ℕ) (l : List A) → map f (by_number n l) ≡ by_number n (map f l)
  unfolding by_number
  map-number n l =
      map-append f (drop (length l - n) l) (take (length l - n) l)
      ∙ ap (λ m. m ++ map f (take (length l - n) l)) (map-drop (length l - n) l)
      ∙ ap (λ m. drop (length l - n) (map f l) ++ m) (map-take (length l - n) l)
      ∙ ap (λ k. drop (k - n) (map f l) ++ take (k - n) (map f l)) (sym (length-map l f))

-- ---- the definitions' tables, where the places are the same

module _ {name : ℕ → QName Text} {is_key : ℕ → Bool} {cap : Option ℕ} (d : Keys name is_key)
    (t : Tables) (es : Entries) (bound : t.values.capacity ≡ cap)
    (same : t.values.added ≡ map (named name) es) (o : Keyed is_key es) where
  count-is : length t.values.added ≡ length es
  count-is = ap (λ vs. length vs) same ∙ length-map es (named name)

  gone-is : gone t.values ≡ replaced cap (length es)
  unfolding gone
  gone-is =
      ap (λ c. replaced c (length t.values.added)) bound ∙ ap (replaced cap) count-is

  local-values : (k : ℕ) → is_key k ≡ true
      → values_of t (name k) ≡ slots (replaced cap (length es)) (eqb k) es
  unfolding values_of
  local-values k l =
      local-slots (gone t.values) (name k) t.values.added
      ∙ ap (λ g. slots g (eq_name (name k)) t.values.added) gone-is
      ∙ ap (λ vs. slots (replaced cap (length es)) (eq_name (name k)) vs) same
      ∙ named-slots (eq_name (name k)) (eqb k)
      (λ j h. key-test eq_name eq_name-refl eq_name-eq d k j l h) (replaced cap (length es)) es o

  global-values : all_values t ≡ present_strings cap es
  unfolding all_values present_values present_strings named
  global-values =
      ap (λ c. map (λ e. some e.string) (by_number (global_id c (length t.values.added))
      (drop (gone t.values) t.values.added))) bound
      ∙ ap (λ n. map (λ e. some e.string) (by_number (global_id cap n)
      (drop (gone t.values) t.values.added))) count-is
      ∙ ap (λ g. map (λ e. some e.string) (by_number (global_id cap (length es))
      (drop g t.values.added))) gone-is
      ∙ ap (λ vs. map (λ e. some e.string) (by_number (global_id cap (length es))
      (drop (replaced cap (length es)) vs))) same
      ∙ map-number (λ e. some e.string) (global_id cap (length es))
      (drop (replaced cap (length es)) (map (named name) es))
      ∙ ap (by_number (global_id cap (length es)))
      (map-drop (λ e. some e.string) (replaced cap (length es)) (map (named name) es)
      ∙ ap (drop (replaced cap (length es)))
      (map-map (λ e. some e.string) (named name) es)
      ∙ sym (map-drop (λ e. some e.string) (replaced cap (length es)) es))
      ∙ sym (map-number (λ e. some e.string) (global_id cap (length es))
      (drop (replaced cap (length es)) es))

  global-at : Capacity cap (length es) → (i : ℕ)
      → i < length es - replaced cap (length es)
      → get_elem? (all_values t) i
      ≡ some (some
      (entry_at es
      (insertion (length es) (replaced cap (length es)) (global_id cap (length es)) i)).string)
  global-at p i l = ap (λ ss. get_elem? ss i) global-values ∙ present-slot es p i l

  -- The answer of `nth_global`.
  pub global-entry-is : Capacity cap (length es) → {newer : ℕ}
      → newer ≡ global_id cap (length es) → (i g : ℕ)
      → suc g ≡ nth_of (length es) (replaced cap (length es)) newer i
      → get_elem? (all_values t) i ≡ some (some (entry_at es g).string)
  unfolding nth_of
  global-entry-is p {newer} q i g e =
      split (ltb i (length es - replaced cap (length es)))
      (λ u.
      let z : suc g ≡ insertion (length es) (replaced cap (length es)) newer i + 1 = rw u at e in
      let y : insertion (length es) (replaced cap (length es)) newer i ≡ g = omega arith in
      global-at p i (ltb-true i (length es - replaced cap (length es)) u)
      ∙ ap (λ k. some (some (entry_at es k).string))
      (ap (λ n. insertion (length es) (replaced cap (length es)) n i) (sym q) ∙ y))
      (λ u. let z : suc g ≡ 0 = rw u at e in absurd (omega arith))

  module _ (k : ℕ) (l : is_key k ≡ true) (i : ℕ) where
    slot-entry : get_elem? (slots (replaced cap (length es)) (eqb k) es) i
        ≡ get_elem? (values_of t (name k)) i
    slot-entry = ap (λ ss. get_elem? ss i) (sym (local-values k l))

    -- The answer of `nth_local`.
    pub local-entry-is : (g : ℕ)
        → suc g
        ≡ since (replaced cap (length es)) (last_that (is_numbered (key_at es) k i) (length es))
        → get_elem? (values_of t (name k)) i ≡ some (some (entry_at es g).string)
    local-entry-is g e = sym slot-entry ∙ local-string es (replaced cap (length es)) k i g e

    pub local-entry-none :
        0 ≡ since (replaced cap (length es)) (last_that (is_numbered (key_at es) k i) (length es))
        → (x : Placed) → get_elem? (values_of t (name k)) i ≡ some (some x) → ⊥
    local-entry-none e x z = local-gone es (replaced cap (length es)) k i e x (slot-entry ∙ z)
