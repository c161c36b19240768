-- The list of values as the definitions' tables: partitions, numbers and forms.
use Prim.Native.Nat.{ℕ, ◌-◌}
use native.Mathlib.Omega.{arith}
use mathlib.Core.Path.{◌≡◌, refl, sym, ap, subst, ◌∙◌}
use mathlib.Core.Bool.{Bool, true}
use mathlib.Core.List.{List, [], ◌∷◌, ◌++◌, map}
use mathlib.Core.Option.{Option, some}
use lib.ListN.{length, take, drop, length-map, length-drop}
use lib.Dec.{eqb}
use Rattle.text.specs.Text.{Text}
use Rattle.spec_exi.specs.Event.{QName, eq_name}
use Rattle.spec_exi.specs.Tables.{Entry, Tables, values_of, all_values, index_of, value}
use Rattle.spec_exi.specs.Tables.{partitions_of, literal, hit_or, first_hit, form_of}
use Rattle.spec_exi.specs.Tables.{replaced, global_id, gone, present_values, local_slots}
use Rattle.spec_exi.specs.Tables.{by_number}
use Rattle.spec_exi.proofs.Codes.{eq_name-refl, eq_name-eq}
use Rattle.mem_chain.specs.Chain.{last_that, since}
use Rattle.mem_entries.specs.Entries.{Entries, has_text_at, given, slots, Alike}
use Rattle.mem_entries.proofs.Slots.{slots_length}
use Rattle.mem_entries.proofs.Alike.{key-test, alike-index, alike-count, alike-length}
use Rattle.mem_entries.proofs.Alike.{alike-take, alike-drop, alike_both, alike-texts}
use Rattle.mem_values.specs.Window.{Capacity, present_strings, Differ, value_form, Tabled}
use Rattle.mem_values.proofs.Global.{number-length}
use Rattle.mem_values.proofs.Forms.{value-form}

-- The definitions' local numbers.
pub local-slots : (g : ℕ) (q : QName Text) (es : List (Entry (QName Text)))
    → local_slots g q es ≡ slots g (eq_name q) es
unfolding local_slots slots
local-slots g q [] = refl
local-slots g q (e ∷ es) = rw (local-slots (g - 1) q es)

alike-number : {K : Type 0} {name : ℕ → K} {ts : List (Entry K)} {es : Entries} (n : ℕ)
    → Alike name ts es → Alike name (by_number n ts) (by_number n es)
unfolding by_number
alike-number {name = name} {ts} {es} n a =
    subst
    (λ m. Alike name (drop (m - n) ts ++ take (m - n) ts)
    (drop (length es - n) es ++ take (length es - n) es))
    (sym (alike-length a))
    (alike_both (alike-drop (length es - n) a) (alike-take (length es - n) a))

-- ---- the tables
module _ {name : ℕ → QName Text} {is_key : ℕ → Bool} {t : Tables} {es : Entries} {cap : Option ℕ}
    (w : Tabled name is_key t es cap) where
  name-test : (k : ℕ) → is_key k ≡ true → (j : ℕ) → is_key j ≡ true
      → eq_name (name k) (name j) ≡ eqb k j
  name-test k l j h = key-test eq_name eq_name-refl eq_name-eq w.keys k j l h

  count-is : length t.values.added ≡ length es
  count-is = alike-length w.alike

  gone-is : gone t.values ≡ replaced cap (length es)
  unfolding gone
  gone-is =
      ap (λ c. replaced c (length t.values.added)) w.capacity ∙ ap (replaced cap) count-is

  local-are : (q : QName Text)
      → values_of t q ≡ slots (replaced cap (length es)) (eq_name q) t.values.added
  unfolding values_of
  local-are q =
      local-slots (gone t.values) q t.values.added
      ∙ ap (λ g. slots g (eq_name q) t.values.added) gone-is

  pub local-count : (k : ℕ) → is_key k ≡ true → length (values_of t (name k)) ≡ length (given es k)
  unfolding given
  local-count k l =
      ap (λ ss. length ss) (local-are (name k))
      ∙ slots_length (eq_name (name k)) (replaced cap (length es)) t.values.added
      ∙ alike-count (eq_name (name k)) (eqb k) (name-test k l) w.alike w.keyed

  pub global-count : length (all_values t) ≡ length es - replaced cap (length es)
  unfolding all_values present_values
  global-count =
      let new : ℕ = global_id t.values.capacity (length t.values.added) in
      let vs : List (Entry (QName Text)) = drop (gone t.values) t.values.added in
      length-map (by_number new vs) (λ e. some e.string) ∙ number-length new vs
      ∙ length-drop (gone t.values) t.values.added ∙ (omega (arith, gone-is, count-is))

  local_same : (k : ℕ) → is_key k ≡ true → (x : Text)
      → index_of (values_of t (name k)) x
      ≡ index_of (slots (replaced cap (length es)) (eqb k) es) x
  local_same k l x =
      ap (λ ss. index_of ss x) (local-are (name k))
      ∙ alike-index (eq_name (name k)) (eqb k) (name-test k l) w.alike w.keyed x
      (replaced cap (length es))

  global-same : (x : Text) → index_of (all_values t) x ≡ index_of (present_strings cap es) x
  unfolding all_values present_values gone present_strings
  global-same x =
      ap (λ c. index_of (map (λ e. some e.string) (by_number (global_id c (length t.values.added))
      (drop (replaced c (length t.values.added)) t.values.added))) x) w.capacity
      ∙ alike-texts x
      (alike-number (global_id cap (length t.values.added))
      (alike-drop (replaced cap (length t.values.added)) w.alike))
      ∙ ap (λ n. index_of (map (λ e. some e.string) (by_number (global_id cap n)
      (drop (replaced cap n) es))) x) count-is

  -- The strict form of a value, by the answer of `find`.
  pub form-is : Capacity cap (length es) → (k : ℕ) → is_key k ≡ true → (x : Text)
      → Differ (replaced cap (length es)) es → (r : ℕ)
      → r ≡ since (replaced cap (length es)) (last_that (has_text_at es x) (length es))
      → form_of (partitions_of t (value (name k))) x ≡ value_form cap es k r
  unfolding form_of partitions_of first_hit
  form-is p k l x n r e =
      ap (λ i. hit_or 0 i (hit_or 1 (index_of (all_values t) x) literal)) (local_same k l x)
      ∙ ap (λ i. hit_or 0 (index_of (slots (replaced cap (length es)) (eqb k) es) x)
      (hit_or 1 i literal)) (global-same x)
      ∙ value-form es p k x n r e
