-- Global numbers: the values present in their order, and the number of a text among them.
use Prim.Native.Nat.{ℕ, ◌+◌, ◌-◌, ◌≤◌, ◌<◌}
use native.Mathlib.Omega.{arith}
use mathlib.Core.Path.{◌≡◌, refl, sym, ap, ◌∙◌}
use mathlib.Core.Bool.{true}
use mathlib.Core.List.{List, ◌++◌, map}
use mathlib.Core.Option.{none, some}
use lib.ListN.{length, get_or, take, drop, length-append, length-drop, length-take, get_or-append}
use lib.Seq.{get_or-drop, get_or-take, get_or-append-add}
use lib.Dec.{ltb}
use borrow.Author.Tests.{ltb-true, ltb-false}
use Rattle.text.specs.Text.{Text}
use Rattle.mem_chain.proofs.Last.{split}
use Rattle.mem_values.proofs.Answers.{FoundAt, only}
use Rattle.mem_values.proofs.Order.{insertion-new, insertion-old}
use Rattle.spec_exi.specs.Tables.{Entry, Slot, index_of, by_number}
use Rattle.mem_entries.specs.Entries.{Entries, no_entry, entry_at, text_at, slots}
use Rattle.mem_entries.proofs.Slots.{every-slot, tally-every, index-none, index-some}
use Rattle.mem_values.specs.Window.{insertion, Ordered, Differ}

-- As many as were there.
pub number-length : {A : Type 0} (n : ℕ) (l : List A) → length (by_number n l) ≡ length l
unfolding by_number
number-length n l =
    length-append (drop (length l - n) l) (take (length l - n) l)
    ∙ (omega (arith, length-drop (length l - n) l, length-take (length l - n) l))

-- ---- the value with a global number, where n were added
module _ (es : Entries) (g new : ℕ) (have : g ≤ length es) (few : new ≤ length es - g) where
  present : Entries
  present = by_number new (drop g es)

  newer : Entries
  newer = drop (length (drop g es) - new) (drop g es)

  older : Entries
  older = take (length (drop g es) - new) (drop g es)

  sized : length (drop g es) ≡ length es - g
  sized = length-drop g es

  newer-length : length newer ≡ new
  unfolding newer
  newer-length = length-drop (length (drop g es) - new) (drop g es) ∙ (omega (arith, sized))

  older-length : length older ≡ length es - g - new
  unfolding older
  older-length = length-take (length (drop g es) - new) (drop g es) ∙ (omega (arith, sized))

  pub present-length : length (by_number new (drop g es)) ≡ length es - g
  unfolding by_number newer older
  present-length = length-append newer older ∙ (omega (arith, newer-length, older-length))

  newer-at : (i : ℕ) → i < new → entry_at newer i ≡ entry_at es (length es - new + i)
  unfolding entry_at newer
  newer-at i h =
      let z : g + (length (drop g es) - new + i) ≡ length es - new + i = omega (arith, sized) in
      get_or-drop (length (drop g es) - new) (drop g es) i no_entry
      ∙ get_or-drop g es (length (drop g es) - new + i) no_entry ∙ ap (λ k. get_or es k no_entry) z

  older-at : (i : ℕ) → i < length es - g - new → entry_at older i ≡ entry_at es (g + i)
  unfolding entry_at older
  older-at i h =
      get_or-take (length (drop g es) - new) (drop g es) i no_entry (omega (arith, sized))
      ∙ get_or-drop g es i no_entry

  pub present-at : (i : ℕ) → i < length es - g → entry_at (by_number new (drop g es)) i
      ≡ entry_at es (insertion (length es) g new i)
  unfolding entry_at by_number newer older
  present-at i h =
      split (ltb i new)
      (λ e.
      let l : i < new = ltb-true i new e in
      get_or-append newer older no_entry i (omega (arith, newer-length)) ∙ newer-at i l
      ∙ ap (λ k. get_or es k no_entry) (sym (insertion-new (length es) g new i l)))
      (λ e.
      let l : new ≤ i = ltb-false i new e in
      let z : i ≡ length newer + (i - new) = omega (arith, newer-length) in
      ap (λ k. get_or (newer ++ older) k no_entry) z ∙ get_or-append-add newer older (i - new) no_entry
      ∙ older-at (i - new) (omega arith)
      ∙ ap (λ k. get_or es k no_entry) (sym (insertion-old (length es) g new i l)))

-- ---- the number of a text

module _ (es : Entries) {g new : ℕ} {number_of : ℕ → ℕ} (o : Ordered (length es) g new number_of)
  where
    strings : List Slot
    strings = map (λ e. some e.string) (by_number new (drop g es))

    strings-are : strings ≡ slots 0 (λ k. true) (by_number new (drop g es))
    unfolding strings
    strings-are = every-slot (by_number new (drop g es))

    all-length : length (by_number new (drop g es)) ≡ length es - g
    all-length = present-length es g new o.have o.few

    entry : (i : ℕ) → i < length es - g → text_at (by_number new (drop g es)) i
        ≡ text_at es (insertion (length es) g new i)
    entry i h = ap (λ (e : Entry ℕ). e.string.text) (present-at es g new o.have o.few i h)

    pub global-entry : (v : ℕ) → g ≤ v → v < length es
        → entry_at (by_number new (drop g es)) (number_of v) ≡ entry_at es v
    global-entry v l h = present-at es g new o.have o.few (number_of v) (o.number v l h)
        ∙ ap (entry_at es) (o.back v l h)

    pub global-none : (x : Text) → ((i : ℕ) → g ≤ i → i < length es → text_at es i ≡ x → ⊥)
        → index_of (map (λ e. some e.string) (by_number new (drop g es))) x ≡ none
    unfolding strings
    global-none x ne =
        ap (λ l. index_of l x) strings-are
        ∙ index-none (λ k. true) 0 (by_number new (drop g es)) x (λ i l h t z.
        let m : i < length es - g = omega (arith, all-length) in
        ne (insertion (length es) g new i) (o.into i m) (o.below i m) (sym (entry i m) ∙ z))

    pub global-some : (x : Text) (v : ℕ) → Differ g es → FoundAt es g x v
        → index_of (map (λ e. some e.string) (by_number new (drop g es))) x ≡ some (number_of v)
    unfolding strings
    global-some x v d f =
        let n : number_of v < length es - g = o.number v f.present f.inside in
        ap (λ l. index_of l x) strings-are
        ∙ index-some (λ k. true) 0 (by_number new (drop g es)) x (number_of v) (omega arith)
        (omega (arith, all-length)) refl
        (ap (λ (e : Entry ℕ). e.string.text) (global-entry v f.present f.inside) ∙ f.text)
        (λ i l h p z.
        let m : i < length es - g = omega arith in
        let w : insertion (length es) g new i ≡ v =
        only es g x d v f (insertion (length es) g new i) (o.into i m) (o.below i m)
        (sym (entry i m) ∙ z) in
        let q : number_of v ≡ i = ap number_of (sym w) ∙ o.once i m in
        omega arith)
        ∙ ap some (tally-every (number_of v))
