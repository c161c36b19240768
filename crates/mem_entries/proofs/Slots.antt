-- Laws of partitions with replaced entries: how many numbers, which entry has a number, which
-- number
-- a text, which entry is the first with a text.
use Prim.Native.Nat.{ℕ, zero, suc, ◌-◌, ◌≤◌, ◌<◌}
use native.Mathlib.Omega.{arith}
use mathlib.Core.Path.{◌≡◌, refl, ap, ◌∙◌}
use mathlib.Core.Bool.{Bool, true, false}
use mathlib.Core.List.{List, [], ◌∷◌, map}
use mathlib.Core.Option
use mathlib.Core.Option.{none, some}
use lib.ListN.{length, get_elem?}
use Rattle.text.specs.Text.{Text}
use Rattle.text.proofs.Equal.{eq_text-no}
use Rattle.spec_exi.specs.Tables.{Placed, Entry, partition, Slot, slot_after, has_text, index_of}
use Rattle.mem_chain.proofs.Last.{split}
use Rattle.mem_index.specs.Index.{tally}
use Rattle.mem_index.proofs.Tally.{tally-zero, tally-head-in, tally-head-out}
use Rattle.mem_entries.specs.Entries.{Entries, entry_at, key_at, text_at, slots}
use Rattle.mem_entries.proofs.Texts.{is-text}
use Rattle.mem_entries.proofs.Entries.{part-tally}

pub at_none : {A : Type 0} (l : List A) (i : ℕ) → length l ≤ i → get_elem? l i ≡ none
at_none [] i h = refl
at_none (x ∷ l) zero h = absurd (omega arith)
at_none (x ∷ l) (suc i) h = at_none l i (omega arith)

-- ---- where none is replaced

module _ {K : Type 0} (has : K → Bool) where
  pub slots-all : (es : List (Entry K)) → slots 0 has es ≡ map some (partition has es)
  unfolding slots partition slot_after
  slots-all [] = refl
  slots-all (e ∷ es) = let r = slots-all es in
      split (has e.key) (λ t. rw (t, r)) (λ t. rw (t, r))

  pub slots_length : (g : ℕ) (es : List (Entry K))
      → length (slots g has es) ≡ length (partition has es)
  unfolding slots partition
  slots_length g [] = refl
  slots_length g (e ∷ es) =
      let r = slots_length (g - 1) es in split (has e.key) (λ t. rw (t, r)) (λ t. rw (t, r))

pub every-slot : {K : Type 0} (es : List (Entry K)) → map (λ e. some e.string) es
    ≡ slots 0 (λ k. true) es
unfolding slots slot_after
every-slot [] = refl
every-slot (e ∷ es) = ap (λ l. some e.string ∷ l) (every-slot es)

pub tally-every : (g : ℕ) → tally (λ i. true) g ≡ g
unfolding tally
tally-every zero = refl
tally-every (suc g) = ap suc (tally-every g)

-- ---- the slot of an entry

pub slot-in : (g : ℕ) (x : Placed) (low : ℕ) → low ≤ g → slot_after (low - g) x ≡ some x
unfolding slot_after
slot-in g x low h = let z : low - g ≡ 0 = omega arith in rw z

pub slot-out : (g : ℕ) (x : Placed) (low : ℕ) → g < low → slot_after (low - g) x ≡ none
unfolding slot_after
slot-out g x low h = let z : low - g ≡ suc (low - g - 1) = omega arith in rw z

module _ (has : ℕ → Bool) where
  pub slots-tally : (low : ℕ) (es : Entries)
      → length (slots low has es) ≡ tally (λ i. has (key_at es i)) (length es)
  slots-tally low es = slots_length has low es ∙ part-tally has es

  slots-here : (low : ℕ) (e : Entry ℕ) (es : Entries) → has e.key ≡ true
      → slots low has (e ∷ es) ≡ slot_after low e.string ∷ slots (low - 1) has es
  unfolding slots
  slots-here low e es t = rw t

  slots-on : (low : ℕ) (e : Entry ℕ) (es : Entries) → has e.key ≡ false
      → slots low has (e ∷ es) ≡ slots (low - 1) has es
  unfolding slots
  slots-on low e es t = rw t

  zero_is : (es : Entries) → tally (λ i. has (key_at es i)) 0 ≡ 0
  zero_is es = tally-zero (λ i. has (key_at es i))

  more-in : (e : Entry ℕ) (es : Entries) (g : ℕ) → has e.key ≡ true
      → tally (λ i. has (key_at (e ∷ es) i)) (suc g) ≡ suc (tally (λ i. has (key_at es i)) g)
  unfolding entry_at
  more-in e es g t = tally-head-in (λ i. has (key_at (e ∷ es) i)) g t

  more-out : (e : Entry ℕ) (es : Entries) (g : ℕ) → has e.key ≡ false
      → tally (λ i. has (key_at (e ∷ es) i)) (suc g) ≡ tally (λ i. has (key_at es i)) g
  unfolding entry_at
  more-out e es g t = tally-head-out (λ i. has (key_at (e ∷ es) i)) g t

  -- An entry stands at its number.
  pub slot_at : (low : ℕ) (es : Entries) (g : ℕ) → g < length es → has (key_at es g) ≡ true
      → get_elem? (slots low has es) (tally (λ i. has (key_at es i)) g)
      ≡ some (slot_after (low - g) (entry_at es g).string)
  unfolding entry_at
  slot_at low [] g h t = absurd (omega arith)
  slot_at low (e ∷ es) zero h t =
      let z : low - 0 ≡ low = omega arith in
      rw (slots-here low e es t, zero_is (e ∷ es), z)
  slot_at low (e ∷ es) (suc g) h t =
      let z : low - suc g ≡ low - 1 - g = omega arith in
      let r : get_elem? (slots (low - 1) has es) (tally (λ i. has (key_at es i)) g)
      ≡ some (slot_after (low - 1 - g) (entry_at es g).string) =
      slot_at (low - 1) es g (omega arith) t in
      split (has e.key)
      (λ u. rw (slots-here low e es u, more-in e es g u, z) r)
      (λ u. rw (slots-on low e es u, more-out e es g u, z) r)

  -- ---- the number of a text

  index-here : (s : Slot) (ss : List Slot) (x : Text) → has_text s x ≡ true
      → index_of (s ∷ ss) x ≡ some 0
  unfolding index_of
  index-here s ss x t = rw t

  index_on : (s : Slot) (ss : List Slot) (x : Text) → has_text s x ≡ false
      → index_of (s ∷ ss) x ≡ Option.map suc (index_of ss x)
  unfolding index_of
  index_on s ss x t = rw t

  has-not : (low : ℕ) (e : Placed) (x : Text) → (low ≡ 0 → e.text ≡ x → ⊥)
      → has_text (slot_after low e) x ≡ false
  unfolding has_text slot_after
  has-not zero e x ne = eq_text-no e.text x (ne refl)
  has-not (suc low) e x ne = refl

  has-it : (low : ℕ) (e : Placed) (x : Text) → low ≡ 0 → e.text ≡ x
      → has_text (slot_after low e) x ≡ true
  unfolding has_text slot_after
  has-it low e x z t = rw z (is-text e.text x t)

  -- No entry of the partition that is present has the text.
  pub index-none : (low : ℕ) (es : Entries) (x : Text)
      → ((i : ℕ) → low ≤ i → i < length es → has (key_at es i) ≡ true → text_at es i ≡ x → ⊥)
      → index_of (slots low has es) x ≡ none
  unfolding entry_at slots index_of
  index-none low [] x ne = refl
  index-none low (e ∷ es) x ne =
      let r : index_of (slots (low - 1) has es) x ≡ none =
      index-none (low - 1) es x (λ i l h t z. ne (suc i) (omega arith) (omega arith) t z) in
      split (has e.key)
      (λ t.
      let n : has_text (slot_after low e.string) x ≡ false =
      has-not low e.string x (λ z w. ne 0 (omega arith) (omega arith) t w) in
      rw (
        slots-here low e es t,
        index_on (slot_after low e.string) (slots (low - 1) has es) x n,
        r,
      ))
      (λ t. rw (slots-on low e es t, r))

  -- A present entry has the text, and no earlier one of the partition that is present.
  pub index-some : (low : ℕ) (es : Entries) (x : Text) (g : ℕ) → low ≤ g → g < length es
      → has (key_at es g) ≡ true → text_at es g ≡ x
      → ((i : ℕ) → low ≤ i → i < g → has (key_at es i) ≡ true → text_at es i ≡ x → ⊥)
      → index_of (slots low has es) x ≡ some (tally (λ i. has (key_at es i)) g)
  unfolding entry_at
  index-some low [] x g l h t z ne = absurd (omega arith)
  index-some low (e ∷ es) x zero l h t z ne =
      rw (
        slots-here low e es t,
        index-here (slot_after low e.string) (slots (low - 1) has es) x
            (has-it low e.string x (omega arith) z),
        zero_is (e ∷ es),
      )
  index-some low (e ∷ es) x (suc g) l h t z ne =
      let r : index_of (slots (low - 1) has es) x ≡ some (tally (λ i. has (key_at es i)) g) =
      index-some (low - 1) es x g (omega arith) (omega arith) t z
      (λ i m k p w. ne (suc i) (omega arith) (omega arith) p w) in
      split (has e.key)
      (λ u.
      let n : has_text (slot_after low e.string) x ≡ false =
      has-not low e.string x (λ q w. ne 0 (omega arith) (omega arith) u w) in
      rw (
        slots-here low e es u,
        index_on (slot_after low e.string) (slots (low - 1) has es) x n,
        r,
        more-in e es g u,
      ))
      (λ u. rw (slots-on low e es u, r, more-out e es g u))
