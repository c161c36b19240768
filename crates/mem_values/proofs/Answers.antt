-- What the answers of `find` and `nth_local` say of the partitions.
use Prim.Native.Nat.{ℕ, zero, suc, ◌≤◌, ◌<◌}
use native.Mathlib.Omega.{arith}
use mathlib.Core.Path.{◌≡◌, sym, ap, ◌∙◌}
use mathlib.Core.Bool.{Bool, true, false, true≢false}
use mathlib.Core.Option.{none, some}
use lib.ListN.{length, get_elem?}
use lib.Dec.{eqb, ltb}
use borrow.Author.Tests.{ltb-true, ltb-false, lt-ltb, le-ltb}
use Rattle.text.specs.Text.{Text}
use Rattle.mem_chain.specs.Chain.{last_that, since}
use Rattle.mem_chain.proofs.Last.{split, last-most, last-is, last_none, since-in, since-out}
use Rattle.spec_exi.specs.Tables.{Placed, index_of}
use Rattle.mem_index.specs.Index.{tally, is_numbered}
use Rattle.mem_entries.specs.Entries.{Entries, entry_at, key_at, text_at, has_text_at, slots, slot_of}
use Rattle.mem_entries.proofs.Texts.{text-is, is-text}
use Rattle.mem_entries.proofs.Slots.{index-none, index-some}
use Rattle.mem_entries.proofs.Nth.{nth-slot}
use Rattle.mem_values.specs.Window.{Differ}

-- ---- a search by text

-- A value from low on has the text.
pub record FoundAt (es : Entries) (low : ℕ) (x : Text) (g : ℕ) : Type 0 where
  pub present : low ≤ g
  pub inside : g < length es
  pub text : text_at es g ≡ x

module _ (es : Entries) (low : ℕ) (x : Text) where
  pub found_at : (g : ℕ) → suc g ≡ since low (last_that (has_text_at es x) (length es))
      → FoundAt es low x g
  found_at g e =
      split (ltb low (last_that (has_text_at es x) (length es)))
      (λ t.
      let l : low < last_that (has_text_at es x) (length es) = ltb-true _ _ t in
      let z : last_that (has_text_at es x) (length es) ≡ suc g = sym (e ∙ since-in low _ l) in
      record {
        present = omega arith;
        inside = omega (arith, last-most (has_text_at es x) (length es));
        text = text-is (text_at es g) x (last-is (has_text_at es x) (length es) g z);
      })
      (λ t. absurd
      (omega (arith, since-out low (last_that (has_text_at es x) (length es)) (ltb-false _ _ t))))

  pub found_none : 0 ≡ since low (last_that (has_text_at es x) (length es)) → (i : ℕ) → low ≤ i
      → i < length es → text_at es i ≡ x → ⊥
  found_none e i l h t =
      split (ltb low (last_that (has_text_at es x) (length es)))
      (λ u.
      let k : low < last_that (has_text_at es x) (length es) = ltb-true _ _ u in
      omega (arith, since-in low _ k))
      (λ u.
      let k : last_that (has_text_at es x) (length es) ≤ low = ltb-false _ _ u in
      true≢false
      (sym (is-text (text_at es i) x t) ∙ last_none (has_text_at es x) (length es) i (omega arith) h))

  -- ---- and the number of the text in a partition

  pub absent-index : (has : ℕ → Bool) → 0 ≡ since low (last_that (has_text_at es x) (length es))
      → index_of (slots low has es) x ≡ none
  absent-index has e = index-none has low es x (λ i l h t z. found_none e i l h z)

  module _ (d : Differ low es) (g : ℕ) (f : FoundAt es low x g) where
    pub only : (i : ℕ) → low ≤ i → i < length es → text_at es i ≡ x → i ≡ g
    only i l h t =
        split (ltb i g)
        (λ u. absurd (d.texts i g l (ltb-true i g u) f.inside (t ∙ sym f.text)))
        (λ u.
        split (ltb g i)
        (λ v. absurd (d.texts g i f.present (ltb-true g i v) h (f.text ∙ sym t)))
        (λ v. omega (arith, ltb-false i g u, ltb-false g i v)))

    pub mine-index : (has : ℕ → Bool) → has (key_at es g) ≡ true → index_of (slots low has es) x
        ≡ some (tally (λ i. has (key_at es i)) g)
    mine-index has t =
        index-some has low es x g f.present f.inside t f.text
        (λ i l h p w. d.texts i g l h f.inside (w ∙ sym f.text))

    pub other-index : (has : ℕ → Bool) → has (key_at es g) ≡ false → index_of (slots low has es) x
        ≡ none
    other-index has u =
        index-none has low es x (λ i l h t z.
        let e : i ≡ g = only i l h z in
        true≢false (sym t ∙ rw e u))

-- ---- a value by its owner and number

module _ (es : Entries) (low k i : ℕ) where
  -- What the answer of `nth_local` says of it: a string, or a number that was never given or whose
  -- value is replaced.
  pub local-string : (g : ℕ) → suc g ≡ since low (last_that (is_numbered (key_at es) k i) (length es))
      → get_elem? (slots low (eqb k) es) i ≡ some (some (entry_at es g).string)
  unfolding slot_of
  local-string g e =
      split (ltb low (last_that (is_numbered (key_at es) k i) (length es)))
      (λ t.
      let l : low < last_that (is_numbered (key_at es) k i) (length es) = ltb-true _ _ t in
      let z : last_that (is_numbered (key_at es) k i) (length es) ≡ suc g =
      sym (e ∙ since-in low _ l) in
      nth-slot es low k i ∙ ap (slot_of es low) z ∙ rw (le-ltb g low (omega arith)))
      (λ t. absurd
      (omega (
        arith,
        since-out low (last_that (is_numbered (key_at es) k i) (length es))
            (ltb-false _ _ t),
      )))

  pub local-gone : 0 ≡ since low (last_that (is_numbered (key_at es) k i) (length es)) → (x : Placed)
      → get_elem? (slots low (eqb k) es) i ≡ some (some x) → ⊥
  unfolding slot_of
  local-gone e x h =
      split (ltb low (last_that (is_numbered (key_at es) k i) (length es)))
      (λ t. omega (
        arith,
        since-in low (last_that (is_numbered (key_at es) k i) (length es)) (ltb-true _ _ t),
        ltb-true low (last_that (is_numbered (key_at es) k i) (length es)) t,
      ))
      (λ t. off (last_that (is_numbered (key_at es) k i) (length es)) (ltb-false _ _ t)
      (sym (nth-slot es low k i) ∙ h))
    where
      off : (r : ℕ) → r ≤ low → slot_of es low r ≡ some (some x) → ⊥
      off zero l q = let z : ◌≡◌ {A = ℕ} 0 1 = cc in omega arith
      off (suc g) l q = let p = rw (lt-ltb g low (omega arith)) at q in let z : ◌≡◌ {A = ℕ} 0 1 =
          cc in omega arith
