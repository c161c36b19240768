-- The entry with a number of its key.
use Prim.Native.Nat.{ℕ, zero, suc, ◌-◌, ◌≤◌, ◌<◌}
use native.Mathlib.Omega.{arith}
use mathlib.Core.Path.{◌≡◌, refl, sym, ap, ◌∙◌}
use mathlib.Core.Bool.{cond, true, true≢false}
use mathlib.Core.Option.{none, some}
use lib.ListN.{length, get_elem?}
use lib.Dec.{eqb, ltb}
use borrow.Author.Tests.{eqb-true, eq-eqb, ltb-true, ltb-false}
use Rattle.mem_chain.specs.Chain.{last_that}
use Rattle.mem_chain.proofs.Last.{split, last-most, last-is, last_none}
use Rattle.mem_index.specs.Index.{tally, has_key, is_numbered}
use Rattle.mem_index.proofs.Tally.{tally-exists}
use Rattle.mem_index.proofs.Codes.{numbered_is, is-numbered}
use Rattle.spec_exi.specs.Tables.{slot_after}
use Rattle.mem_entries.specs.Entries.{Entries, entry_at, key_at, slots, slot_of}
use Rattle.mem_entries.proofs.Slots.{at_none, slots-tally, slot-in, slot-out, slot_at}

module _ (es : Entries) (low k i : ℕ) where
  never : last_that (is_numbered (key_at es) k i) (length es) ≡ 0 → length (slots low (eqb k) es) ≤ i
  never e =
      split (ltb i (tally (has_key (key_at es) k) (length es)))
      (λ t.
      let (g, l, u, z) =
      tally-exists (has_key (key_at es) k) (length es) i
      (ltb-true i (tally (has_key (key_at es) k) (length es)) t) in
      absurd (true≢false (sym (is-numbered (key_at es) k i g (sym (eqb-true k (key_at es g) u)) z)
      ∙ last_none (is_numbered (key_at es) k i) (length es) g (omega arith) l)))
      (λ t. omega
      (arith, slots-tally (eqb k) low es, ltb-false i (tally (has_key (key_at es) k) (length es)) t))

  slot_is : (g : ℕ) → slot_after (low - g) (entry_at es g).string
      ≡ cond (ltb g low) none (some (entry_at es g).string)
  slot_is g =
      split (ltb g low)
      (λ t. rw t (slot-out g (entry_at es g).string low (ltb-true g low t)))
      (λ t. rw t (slot-in g (entry_at es g).string low (ltb-false g low t)))

  given-at : (g : ℕ) → g < length es → is_numbered (key_at es) k i g ≡ true
      → get_elem? (slots low (eqb k) es) i ≡ some (slot_after (low - g) (entry_at es g).string)
  given-at g l t =
      let (o, n) = numbered_is (key_at es) k i g t in
      ap (get_elem? (slots low (eqb k) es)) (sym n)
      ∙ slot_at (eqb k) low es g l (eq-eqb k (key_at es g) (sym o))

  by_last : (r : ℕ) → last_that (is_numbered (key_at es) k i) (length es) ≡ r
      → get_elem? (slots low (eqb k) es) i ≡ slot_of es low r
  unfolding slot_of
  by_last zero e = at_none (slots low (eqb k) es) i (never e)
  by_last (suc g) e =
      given-at g (omega (arith, last-most (is_numbered (key_at es) k i) (length es)))
      (last-is (is_numbered (key_at es) k i) (length es) g e) ∙ ap some (slot_is g)

  -- The i-th number of a key.
  pub nth-slot : get_elem? (slots low (eqb k) es) i
      ≡ slot_of es low (last_that (is_numbered (key_at es) k i) (length es))
  nth-slot = by_last (last_that (is_numbered (key_at es) k i) (length es)) refl
