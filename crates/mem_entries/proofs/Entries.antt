-- Laws of a list of entries: one more at its end, and the count of a key.
use Prim.Native.Nat.{ℕ, suc, ◌<◌}
use mathlib.Core.Path.{◌≡◌, refl, sym, ap, ◌∙◌}
use mathlib.Core.Bool.{Bool, true, false}
use mathlib.Core.List.{List, [], ◌∷◌, ◌++◌}
use lib.ListN.{length, get_or-append}
use lib.Seq.{get_or-append_seam}
use lib.Dec.{eqb}
use Rattle.spec_exi.specs.Tables.{Entry, partition}
use Rattle.mem_chain.proofs.Last.{split}
use Rattle.mem_index.specs.Index.{tally, has_key}
use Rattle.mem_index.proofs.Tally.{tally-zero, tally-head-in, tally-head-out}
use Rattle.mem_entries.specs.Entries.{Entries, no_entry, entry_at, key_at, given}

module _ (es : Entries) (e : Entry ℕ) where
  pub entry_old : (i : ℕ) → i < length es → entry_at (es ++ (e ∷ [])) i ≡ entry_at es i
  unfolding entry_at
  entry_old i h = get_or-append es (e ∷ []) no_entry i h

  pub entry_new : entry_at (es ++ (e ∷ [])) (length es) ≡ e
  unfolding entry_at
  entry_new = get_or-append_seam es e [] no_entry

-- ---- how many of a partition

module _ {K : Type 0} (has : K → Bool) where
  pub part-nil : length (partition has []) ≡ 0
  unfolding partition
  part-nil = refl

  pub part_in : (e : Entry K) (es : List (Entry K)) → has e.key ≡ true
      → length (partition has (e ∷ es)) ≡ suc (length (partition has es))
  unfolding partition
  part_in e es t = rw t

  pub part_out : (e : Entry K) (es : List (Entry K)) → has e.key ≡ false
      → length (partition has (e ∷ es)) ≡ length (partition has es)
  unfolding partition
  part_out e es t = rw t

pub part-tally : (has : ℕ → Bool) (es : Entries)
    → length (partition has es) ≡ tally (λ i. has (key_at es i)) (length es)
unfolding entry_at
part-tally has [] = part-nil has ∙ sym (tally-zero (λ i. has (key_at [] i)))
part-tally has (e ∷ es) =
    let r : length (partition has es) ≡ tally (λ i. has (key_at es i)) (length es) =
    part-tally has es in
    split (has e.key)
    (λ t. part_in has e es t ∙ ap suc r
    ∙ sym (tally-head-in (λ i. has (key_at (e ∷ es) i)) (length es) t))
    (λ t. part_out has e es t ∙ r
    ∙ sym (tally-head-out (λ i. has (key_at (e ∷ es) i)) (length es) t))

-- The count of a key's entries.
pub given-tally : (es : Entries) (k : ℕ)
    → length (given es k) ≡ tally (has_key (key_at es) k) (length es)
unfolding given
given-tally es k = part-tally (eqb k) es
