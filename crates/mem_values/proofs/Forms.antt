-- The form of a value by what a search answers.
use Prim.Native.Nat.{ℕ, zero, suc}
use mathlib.Core.Path.{◌≡◌}
use mathlib.Core.Option.{Option, none, some}
use lib.ListN.{length}
use lib.Dec.{eqb}
use Rattle.text.specs.Text.{Text}
use Rattle.mem_chain.specs.Chain.{last_that, since}
use Rattle.mem_chain.proofs.Last.{split}
use Rattle.mem_values.proofs.Answers.{FoundAt, found_at, found_none, absent-index}
use Rattle.mem_values.proofs.Answers.{mine-index, other-index}
use Rattle.mem_values.proofs.Order.{ordered}
use Rattle.mem_values.proofs.Global.{global-none, global-some}
use Rattle.spec_exi.specs.Tables.{index_of, hit_or, literal, replaced, global_id}
use Rattle.mem_entries.specs.Entries.{Entries, key_at, has_text_at, slots}
use Rattle.mem_values.specs.Window.{Capacity, present_strings, earlier}
use Rattle.mem_values.specs.Window.{Differ, value_form}

module _ {cap : Option ℕ} (es : Entries) (p : Capacity cap (length es)) (k : ℕ) (x : Text) where
  local-index : Option ℕ
  local-index = index_of (slots (replaced cap (length es)) (eqb k) es) x

  global-index : Option ℕ
  global-index = index_of (present_strings cap es) x

  by-indices : (a b : Option ℕ) → local-index ≡ a → global-index ≡ b
      → hit_or 0 local-index (hit_or 1 global-index literal) ≡ hit_or 0 a (hit_or 1 b literal)
  by-indices a b e f = cc

  by_answer : Differ (replaced cap (length es)) es → (r : ℕ)
      → r ≡ since (replaced cap (length es)) (last_that (has_text_at es x) (length es))
      → hit_or 0 local-index (hit_or 1 global-index literal) ≡ value_form cap es k r
  unfolding local-index global-index present_strings value_form hit_or
  by_answer d zero e =
      by-indices none none (absent-index es (replaced cap (length es)) x (eqb k) e)
      (global-none es (ordered p) x
      (λ i l h z. found_none es (replaced cap (length es)) x e i l h z))
  by_answer d (suc g) e =
      let f : FoundAt es (replaced cap (length es)) x g =
      found_at es (replaced cap (length es)) x g e in
      let o = global-some es (ordered p) x g d f in
      split (eqb k (key_at es g))
      (λ t. rw t
      (by-indices (some (earlier es k g)) (some (global_id cap g))
      (mine-index es (replaced cap (length es)) x d g f (eqb k) t) o))
      (λ t. rw t
      (by-indices none (some (global_id cap g))
      (other-index es (replaced cap (length es)) x d g f (eqb k) t) o))

  -- Local before global, or the literal.
  pub value-form : Differ (replaced cap (length es)) es → (r : ℕ)
      → r ≡ since (replaced cap (length es)) (last_that (has_text_at es x) (length es))
      → hit_or 0 (index_of (slots (replaced cap (length es)) (eqb k) es) x)
      (hit_or 1 (index_of (present_strings cap es) x) literal) ≡ value_form cap es k r
  unfolding local-index global-index
  value-form d r e = by_answer d r e
