-- The definitions' partitions (EXI 7.3), by the rows: the entries with the number of a key are those with
-- the key that it means.
use Prim.Native.Nat.{ℕ, zero, suc, ◌≤◌, ◌<◌}
use native.Mathlib.Omega.{arith}
use mathlib.Core.Path.{◌≡◌, refl, sym, ap, ◌∙◌}
use mathlib.Core.Bool.{Bool, true, false, true≢false}
use mathlib.Core.List.{List, [], ◌∷◌, map}
use lib.ListN.{length, get_or}
use lib.Dec.{T, eqb}
use borrow.Author.Tests.{eqb-true, eqb-false, eq-eqb, ne_eqb}
use Rattle.spec_fields.proofs.Tests.{split, T-is, is_t}
use Rattle.text.specs.Text.{Text, eq_text}
use Rattle.text.proofs.Equal.{eq_text-refl, eq_text-eq}
use Rattle.spec_exi.specs.Tables.{Placed, Entry, Tables, partition, names_of}
use Rattle.mem_entries.specs.Entries.{entry_at, given, named}
use Rattle.mem_names.specs.Uris.{uri_text}
use Rattle.mem_rows.specs.Rows.{Rows, tables_of}
use Rattle.mem_rows.specs.Valid.{KeysBelow, Refers, Distinct, Valid}
use Rattle.mem_rows.proofs.Entries.{keys-head, keys-tail}

module _ {K : Type 0} (same : K → K → Bool) (same_refl : (a : K) → T (same a a))
    (same-eq : (a b : K) → T (same a b) → a ≡ b) (f : ℕ → K) (most : ℕ)
    (own : (i j : ℕ) → i < most → j < most → f i ≡ f j → i ≡ j) where
  -- Numbers that mean different keys are compared as the keys are.
  pub key-test : (k j : ℕ) → k < most → j < most → same (f k) (f j) ≡ eqb k j
  key-test k j h l =
      split (same (f k) (f j))
      (λ t. rw (t, eq-eqb k j (own k j h l (same-eq (f k) (f j) (is_t (same (f k) (f j)) t)))))
      (λ t. rw (t, ne_eqb k j (λ e. true≢false (sym (T-is (same (f k) (f k)) (same_refl (f k))) ∙ rw (sym e) at t))))

  pub keyed-part : (k : ℕ) → k < most → (es : List (Entry ℕ)) → KeysBelow most es
      → partition (same (f k)) (map (named f) es) ≡ given es k
  unfolding partition named given
  keyed-part k h [] b = refl
  keyed-part k h (e ∷ es) b =
      let t : same (f k) (f e.key) ≡ eqb k e.key = key-test k e.key h (keys-head b) in
      split (eqb k e.key)
      (λ u. rw (t, u) (ap (λ l. e.string ∷ l) (keyed-part k h es (keys-tail b))))
      (λ u. rw (t, u) (keyed-part k h es (keys-tail b)))

module _ {w : Rows} (v : Valid w) (store : Text) where
  pub names-part : (u : ℕ) → u < length w.uris
      → names_of (tables_of w store) (uri_text w.uris u) ≡ given w.names u
  unfolding names_of tables_of
  names-part u h =
      keyed-part eq_text eq_text-refl eq_text-eq (uri_text w.uris) (length w.uris) v.distinct.uris u h
      w.names v.refers.names
