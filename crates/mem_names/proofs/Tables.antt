-- The numbers of URIs and names as the definitions' tables have them.
use Prim.Native.Nat.{ℕ, zero, suc, ◌<◌}
use native.Mathlib.Omega.{arith}
use mathlib.Core.Path.{◌≡◌, refl, sym, ◌∙◌}
use mathlib.Core.Bool.{true, true≢false}
use mathlib.Core.List.{List, [], ◌∷◌, map}
use mathlib.Core.Option.{Option, none, some}
use lib.ListN.{length, get_elem?}
use lib.Dec.{eqb}
use borrow.Author.Tests.{eq-eqb, eqb-true}
use Rattle.text.specs.Text.{Text}
use Rattle.text.proofs.Equal.{eq_text-eq, eq_text-no}
use Rattle.spec_exi.specs.Tables.{Placed, has_text, index_of}
use Rattle.mem_chain.specs.Chain.{first_that}
use Rattle.mem_chain.proofs.First.{first-most, first-is, first-none, first-before}
use Rattle.mem_index.specs.Index.{tally, has_key}
use Rattle.mem_entries.specs.Entries.{Entries, key_at, text_at, slots}
use Rattle.mem_entries.proofs.Texts.{is-text}
use Rattle.mem_entries.proofs.Slots.{index-none, index-some}
use Rattle.mem_names.specs.Uris.{uri_at, uri_text, has_uri, row_of}
use Rattle.mem_names.specs.Names.{is_entry}
use Rattle.mem_names.proofs.Names.{entry-is, is-entry}

-- ---- URIs

index-none-uri : (us : List Placed) (x : Text) → ((i : ℕ) → i < length us → uri_text us i ≡ x → ⊥)
    → index_of (map some us) x ≡ none
unfolding uri_at index_of has_text
index-none-uri [] x ne = refl
index-none-uri (u ∷ us) x ne =
    rw (
      eq_text-no u.text x (ne 0 (omega arith)),
      index-none-uri us x (λ i h e. ne (suc i) (omega arith) e),
    )

index-some-uri : (us : List Placed) (x : Text) (g : ℕ) → g < length us → uri_text us g ≡ x
    → ((i : ℕ) → i < g → uri_text us i ≡ x → ⊥) → index_of (map some us) x ≡ some g
unfolding uri_at index_of has_text
index-some-uri [] x g h e ne = absurd (omega arith)
index-some-uri (u ∷ us) x zero h e ne = rw (is-text u.text x e)
index-some-uri (u ∷ us) x (suc g) h e ne =
    rw (
      eq_text-no u.text x (ne 0 (omega arith)),
      index-some-uri us x g (omega arith) e (λ i m z. ne (suc i) (omega arith) z),
    )

pub uri-nth : (us : List Placed) (i : ℕ) → i < length us → get_elem? us i ≡ some (uri_at us i)
unfolding uri_at
uri-nth [] i h = absurd (omega arith)
uri-nth (u ∷ us) zero h = refl
uri-nth (u ∷ us) (suc i) h = uri-nth us i (omega arith)

module _ (us : List Placed) (x : Text) where
  uri-off : (n i : ℕ) → first_that (has_uri us x) n ≡ 0 → i < n → uri_text us i ≡ x → ⊥
  uri-off n i z h e =
      true≢false (sym (is-text (uri_text us i) x e) ∙ first-none (has_uri us x) n i z h)

  uri-earlier : (n g i : ℕ) → first_that (has_uri us x) n ≡ suc g → i < g → uri_text us i ≡ x → ⊥
  uri-earlier n g i z h e =
      true≢false (sym (is-text (uri_text us i) x e) ∙ first-before (has_uri us x) n g i z h)

  text-there : (n g : ℕ) → first_that (has_uri us x) n ≡ suc g → uri_text us g ≡ x
  text-there n g z = eq_text-eq (uri_text us g) x (rw (first-is (has_uri us x) n g z) tt)

  -- The compact identifier of a URI, by the answer of `find_uri`.
  pub uri-index : (r : ℕ) → r ≡ first_that (has_uri us x) (length us)
      → index_of (map some us) x ≡ row_of r
  unfolding row_of
  uri-index zero e = index-none-uri us x (λ i h z. uri-off (length us) i (sym e) h z)
  uri-index (suc g) e =
      index-some-uri us x g (omega (arith, first-most (has_uri us x) (length us)))
      (text-there (length us) g (sym e))
      (λ i h z. uri-earlier (length us) g i (sym e) h z)

-- ---- names

-- The number of a name, by the answer of `find_name`.
unfoldable pub number_from : Entries → ℕ → ℕ → Option ℕ
number_from ns k zero = none
number_from ns k (suc g) = some (tally (has_key (key_at ns) k) g)

module _ (ns : Entries) (k : ℕ) (x : Text) where
  name-off : (i : ℕ) → first_that (is_entry ns k x) (length ns) ≡ 0 → i < length ns
      → eqb k (key_at ns i) ≡ true
      → text_at ns i ≡ x → ⊥
  name-off i z h p e =
      true≢false (sym (entry-is ns k x i (sym (eqb-true k (key_at ns i) p)) e)
      ∙ first-none (is_entry ns k x) (length ns) i z h)

  name-earlier : (g i : ℕ) → first_that (is_entry ns k x) (length ns) ≡ suc g → i < g
      → eqb k (key_at ns i) ≡ true
      → text_at ns i ≡ x → ⊥
  name-earlier g i z h p e =
      true≢false (sym (entry-is ns k x i (sym (eqb-true k (key_at ns i) p)) e)
      ∙ first-before (is_entry ns k x) (length ns) g i z h)

  module _ (g : ℕ) (e : suc g ≡ first_that (is_entry ns k x) (length ns)) where
    found_here : is_entry ns k x g ≡ true
    found_here = first-is (is_entry ns k x) (length ns) g (sym e)

    found_inside : g < length ns
    found_inside = omega (arith, first-most (is_entry ns k x) (length ns))

    found-key : eqb k (key_at ns g) ≡ true
    found-key = eq-eqb k (key_at ns g) (sym (is-entry ns k x g found_here).0)

    number_is : index_of (slots 0 (eqb k) ns) x ≡ some (tally (has_key (key_at ns) k) g)
    number_is =
        index-some (eqb k) 0 ns x g (omega arith) found_inside found-key
        (is-entry ns k x g found_here).1
        (λ i l h p z. name-earlier g i (sym e) h p z)

  pub name-number : (r : ℕ) → r ≡ first_that (is_entry ns k x) (length ns)
      → index_of (slots 0 (eqb k) ns) x ≡ number_from ns k r
  unfolding number_from
  name-number zero e = index-none (eqb k) 0 ns x (λ i l h p z. name-off i (sym e) h p z)
  name-number (suc g) e = number_is g e
