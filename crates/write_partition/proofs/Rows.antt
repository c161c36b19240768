-- What the writer knows of the rows: their tables pass no size, and a text that was judged may join.
use Prim.Native.Nat.{ℕ, ◌-◌, ◌≤◌, ◌<◌}
use mathlib.Core.Path.{◌≡◌, sym, ap, subst}
use mathlib.Core.Bool.{true}
use mathlib.Core.List.{List, [], ◌∷◌, ◌++◌}
use lib.ListN.{length, replicate, length-replicate}
use lib.Dec.{ltb}
use borrow.Author.Tests.{le-leb}
use Rattle.spec_fields.proofs.Tests.{split}
use Rattle.text.specs.Text.{Text}
use Rattle.spec_exi.specs.Sizes.{sizes, max_uris, max_names, max_values, max_store}
use Rattle.spec_exi.specs.Tables.{Placed, Entry, gone}
use Rattle.spec_exi.specs.Lists.{within_tables}
use Rattle.mem_entries.specs.Texts.{store_of}
use Rattle.mem_entries.specs.Entries.{text_at}
use Rattle.mem_entries.proofs.Entries.{entry_old, entry_new}
use Rattle.mem_names.specs.Uris.{uri_text}
use Rattle.mem_rows.specs.Rows.{Rows, tables_of, with_uri, with_name, with_value}
use Rattle.mem_rows.specs.Valid.{gone_in}
use Rattle.mem_rows.proofs.Entries.{last_or}
use Rattle.mem_rows.proofs.Joins.{uri-old, uri-new}
use Rattle.mem_rows.proofs.Within.{names-count, values-count}
use Rattle.write_partition.specs.Writable.{Written, Writable, Few, tables_in, source_of}

-- ---- where texts lie

pub source-store : (first : ℕ) (opening text : List ℕ) (i : ℕ)
    → (source_of first opening text i).store ≡ store_of first opening text i
unfolding source_of store_of
source-store first opening text i = split (ltb i first) (λ e. rw e) (λ e. rw e)

-- ---- the sizes

-- As many code points as the store has.
pub zeros : (stored : ℕ) → length (replicate {A = ℕ} stored 0) ≡ stored
zeros stored = length-replicate {A = ℕ} stored 0

pub store-count : (w : Rows) (stored : ℕ) → length (tables_in w stored).store ≡ stored
unfolding tables_of
store-count w stored = zeros stored

pub few-within : {w : Rows} {stored : ℕ} → Few w → stored ≤ max_store
    → within_tables sizes (tables_in w stored) ≡ true
unfolding within_tables tables_of gone
few-within {w} {stored} f h =
    rw (
      names-count w (replicate stored 0),
      values-count w (replicate stored 0),
      zeros stored,
      le-leb (length w.uris) max_uris f.uris,
      le-leb (length w.names) max_names f.names,
      le-leb (length w.values - gone_in w) max_values f.values,
      le-leb stored max_store h,
    )

-- ---- one row more, whose text was judged

texts-more : {A : Type 0} (l : List A) (x : A) (f g : ℕ → Text)
    → ((i : ℕ) → i < length l → g i ≡ f i) → ((i : ℕ) → i < length l → Written (f i))
    → Written (g (length l)) → (i : ℕ) → i < length (l ++ (x ∷ [])) → Written (g i)
texts-more l x f g old written new =
    last_or {P = λ i. Written (g i)} l x
    (λ i h. subst Written (sym (old i h)) (written i h)) new

module _ {w : Rows} (v : Writable w) (x : Placed) (judged : Written x.text) where
  pub uri-writable : Writable (with_uri w x)
  unfolding with_uri
  uri-writable =
      record {
        uris = texts-more w.uris x (uri_text w.uris) (uri_text (w.uris ++ (x ∷ [])))
            (λ i h. ap (λ (p : Placed). p.text) (uri-old w x i h)) v.uris
            (subst Written (sym (ap (λ (p : Placed). p.text) (uri-new w x))) judged);
        names = v.names;
        values = v.values;
      }

  entries-writable : (es : List (Entry ℕ)) (k : ℕ)
      → ((i : ℕ) → i < length es → Written (text_at es i))
      → (i : ℕ) → i < length (es ++ (record { key = k; string = x } ∷ []))
      → Written (text_at (es ++ (record { key = k; string = x } ∷ [])) i)
  entries-writable es k written =
      let e : Entry ℕ = record { key = k; string = x } in
      texts-more es e (text_at es) (text_at (es ++ (e ∷ [])))
      (λ i h. ap (λ (y : Entry ℕ). y.string.text) (entry_old es e i h)) written
      (subst Written (sym (ap (λ (y : Entry ℕ). y.string.text) (entry_new es e))) judged)

  pub name-writable : (u : ℕ) → Writable (with_name w u x)
  unfolding with_name
  name-writable u =
      record {
        uris = v.uris;
        names = entries-writable w.names u v.names;
        values = v.values;
      }

  pub value-writable : (n : ℕ) → Writable (with_value w n x)
  unfolding with_value
  value-writable n =
      record {
        uris = v.uris;
        names = v.names;
        values = entries-writable w.values n v.values;
      }
