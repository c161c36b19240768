-- The form of a URI and of a local name (EXI 7.3), by what a search of the rows answers; and that a text
-- which no search finds is new.
use Prim.Native.Nat.{ℕ, ◌<◌}
use mathlib.Core.Path.{◌≡◌, sym, ap, ◌∙◌}
use mathlib.Core.Bool.{Bool, true≢false}
use mathlib.Core.List.{List, map}
use mathlib.Core.Option.{some}
use lib.ListN.{length, length-map}
use lib.Dec.{eqb}
use Rattle.text.specs.Text.{Text}
use Rattle.spec_exi.specs.Event.{QName}
use Rattle.spec_exi.specs.Tables.{Slot, names_of, index_of, uri, local, partitions_of, literal, hit_or}
use Rattle.spec_exi.specs.Tables.{first_hit, form_of}
use Rattle.mem_chain.specs.Chain.{first_that}
use Rattle.mem_chain.proofs.First.{first-none}
use Rattle.mem_entries.specs.Entries.{key_at, given, slots}
use Rattle.mem_entries.proofs.Texts.{is-text}
use Rattle.mem_entries.proofs.Slots.{slots-all}
use Rattle.mem_names.specs.Uris.{uri_text, has_uri, row_of}
use Rattle.mem_names.specs.Names.{is_entry}
use Rattle.mem_names.proofs.Names.{entry-is}
use Rattle.mem_names.proofs.Tables.{uri-index, number_from, name-number}
use Rattle.mem_rows.specs.Rows.{Rows, placed_at, name_at, tables_of}
use Rattle.mem_rows.specs.Valid.{Valid}
use Rattle.mem_rows.proofs.Partitions.{names-part}

-- ---- a URI

module _ (w : Rows) (x : Text) (r : ℕ) (e : r ≡ first_that (has_uri w.uris x) (length w.uris)) where
  pub uri-form : (store : Text) → form_of (partitions_of (tables_of w store) uri) x ≡ hit_or 0 (row_of r) literal
  unfolding partitions_of form_of first_hit tables_of
  uri-form store = ap (λ o. hit_or 0 o literal) (uri-index w.uris x r e)

  pub uri-fresh : r ≡ 0 → (u : ℕ) → u < length w.uris → uri_text w.uris u ≡ x → ⊥
  uri-fresh z u h t =
      true≢false (sym (is-text (uri_text w.uris u) x t)
      ∙ first-none (has_uri w.uris x) (length w.uris) u (sym e ∙ z) h)

-- ---- a local name

module _ {w : Rows} (v : Valid w) (u : ℕ) (h : u < length w.uris) where
  module _ (store : Text) where
    -- The names of the URI, as slots.
    abbrev own : List Slot
    own = map some (names_of (tables_of w store) (uri_text w.uris u))

    own_is : own ≡ map some (given w.names u)
    own_is = ap (map some) (names-part v store u h)

    pub own-slots : own ≡ slots 0 (eqb u) w.names
    unfolding given
    own-slots = own_is ∙ sym (slots-all (eqb u) w.names)

    pub own-count : length own ≡ length (given w.names u)
    own-count = ap length own_is ∙ length-map (given w.names u) some

  module _ (x : Text) (r : ℕ) (e : r ≡ first_that (is_entry w.names u x) (length w.names)) where
    pub name-form : (store : Text) (attr : Bool)
        → form_of (partitions_of (tables_of w store) (local attr (uri_text w.uris u))) x
        ≡ hit_or 0 (number_from w.names u r) literal
    unfolding partitions_of form_of first_hit
    name-form store attr =
        ap (λ o. hit_or 0 o literal) (ap (λ l. index_of l x) (own-slots store) ∙ name-number w.names u x r e)

    pub name-fresh : r ≡ 0 → (i : ℕ) → i < length w.names
        → name_at w i ≡ record { uri = uri_text w.uris u; local = x } → ⊥
    unfolding name_at placed_at
    name-fresh z i l same =
        let t : uri_text w.uris (key_at w.names i) ≡ uri_text w.uris u =
        ap (λ (y : QName Text). y.uri) same in
        let k : key_at w.names i ≡ u =
        v.distinct.uris (key_at w.names i) u (v.refers.names.below i l) h t in
        true≢false (sym (entry-is w.names u x i k (ap (λ (y : QName Text). y.local) same))
        ∙ first-none (is_entry w.names u x) (length w.names) i (sym e ∙ z) l)
