-- A name that has a row is in its tables, and so is the name that a learned production carries.
use Prim.Native.Nat.{ℕ, zero, suc, ◌<◌}
use mathlib.Core.Path.{◌≡◌, refl, sym, ap, subst, ◌∙◌}
use mathlib.Core.Bool.{Bool, true, false}
use mathlib.Core.List.{List, map}
use mathlib.Core.Option
use mathlib.Core.Option.{Option, none, some, none-ne-some}
use lib.ListN.{length}
use lib.Dec.{T, eqb}
use Rattle.spec_fields.proofs.Tests.{split, is_t, right}
use Rattle.text.specs.Text.{Text}
use Rattle.spec_exi.specs.Event.{QName, Event, kind_of, name_of, map_name}
use Rattle.spec_exi.specs.Tables as tables
use Rattle.spec_exi.specs.Tables.{Placed, name_text, hit_or}
use Rattle.spec_exi.specs.Grammar.{Production, kind_number, fits_name, fits, raised, first_fit}
use Rattle.spec_exi.proofs.Codes.{eq_name-eq, fits-kind}
use Rattle.mem_chain.specs.Chain.{first_that}
use Rattle.mem_entries.specs.Entries.{key_at, text_at}
use Rattle.mem_names.specs.Uris.{uri_text, has_uri, row_of}
use Rattle.mem_names.specs.Names.{is_entry}
use Rattle.mem_names.proofs.Tables.{number_from}
use Rattle.mem_rows.specs.Rows.{Learnt, Rows, placed_at, name_at, kind_at, carries, carried_at}
use Rattle.mem_rows.specs.Rows.{production_of}
use Rattle.mem_rows.specs.Valid.{LearntFits, Valid}
use Rattle.mem_rows.proofs.Kept.{All, more}
use Rattle.mem_rows.proofs.Kept as kept
use Rattle.mem_rows.proofs.Learned.{learnt_in}
use Rattle.mem_rows.proofs.Forms.{uri-form, uri-fresh, name-form, name-fresh}
use Rattle.write_partition.specs.Writable.{tables_in}
use Rattle.write_partition.specs.Judged.{IsHit}
use Rattle.write_qname.specs.Qnames.{NameHits}

-- ---- a row

module _ {w : Rows} (v : Valid w) (stored : ℕ) where
  uri-hit : (u : ℕ) → u < length w.uris
      → IsHit (tables_in w stored) tables.uri (uri_text w.uris u)
  unfolding row_of hit_or
  uri-hit u h = go (first_that (has_uri w.uris (uri_text w.uris u)) (length w.uris)) refl
    where
      go : (r : ℕ) → r ≡ first_that (has_uri w.uris (uri_text w.uris u)) (length w.uris)
          → IsHit (tables_in w stored) tables.uri (uri_text w.uris u)
      go zero e = absurd (uri-fresh w (uri_text w.uris u) zero e refl u h refl)
      go (suc i) e =
          record { id = i; form = uri-form w (uri_text w.uris u) (suc i) e _ }

  module _ (n : ℕ) (h : n < length w.names) where
    abbrev key : ℕ
    key = key_at w.names n

    key-low : key < length w.uris
    key-low = v.refers.names.below n h

    local-hit : (attr : Bool)
        → IsHit (tables_in w stored) (tables.local attr (uri_text w.uris key)) (text_at w.names n)
    unfolding number_from hit_or name_at placed_at
    local-hit attr =
        go (first_that (is_entry w.names key (text_at w.names n)) (length w.names)) refl
      where
        go : (r : ℕ)
            → r ≡ first_that (is_entry w.names key (text_at w.names n)) (length w.names)
            → IsHit (tables_in w stored) (tables.local attr (uri_text w.uris key))
            (text_at w.names n)
        go zero e = absurd (name-fresh v key key-low (text_at w.names n) zero e refl n h refl)
        go (suc i) e =
            record {
              id = _;
              form = name-form v key key-low (text_at w.names n) (suc i) e _ attr;
            }

    pub row-hits : (attr : Bool) → NameHits (tables_in w stored) attr (name_at w n)
    unfolding name_at placed_at
    row-hits attr = record { uri-hit = uri-hit key key-low; local-hit = local-hit attr }

-- ---- a learned production that fits

-- A production that fits an event is a row's, which fits it.
pub record RowFits (w : Rows) (e : Event Text) (p : Production) : Type 0 where
  pub row : Learnt
  pub fit : LearntFits (length w.names) row
  pub is : p ≡ production_of w row
  pub fits-it : fits (production_of w row) e ≡ true

module _ (w : Rows) (e : Event Text) where
  pub fit_row : (site : ℕ) {ls : List Learnt} → All (LearntFits (length w.names)) ls
      → {y : ℕ × Production} → first_fit (map (production_of w) (learnt_in site ls)) e ≡ some y
      → RowFits w e y.1
  unfolding learnt_in first_fit raised
  fit_row site kept.none f = absurd (none-ne-some _ f)
  fit_row site (more {x = l} {xs = ls} p ps) {y} f =
      split (eqb site l.site)
      (λ t. split (fits (production_of w l) e)
      (λ u. first u (rw (t, u) at f))
      (λ u. later (first_fit (map (production_of w) (learnt_in site ls)) e)
      (λ x z. fit_row site ps z) (rw (t, u) at f)))
      (λ t. fit_row site ps (rw t at f))
    where
      first : fits (production_of w l) e ≡ true → some (0, production_of w l) ≡ some y
          → RowFits w e y.1
      first u z =
          record { row = l; fit = p; is = (let q : production_of w l ≡ y.1 = cc in sym q); fits-it = u }

      later : (o : Option (ℕ × Production))
          → ((x : ℕ × Production) → o ≡ some x → RowFits w e x.1)
          → Option.map raised o ≡ some y → RowFits w e y.1
      later none g z = absurd (none-ne-some _ z)
      later (some x) g z =
          let q : x.1 ≡ y.1 = cc in subst (RowFits w e) q (g x refl)

  module _ {p : Production} (r : RowFits w e p) where
    pub row-kind : kind_at r.row.kind ≡ kind_of e
    unfolding production_of
    row-kind = fits-kind (production_of w r.row) e (is_t _ r.fits-it)

    pub row_plain : carries (kind_of e) ≡ false → p.qname ≡ none
    unfolding production_of carried_at
    row_plain k = ap (λ (q : Production). q.qname) r.is ∙ rw (row-kind, k)

    pub row-name : carries (kind_of e) ≡ true → name_of e ≡ some (name_at w r.row.name)
    unfolding production_of carried_at name_at name_text map_name fits_name fits
    row-name k =
        let t : T (fits_name (carried_at w (kind_at r.row.kind) r.row.name) (name_of e)) =
        right (eqb (kind_number (kind_at r.row.kind)) (kind_number (kind_of e))) _
        (is_t _ r.fits-it) in
        named (placed_at w r.row.name) (name_of e) (rw (row-kind, k) at t)
      where
        named : (q : QName Placed) (n : Option (QName Text)) → T (fits_name (some q) n)
            → n ≡ some (name_text q)
        named q none t = absurd t
        named q (some m) t = ap some (sym (eq_name-eq (name_text q) m t))
