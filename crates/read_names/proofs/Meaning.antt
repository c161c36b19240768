-- The names of a URI, where memory holds the names of rows, as the definitions have them: counts,
-- entries, strict forms, and which of them an attribute may have.
use Prim.Native.Nat.{ℕ, suc, ◌<◌}
use native.Mathlib.Omega.{arith}
use mathlib.Core.Path.{◌≡◌, refl, sym, ap, ◌∙◌}
use mathlib.Core.Bool.{Bool, true, false}
use mathlib.Core.List.{List}
use mathlib.Core.Option.{some}
use lib.ListN.{length, get_elem?}
use borrow.Author.Tests.{le-ltb}
use Rattle.spec_fields.proofs.Tests.{split}
use Rattle.text.specs.Text.{Text, part}
use Rattle.spec_exi.specs.Tables.{Placed, span_of, local, partitions_of, hit, literal}
use Rattle.spec_exi.specs.Tables.{hit_or, form_of, name_allowed}
use Rattle.mem_chain.specs.Chain.{first_that, last_that}
use Rattle.mem_chain.proofs.First.{first_found, first-zero}
use Rattle.mem_chain.proofs.Last.{last-is}
use Rattle.mem_index.specs.Index.{tally, has_key, is_numbered}
use Rattle.mem_index.proofs.Codes.{numbered_is}
use Rattle.mem_entries.specs.Texts.{Names, throughout}
use Rattle.mem_entries.specs.Entries.{Entries, entry_at, key_at, text_at, slot_of}
use Rattle.mem_entries.proofs.Nth.{nth-slot}
use Rattle.mem_names.specs.declared.Name.{Name}
use Rattle.mem_names.specs.Uris.{uri_text}
use Rattle.mem_names.specs.Names.{is_entry, NamesHold, NthName, IsName, NameAt}
use Rattle.mem_names.proofs.Names.{entry-is, is-entry}
use Rattle.mem_names.proofs.Tables.{number_from}
use Rattle.mem_rows.specs.Rows.{Rows, placed_at, name_at, tables_of}
use Rattle.mem_rows.proofs.Forms.{own-slots, name-form}
use Rattle.read_partition.specs.Strings.{Tabled}
use Rattle.read_names.specs.Names.{NameRows, name_role, own_names}

-- ---- a row that memory holds

module _ {text : List ℕ} {stored : ℕ} {work : List ℕ} {names : ℕ} {ns : Entries}
    (p : NamesHold work (throughout text stored) names ns) where
  module _ {i : ℕ} (h : i < names) {v : Name} (a : NameAt work i v) where
    pub is_name_lem : IsName ns i v
    is_name_lem = a.means _ names ns p h

    pub name-lies : part text (record { place = v.place; size = v.size }) ≡ text_at ns i
    unfolding span_of
    name-lies =
        let l : Names work text stored _ _ (entry_at ns i).string = p.rows i h in
        rw (is_name_lem.place, is_name_lem.size) l.text

  -- The row that has number i among the URI's.
  module _ {uri i r : ℕ} (f : NthName work uri i names r) {g : ℕ} (z : r ≡ suc g) where
    pub nth_inside : g < names
    nth_inside = omega (arith, f.within)

    numbered : (key_at ns g ≡ uri) × (tally (has_key (key_at ns) uri) g ≡ i)
    numbered =
        numbered_is (key_at ns) uri i g
        (last-is (is_numbered (key_at ns) uri i) names g (sym (f.means _ ns p) ∙ z))

    pub nth-key : key_at ns g ≡ uri
    nth-key = numbered.0

    nth_number : tally (has_key (key_at ns) uri) g ≡ i
    nth_number = numbered.1

-- ---- the URI's names

module _ {text : List ℕ} {stored : ℕ} {w : Rows} {store : Text} (t : Tabled text stored w store)
    {work : List ℕ} {names uri place size : ℕ}
    (p : NameRows work text stored names uri place size w) where
  pub count-is : length w.names ≡ names
  count-is = p.hold.count

  -- The strict form of a text, by what a search for it answers.
  pub form-of : (attr : Bool) (x : Text) (r : ℕ) → r ≡ first_that (is_entry w.names uri x) names
      → form_of (partitions_of (tables_of w store) (name_role attr uri w)) x
      ≡ hit_or 0 (number_from w.names uri r) literal
  form-of attr x r e =
      name-form t.valid uri p.row x r (e ∙ ap (first_that (is_entry w.names uri x)) (sym count-is)) store attr

  module _ {i r : ℕ} (f : NthName work uri i names r) where
    own-slot : get_elem? (own_names uri w store) i ≡ slot_of w.names 0 r
    own-slot =
        ap (λ l. get_elem? l i) (own-slots t.valid uri p.row store) ∙ nth-slot w.names 0 uri i
        ∙ ap (slot_of w.names 0)
        (ap (last_that (is_numbered (key_at w.names) uri i)) count-is
        ∙ sym (f.means (throughout text stored) w.names p.hold))

    pub own-missing : r ≡ 0 → (x : Placed) → get_elem? (own_names uri w store) i ≡ some (some x) → ⊥
    unfolding slot_of
    own-missing z x e =
        let o = own-slot ∙ ap (slot_of w.names 0) z in
        let y : ◌≡◌ {A = ℕ} 0 1 = cc in omega arith

    module _ {g : ℕ} (z : r ≡ suc g) where
      pub own-there : get_elem? (own_names uri w store) i ≡ some (some (entry_at w.names g).string)
      unfolding slot_of
      own-there = own-slot ∙ ap (slot_of w.names 0) z ∙ rw (le-ltb g 0 (omega arith))

      -- No name before it is the same.
      same_name : (j : ℕ) → is_entry w.names uri (text_at w.names g) j ≡ true
          → name_at w j ≡ name_at w g
      unfolding name_at placed_at
      same_name j e =
          let (k, x) = is-entry w.names uri (text_at w.names g) j e in
          λ m. record {
            uri = uri_text w.uris ((k ∙ sym (nth-key p.hold f z)) m);
            local = x m;
          }

      first_of : suc g ≡ first_that (is_entry w.names uri (text_at w.names g)) names
      first_of =
          let h : g < names = nth_inside p.hold f z in
          let test = is_entry w.names uri (text_at w.names g) in
          sym (first_found test names g h
          (first-zero test g
          (λ j l. split (test j)
          (λ e.
          let same : j ≡ g = t.valid.distinct.names j g (omega (arith, count-is))
          (omega (arith, count-is)) (same_name j e) in
          absurd (omega arith))
          (λ e. e)))
          (entry-is w.names uri (text_at w.names g) g (nth-key p.hold f z) refl))

      pub own-strict : (attr : Bool)
          → form_of (partitions_of (tables_of w store) (name_role attr uri w)) (text_at w.names g)
          ≡ hit 0 i
      unfolding number_from hit_or
      own-strict attr =
          form-of attr (text_at w.names g) (suc g) first_of
          ∙ ap (hit 0) (nth_number p.hold f z)

      -- It was judged when it joined.
      pub own-judged : name_allowed (local false (uri_text w.uris uri)) (text_at w.names g)
          ≡ true
      unfolding name_at placed_at
      own-judged =
          ap (λ k. name_allowed (local false (uri_text w.uris k)) (text_at w.names g))
          (sym (nth-key p.hold f z))
          ∙ t.valid.judged.names g (omega (arith, nth_inside p.hold f z, count-is))
