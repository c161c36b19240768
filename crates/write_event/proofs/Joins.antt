-- Strings that are in their tables join nothing.
use Prim.Native.Nat.{ℕ, ◌+◌}
use native.Mathlib.Omega.{arith}
use mathlib.Core.Path.{◌≡◌, refl, sym, ap, ◌∙◌}
use mathlib.Core.Bool.{Bool, true, false, cond}
use mathlib.Core.List.{[], ◌∷◌, append-nil}
use lib.ListN.{length, replicate, length-map}
use Rattle.text.specs.Text.{Text}
use Rattle.spec_exi.specs.Event.{QName, Event, start_document, end_document, end_element, start_element}
use Rattle.spec_exi.specs.Event.{attribute, characters, comment, instruction}
use Rattle.spec_exi.specs.Tables as tables
use Rattle.spec_exi.specs.Tables.{Tables, Form, hit, literal, partitions_of, form_of, tables_after}
use Rattle.spec_exi.specs.Tables.{new_uri, new_name, added}
use Rattle.spec_exi.specs.Grammar.{State}
use Rattle.spec_exi.specs.Context.{item, after_item, after_items}
use Rattle.spec_exi.specs.Alike.{unplaced, unplaced_entry, unplaced_tables, AlikeTables}
use Rattle.mem_rows.specs.Rows.{Rows, tables_of}
use Rattle.mem_rows.proofs.Within.{names-count}
use Rattle.mem_state.specs.declared.Core.{Core}
use Rattle.mem_state.specs.declared.Strings.{Strings}
use Rattle.mem_state.specs.Holds.{Stores, Counts}
use Rattle.mem_state.specs.Strung.{StringsJoin}
use Rattle.mem_state.proofs.Strung.{uris-counted, names-counted}
use Rattle.write_partition.specs.Writable.{tables_in}
use Rattle.write_partition.proofs.Strings.{hit-after, after-append}
use Rattle.write_qname.specs.Qnames.{NoName, name_as, NameHits}
use Rattle.write_content.specs.Contents.{items_as, NamedHits}

-- As many URIs and names.
pub record SameNames (t u : Tables) : Type 0 where
  pub uris : length t.uris ≡ length u.uris
  pub names : length t.names ≡ length u.names

name-stays : {t : Tables} {attr : Bool} {q : QName Text} → NameHits t attr q
    → after_items t (name_as true attr q) ≡ t
unfolding name_as after_items item
name-stays {t} {attr} {q} h =
    rw (
      hit-after t tables.uri q.uri h.uri-hit.form,
      hit-after t (tables.local attr q.uri) q.local h.local-hit.form,
    )

-- A value is neither.
value_stays : (t : Tables) (q : QName Text) (v : Text)
    → SameNames (after_items t (item (tables.value q) v ∷ [])) t
unfolding after_item after_items item tables_after added new_uri new_name
value_stays t q v = go (form_of (partitions_of t (tables.value q)) v)
  where
    go : (f : Form) → SameNames (tables_after t (tables.value q) f v) t
    go (hit j i) = record { uris = refl; names = refl }
    go literal =
        record {
          uris = ap length (append-nil t.uris);
          names = ap length (append-nil t.names);
        }

-- An event whose name is in its tables.
pub hits-stay : (t : Tables) (st : State) (e : Event Text) → NamedHits t e
    → SameNames (after_items t (items_as true st e)) t
unfolding NamedHits items_as
hits-stay t st start_document h = absurd h
hits-stay t st end_document h = absurd h
hits-stay t st end_element h = absurd h
hits-stay t st (start_element q) h =
    rw (name-stays h) (record { uris = refl; names = refl })
hits-stay t st (attribute q v) h =
    rw (after-append t (name_as true true q) (item (tables.value q) v ∷ []), name-stays h)
    (value_stays t q v)
hits-stay t st (characters v) h = absurd h
hits-stay t st (comment x) h = absurd h
hits-stay t st (instruction x y) h = absurd h

alike-names : {t u : Tables} → AlikeTables t u → SameNames t u
unfolding unplaced_tables
alike-names {t} {u} a =
    record {
      uris = sym (length-map t.uris unplaced)
          ∙ ap (λ (x : Tables). length x.uris) a.same
          ∙ length-map u.uris unplaced;
      names = sym (length-map t.names unplaced_entry)
          ∙ ap (λ (x : Tables). length x.names) a.same
          ∙ length-map u.names unplaced_entry;
    }

joins-not : (b : Bool) {m n : ℕ} → m + cond b 1 0 ≡ n → n ≡ m → b ≡ false
joins-not true e f = absurd (omega arith)
joins-not false e f = refl

-- Tables that have no more of either than the rows w had: nothing joined w.
pub no_name : {from : Stores} {s : Strings} {w v : Rows} {c : Core} {t : Tables}
    (stored stored' : ℕ) → StringsJoin from s w v → Counts c w → SameNames t (tables_in w stored)
    → AlikeTables t (tables_in v stored') → NoName s
unfolding tables_of
no_name {s = s} {w = w} {v = v} stored stored' j n same a =
    let b = alike-names a in
    record {
      uri = joins-not s.new_uri (uris-counted j n)
          (sym b.uris ∙ same.uris ∙ sym n.uris);
      name = joins-not s.new_name (names-counted j n)
          (sym (names-count v (replicate stored' 0)) ∙ sym b.names ∙ same.names
          ∙ names-count w (replicate stored 0) ∙ sym n.names);
    }
