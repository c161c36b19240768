-- Rows that differ at most in where their strings lie mean alike contexts, so a string may join at any
-- place.
use Prim.Native.Nat.{ℕ}
use mathlib.Core.Path.{◌≡◌, refl, sym, ap, fun_ext, ◌∙◌}
use mathlib.Core.Bool.{Bool, true}
use mathlib.Core.List.{List, [], ◌∷◌, ◌++◌, map}
use mathlib.Core.Option
use mathlib.Core.Option.{Option, some}
use lib.ListN.{length, replicate, get_or-map}
use Rattle.spec_fields.proofs.Tests.{split}
use Rattle.text.specs.Text.{Text}
use Rattle.spec_exi.specs.Event.{QName, Event, Kind, kind_of, name_of, map_name}
use Rattle.spec_exi.specs.Settings.{Settings}
use Rattle.spec_exi.specs.Tables.{Placed, name_text, Entry, uri, local, value, joins, added}
use Rattle.spec_exi.specs.Grammar.{Code, kind_number, code_of}
use Rattle.spec_exi.specs.Context.{levels_in, items, after_items, after_code, next}
use Rattle.spec_exi.specs.Alike.{unplaced, unplaced_entry, unplaced_values, unplaced_tables, unplaced_name}
use Rattle.spec_exi.specs.Alike.{unplaced_production}
use Rattle.spec_exi.specs.Alike.{unplaced_learned, unplaced_context, SameBy, AlikeTables, Alike}
use Rattle.spec_exi.proofs.Alike.{alike_same, after-alike, entries-alike}
use Rattle.mem_entries.specs.Entries.{entry_at, named, no_entry}
use Rattle.mem_names.specs.Uris.{no_uri, uri_at, uri_text}
use Rattle.mem_rows.specs.Rows.{Learnt, Rows, placed_at}
use Rattle.mem_rows.specs.Rows.{name_at, tables_of, kind_at, carries, site_at, carried_at}
use Rattle.mem_rows.specs.Rows.{production_of, learnt_as, backward, learned_of, grammars_of}
use Rattle.mem_rows.specs.Rows.{tag_in, state_of, context_of, with_uri, with_name, with_value}
use Rattle.mem_rows.specs.Rows.{mode_after, opened_after}
use Rattle.mem_rows.specs.Valid.{Refers, Valid}
use Rattle.mem_rows.proofs.Joins.{map_snoc, uri-joins, name-joins, value-joins}
use Rattle.mem_rows.specs.Rows.{leaves}
use Rattle.mem_rows.proofs.Events.{EventRows, event-context}

-- The same rows, with every place 0.
unfoldable pub unplaced_rows : Rows → Rows
unplaced_rows w =
    record {
      uris = map unplaced w.uris;
      names = map unplaced_entry w.names;
      values = map unplaced_entry w.values;
      learned = w.learned;
      grammars = w.grammars;
      attributes = w.attributes;
      longest = w.longest;
      capacity = w.capacity;
    }

abbrev pub AlikeRows : Rows → Rows → Type 0
AlikeRows = SameBy unplaced_rows

-- ---- what rows without places mean

uri-unplaced : (us : List Placed) (u : ℕ) → uri_at (map unplaced us) u ≡ unplaced (uri_at us u)
unfolding uri_at unplaced
uri-unplaced us u = get_or-map unplaced us u no_uri

entry-unplaced : (es : List (Entry ℕ)) (i : ℕ) → entry_at (map unplaced_entry es) i ≡ unplaced_entry (entry_at es i)
unfolding entry_at unplaced_entry unplaced
entry-unplaced es i = get_or-map unplaced_entry es i no_entry

keyed-unplaced : {K : Type 0} {f g : ℕ → K} → f ≡ g → (es : List (Entry ℕ))
    → map (named f) (map unplaced_entry es) ≡ map unplaced_entry (map (named g) es)
unfolding named unplaced_entry
keyed-unplaced h [] = refl
keyed-unplaced {f = f} {g = g} h (e ∷ es) =
    let k : f e.key ≡ g e.key = ap (λ m. m e.key) h in cc (keyed-unplaced h es)

module _ (w : Rows) where
  placed-unplaced : (n : ℕ) → placed_at (unplaced_rows w) n ≡ map_name unplaced (placed_at w n)
  unfolding placed_at unplaced_rows map_name unplaced_entry
  placed-unplaced n = rw (entry-unplaced w.names n, uri-unplaced w.uris (entry_at w.names n).key)

  uris-unplaced : uri_text (map unplaced w.uris) ≡ uri_text w.uris
  unfolding unplaced
  uris-unplaced = fun_ext (λ u. ap (λ (x : Placed). x.text) (uri-unplaced w.uris u))

  names-unplaced : name_at (unplaced_rows w) ≡ name_at w
  unfolding name_at name_text map_name unplaced
  names-unplaced = fun_ext (λ n. ap name_text (placed-unplaced n))

  tables-unplaced : (store : Text)
      → tables_of (unplaced_rows w) (replicate (length store) 0) ≡ unplaced_tables (tables_of w store)
  unfolding tables_of unplaced_tables unplaced_values unplaced_rows
  tables-unplaced store =
      λ i. record {
        uris = map unplaced w.uris;
        names = keyed-unplaced uris-unplaced w.names i;
        values =
            record {
              longest = w.longest;
              capacity = w.capacity;
              added = keyed-unplaced names-unplaced w.values i;
            };
        store = replicate (length store) 0;
      }

  carried-unplaced : (k : Kind) (n : ℕ) → carried_at (unplaced_rows w) k n ≡ unplaced_name (carried_at w k n)
  unfolding carried_at unplaced_name
  carried-unplaced k n = rw (placed-unplaced n) (split (carries k) (λ e. rw e) (λ e. rw e))

  site-unplaced : (k : ℕ) → site_at (unplaced_rows w) k ≡ site_at w k
  unfolding site_at
  site-unplaced k = rw names-unplaced

  learnt-unplaced : (ls : List Learnt) → map (learnt_as (unplaced_rows w)) ls ≡ map unplaced_learned (map (learnt_as w) ls)
  unfolding learnt_as production_of unplaced_learned unplaced_production
  learnt-unplaced [] = refl
  learnt-unplaced (l ∷ ls) =
      cc (site-unplaced l.site, carried-unplaced (kind_at l.kind) l.name, learnt-unplaced ls)

  context-unplaced : (store : Text) (mode : ℕ) (opened : List ℕ)
      → context_of (unplaced_rows w) (replicate (length store) 0) mode opened
      ≡ unplaced_context (context_of w store mode opened)
  unfolding context_of learned_of grammars_of tag_in unplaced_context unplaced_rows
  context-unplaced store mode opened =
      λ i. record {
        state = state_of mode (map (names-unplaced i) opened);
        tables = tables-unplaced store i;
        learned = learnt-unplaced (backward w.learned) i;
        grammars = map (names-unplaced i) w.grammars;
        tag = record { attributes = map (names-unplaced i) w.attributes };
      }

-- ---- alike rows

module _ {w v : Rows} (a : AlikeRows w v) (store store' : Text) (e : length store ≡ length store') where
  pub rows-tables : AlikeTables (tables_of w store) (tables_of v store')
  rows-tables =
      record {
        same = sym (tables-unplaced w store)
            ∙ (λ i. tables_of (a.same i) (replicate (e i) 0))
            ∙ tables-unplaced v store';
      }

  -- Alike rows, over stores of the same length, mean alike contexts.
  pub rows-context : (mode : ℕ) (opened : List ℕ)
      → Alike (context_of w store mode opened) (context_of v store' mode opened)
  rows-context mode opened =
      record {
        same = sym (context-unplaced w store mode opened)
            ∙ (λ i. context_of (a.same i) (replicate (e i) 0) mode opened)
            ∙ context-unplaced v store' mode opened;
      }

-- ---- one row more, whatever its place

uri-more : (w : Rows) (x : Placed) → with_uri (unplaced_rows w) (unplaced x) ≡ unplaced_rows (with_uri w x)
unfolding with_uri unplaced_rows
uri-more w x = rw (map_snoc unplaced w.uris x)

name-more : (w : Rows) (u : ℕ) (x : Placed) → with_name (unplaced_rows w) u (unplaced x) ≡ unplaced_rows (with_name w u x)
unfolding with_name unplaced_rows unplaced_entry
name-more w u x = rw (map_snoc unplaced_entry w.names (record { key = u; string = x }))

value-more : (w : Rows) (n : ℕ) (x : Placed)
    → with_value (unplaced_rows w) n (unplaced x) ≡ unplaced_rows (with_value w n x)
unfolding with_value unplaced_rows unplaced_entry
value-more w n x = rw (map_snoc unplaced_entry w.values (record { key = n; string = x }))

module _ {w v : Rows} (a : AlikeRows w v) (x y : Placed) (e : x.text ≡ y.text) where
  at : unplaced x ≡ unplaced y
  unfolding unplaced
  at = λ i. record { place = 0; text = e i }

  -- The same text joins alike rows.
  pub alike-uri : AlikeRows (with_uri w x) (with_uri v y)
  alike-uri = record { same = sym (uri-more w x) ∙ (λ i. with_uri (a.same i) (at i)) ∙ uri-more v y }

  pub alike-name : (u : ℕ) → AlikeRows (with_name w u x) (with_name v u y)
  alike-name u = record { same = sym (name-more w u x) ∙ (λ i. with_name (a.same i) u (at i)) ∙ name-more v u y }

  pub alike-value : (n : ℕ) → AlikeRows (with_value w n x) (with_value v n y)
  alike-value n = record { same = sym (value-more w n x) ∙ (λ i. with_value (a.same i) n (at i)) ∙ value-more v n y }

-- A string that joins the definitions' tables at the end of their store is alike to a row with it at any
-- place.
module _ (w : Rows) (r : Refers w) (store : Text) (x : Placed) where
  pub uri-joins-alike : AlikeTables (added (tables_of w store) uri x.text) (tables_of (with_uri w x) (store ++ x.text))
  uri-joins-alike =
      rw (uri-joins w r store x.text)
      (rows-tables (alike-uri (alike_same w) _ x refl) (store ++ x.text) (store ++ x.text) refl)

  pub name-joins-alike : (attr : Bool) (u : ℕ)
      → AlikeTables (added (tables_of w store) (local attr (uri_text w.uris u)) x.text)
      (tables_of (with_name w u x) (store ++ x.text))
  name-joins-alike attr u =
      rw (name-joins w r store x.text attr u)
      (rows-tables (alike-name (alike_same w) _ x refl u) (store ++ x.text) (store ++ x.text) refl)

  pub value-joins-alike : (n : ℕ) → joins (tables_of w store).values x.text ≡ true
      → AlikeTables (added (tables_of w store) (value (name_at w n)) x.text)
      (tables_of (with_value w n x) (store ++ x.text))
  value-joins-alike n e =
      rw (value-joins w r store x.text n e)
      (rows-tables (alike-value (alike_same w) _ x refl n) (store ++ x.text) (store ++ x.text) refl)

-- ---- what an event leaves

module _ (s : Settings) {w v : Rows} (refers : Refers w) (valid : Valid v) {mode n : ℕ} {opened : List ℕ} {b : Bool}
    {l : Learnt} {x : Code} {q : Option (QName Placed)} {e : Event Text} (h : EventRows w v mode opened n b l x q e)
    (store store' : Text) where
  -- Where its strings leave tables alike to those of the rows v, the context after an event is alike to that of
  -- the rows that it leaves.
  pub event-alike : code_of (levels_in s (context_of w store mode opened)) e ≡ some x → Option.map name_text q ≡ name_of e
      → AlikeTables (after_items (tables_of w store) (items (state_of mode (map (name_at w) opened)) x.production e))
      (tables_of v store')
      → Alike (next s (context_of w store mode opened) e)
      (context_of (leaves (kind_number (kind_of e)) n b l v) store'
      (mode_after s.fragment (kind_number (kind_of e)) mode (length opened))
      (opened_after (kind_number (kind_of e)) n opened))
  unfolding next after_code context_of
  event-alike code name tables =
      rw (code, event-context s refers valid h store store')
      (after-alike s (alike_same (context_of w store mode opened)) (alike_same x) tables
      (entries-alike _ (name_of e) q name) e)
