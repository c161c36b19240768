-- Memory holds one row more, of any of its tables.
use Prim.Native.Nat.{ℕ, suc, ◌+◌, ◌≤◌, ◌<◌}
use native.Mathlib.Omega.{arith}
use mathlib.Core.Path.{◌≡◌, refl, sym, ap, subst, ◌∙◌}
use mathlib.Core.Bool.{false, cond}
use mathlib.Core.List.{List, [], ◌∷◌, ◌++◌, map}
use mathlib.Core.Option.{Option}
use lib.ListN.{length, length-append}
use Rattle.spec_fields.proofs.Tests.{split}
use Rattle.text.specs.Text.{Text}
use Rattle.text.proofs.Equal.{eq_text-no}
use Rattle.spec_exi.specs.Event.{QName}
use Rattle.spec_exi.specs.Sizes.{max_values}
use Rattle.spec_exi.specs.Tables.{Placed, Entry, replaced}
use Rattle.spec_exi.specs.Grammar.{kind_number}
use Rattle.mem_layout.specs.Layout.{uri_rows, name_rows, value_ring, learned_rows, sites, work_cells}
use Rattle.mem_index.specs.Index.{numbers}
use Rattle.mem_chain.specs.Chain.{first_that}
use Rattle.mem_chain.proofs.First.{first-zero}
use Rattle.mem_entries.specs.Texts.{hash_of, Grown, Lies}
use Rattle.mem_entries.specs.Entries.{entry_at, key_at, text_at}
use Rattle.mem_entries.proofs.Entries.{entry_old, entry_new}
use Rattle.mem_names.specs.Uris.{uri_at, uri_text, has_uri, UrisHold}
use Rattle.mem_names.specs.Names.{is_entry, NamesHold}
use Rattle.mem_names.specs.Uris as uris
use Rattle.mem_names.specs.Names as names
use Rattle.mem_names.proofs.Uris.{uri-old, uri-new, first-fresh, uris-kept, uris-grown, uris-more}
use Rattle.mem_names.proofs.Names.{is-entry}
use Rattle.mem_names.proofs.Joined.{names-kept, names-longer, names_more}
use Rattle.mem_marks.specs.Marks.{with_mark}
use Rattle.mem_values.specs.Window.{Capacity, Differ}
use Rattle.mem_values.specs.Hold.{ValuesHold}
use Rattle.mem_values.specs.Values as values
use Rattle.mem_values.proofs.Joined.{values-more}
use Rattle.mem_values.proofs.Order.{newest-is, replaced-few}
use Rattle.mem_values.proofs.Stands.{capacity-is, stand-kept, stand-grown}
use Rattle.mem_learned.specs.Learned.{Taught, LearnedHold}
use Rattle.mem_learned.specs.Learned as learned
use Rattle.mem_learned.specs.Grammars.{has_row, GrammarsHold, with_grammar_of}
use Rattle.mem_learned.proofs.Joined.{learned-kept, learned-more}
use Rattle.mem_learned.proofs.Grammars.{grammars-kept, grammars-more}
use Rattle.mem_rows.specs.Rows.{Learnt, Rows, placed_at, name_at, kind_at, carries, is_among}
use Rattle.mem_rows.specs.Rows.{with_uri, with_name, with_value, with_learned, with_grammar}
use Rattle.mem_rows.specs.Rows.{with_attributes}
use Rattle.mem_rows.specs.Valid.{no_learnt, LearntFits, Refers, gone_in, Windowed, Valid}
use Rattle.mem_rows.proofs.Kept.{map_same, all-at}
use Rattle.mem_rows.proofs.Joins.{map_snoc}
use Rattle.mem_state.specs.Holds.{taught_of, taught_in, Stores, in_store, Holds}
use Rattle.mem_state.proofs.Frames.{SameFlags, uri-names, uri-values, uri-learned, uri-flags}
use Rattle.mem_state.proofs.Frames.{name-uris, name-values, name-learned, name-flags}
use Rattle.mem_state.proofs.Frames.{value-uris, value-names, value-learned, value-flags}
use Rattle.mem_state.proofs.Frames.{learnt-uris, learnt-names, learnt-values, learnt-flags}
use Rattle.mem_state.proofs.Frames.{grammar-uris, grammar-names, grammar-values}
use Rattle.mem_state.proofs.Frames.{grammar-learned, mark-uris, mark-names, mark-values}
use Rattle.mem_state.proofs.Frames.{mark-learned, mark-flags}

length-snoc : {A : Type 0} (l : List A) (x : A) → length (l ++ (x ∷ [])) ≡ suc (length l)
length-snoc l x = omega (arith, length-append l (x ∷ []))

flags-kept : {work after gs : List ℕ} → SameFlags work after → GrammarsHold work gs
    → GrammarsHold after gs
flags-kept s h = grammars-kept s.room (λ j a b. s.cells j a b) h

-- The store grows.
pub holds-grown : {work text text' : List ℕ} {stored more : ℕ} {w : Rows}
    → Grown text text' stored more → Holds work (in_store text stored) w
    → Holds work (in_store text' more) w
holds-grown g h =
    record {
      uris = uris-grown g h.uris;
      names = names-longer g h.names;
      values = stand-grown g h.values;
      learned = h.learned;
      grammars = h.grammars;
    }

-- ---- a URI

module _ (w : Rows) (x : Placed) (v : Valid (with_uri w x)) where
  uri-fresh : first_that (has_uri w.uris x.text) (length w.uris) ≡ 0
  unfolding with_uri
  uri-fresh =
      first-zero (has_uri w.uris x.text) (length w.uris)
      (λ i l. eq_text-no (uri_text w.uris i) x.text (λ e.
      let n : length (w.uris ++ (x ∷ [])) ≡ suc (length w.uris) = length-snoc w.uris x in
      let z : i ≡ length w.uris =
      v.distinct.uris i (length w.uris) (omega (arith, n)) (omega (arith, n))
      (ap (λ (p : Placed). p.text) (uri-old w.uris x i l) ∙ e
      ∙ sym (ap (λ (p : Placed). p.text) (uri-new w.uris x))) in
      omega arith))

  pub holds-uri : {work : List ℕ} {from : Stores} → Holds work from w
      → length w.uris < uri_rows
      → Lies (from.uris (length w.uris)).store (from.uris (length w.uris)).stored
      x.place (length x.text) x.text
      → Holds (uris.with_uri work (length w.uris) x.place (length x.text)
      (length w.uris)) from (with_uri w x)
  unfolding with_uri taught_in taught_of
  holds-uri {work} {from} h low lies =
      let n = length w.uris in
      let r : work_cells ≤ length work = h.uris.room in
      record {
        uris = subst
            (λ m. UrisHold (uris.with_uri work n x.place (length x.text) n) from.uris m
            (w.uris ++ (x ∷ []))) (sym (length-snoc w.uris x))
            (uris-more work n x.place (length x.text) n low h.uris x.text lies
            (sym (first-fresh w.uris x uri-fresh)));
        names = names-kept (uri-names work n x.place (length x.text) n r low) h.names;
        values = stand-kept (uri-values work n x.place (length x.text) n r low) h.values;
        learned = learned-kept (uri-learned work n x.place (length x.text) n r low)
            h.learned;
        grammars = flags-kept (uri-flags work n x.place (length x.text) n r low)
            h.grammars;
      }

-- ---- a local name

-- Learned productions mean the same rows as long as those stay.
pub taught-same : (w v : Rows) → Refers w → v.learned ≡ w.learned
    → ((n : ℕ) → n < length w.names → entry_at v.names n ≡ entry_at w.names n)
    → taught_in v ≡ taught_in w
unfolding taught_in taught_of
taught-same w v r e f =
    ap (map (taught_of v)) e
    ∙ map_same {P = LearntFits (length w.names)} (taught_of v) (taught_of w)
    (λ l g.
    ap (λ (y : Entry ℕ). record {
      site = l.site;
      kind = kind_at l.kind;
      name = l.name;
      uri_row = cond (carries (kind_at l.kind)) y.key 0;
      name_row = l.name;
    }) (f l.name g.name))
    (all-at no_learnt w.learned r.learned)

module _ (w : Rows) (r : Refers w) (u : ℕ) (x : Placed) (v : Valid (with_name w u x)) where
  abbrev new-name : Entry ℕ
  new-name = record { key = u; string = x }

  -- No name of the URI has the text.
  name-fresh : first_that (is_entry w.names u x.text) (length w.names) ≡ 0
  unfolding with_name name_at placed_at
  name-fresh =
      first-zero (is_entry w.names u x.text) (length w.names)
      (λ i l. split (is_entry w.names u x.text i)
      (λ e. absurd (same i l (is-entry w.names u x.text i e)))
      (λ e. e))
    where
      same : (i : ℕ) → i < length w.names
          → (key_at w.names i ≡ u) × (text_at w.names i ≡ x.text) → ⊥
      same i l (k, t) =
          let n : length (w.names ++ (new-name ∷ [])) ≡ suc (length w.names) =
          length-snoc w.names new-name in
          let old = entry_old w.names new-name i l in
          let new = entry_new w.names new-name in
          let q : (e : Entry ℕ) → QName Text =
          λ e. record { uri = uri_text w.uris e.key; local = e.string.text } in
          let a : q (entry_at w.names i) ≡ q new-name =
          ap (λ (m : ℕ). record { uri = uri_text w.uris m; local = text_at w.names i }) k
          ∙ ap (λ (y : Text). record { uri = uri_text w.uris u; local = y }) t in
          let z : i ≡ length w.names =
          v.distinct.names i (length w.names) (omega (arith, n)) (omega (arith, n))
          (ap q old ∙ a ∙ sym (ap q new)) in
          omega arith

  pub holds-name : {work : List ℕ} {from : Stores} → Holds work from w
      → length w.names < name_rows → u < uri_rows
      → Lies (from.names (length w.names)).store (from.names (length w.names)).stored
      x.place (length x.text) x.text
      → Holds (names.with_name work (length w.names) u x.place (length x.text)
      (hash_of x.text)) from (with_name w u x)
  unfolding with_name
  holds-name {work} {from} h few low lies =
      let n = length w.names in
      let m : work_cells ≤ length work = h.names.room in
      let a = x.place in
      let b = length x.text in
      let k = hash_of x.text in
      record {
        uris = uris-kept (name-uris work n u a b k m few low) h.uris;
        names = subst
            (λ i. NamesHold (names.with_name work n u a b k) from.names i
            (w.names ++ (new-name ∷ []))) (sym (length-snoc w.names new-name))
            (names_more work n u a b k few low h.names x.text lies refl name-fresh);
        values = stand-kept (name-values work n u a b k m few low) h.values;
        learned = subst (LearnedHold (names.with_name work n u a b k) (length w.learned))
            (sym (taught-same w (with_name w u x) r refl
            (λ i l. entry_old w.names new-name i l)))
            (learned-kept (name-learned work n u a b k m few low) h.learned);
        grammars = flags-kept (name-flags work n u a b k m few low) h.grammars;
      }

-- ---- a value

-- The ring has a row for every value that is present.
pub window-near : {cap : Option ℕ} {n : ℕ} → Windowed cap n → n ≤ replaced cap n + value_ring
unfolding max_values
window-near {cap} {n} w = omega (arith, w.few, replaced-few cap n)

module _ (w : Rows) (k : ℕ) (x : Placed) (v : Valid (with_value w k x)) where
  values-differ : Differ (gone_in (with_value w k x)) (with_value w k x).values
  values-differ =
      record {
        texts = λ i j l a b e.
            let z : i ≡ j = v.distinct.values i j l (omega arith) (omega arith) b e in omega arith;
      }

  pub holds-value : {work : List ℕ} {from : Stores} → Holds work from w
      → length w.values < numbers → k < name_rows
      → Lies from.values.store from.values.stored x.place (length x.text) x.text
      → Holds (values.with_value work (length w.values) k x.place (length x.text)
      (hash_of x.text)) from (with_value w k x)
  unfolding with_value taught_in taught_of
  holds-value {work} {from} h few low lies =
      let n = length w.values in
      let m : work_cells ≤ length work = h.names.room in
      let a = x.place in
      let b = length x.text in
      let g = hash_of x.text in
      let e : Entry ℕ = record { key = k; string = x } in
      let bound : Capacity w.capacity (length (w.values ++ (e ∷ []))) =
      capacity-is w.capacity (length (w.values ++ (e ∷ []))) v.window.closed in
      record {
        uris = uris-kept (value-uris work n k a b g m low) h.uris;
        names = names-kept (value-names work n k a b g m low) h.names;
        values = record {
          holds = subst
              (λ i. ValuesHold (values.with_value work n k a b g) from.values.store
              from.values.stored i (w.values ++ (e ∷ []))) (sym (length-snoc w.values e))
              (values-more work n k a b g low h.values.holds x.text few lies refl);
          differ = values-differ;
          capacity = bound;
          gone = refl;
          new = newest-is bound;
          near = window-near v.window;
        };
        learned = learned-kept (value-learned work n k a b g m low) h.learned;
        grammars = flags-kept (value-flags work n k a b g m low) h.grammars;
      }

-- ---- a learned production

module _ (w : Rows) (l : Learnt) where
  taught-more : taught_in (with_learned w l) ≡ taught_in w ++ (taught_of w l ∷ [])
  unfolding taught_in taught_of with_learned
  taught-more = map_snoc (taught_of w) w.learned l

  pub holds-learned : {work : List ℕ} {from : Stores} → Holds work from w
      → length w.learned < learned_rows → l.site < sites → l.name < name_rows
      → (taught_of w l).uri_row < uri_rows
      → Holds (learned.with_learned work (length w.learned) l.site
      (kind_number (kind_at l.kind)) l.name (taught_of w l).uri_row l.name) from
      (with_learned w l)
  unfolding with_learned taught_of
  holds-learned {work} {from} h few low name_low uri_low =
      let n = length w.learned in
      let m : work_cells ≤ length work = h.names.room in
      let k = kind_at l.kind in
      let u = (taught_of w l).uri_row in
      record {
        uris = uris-kept (learnt-uris work n l.site k l.name u l.name m few low) h.uris;
        names = names-kept (learnt-names work n l.site k l.name u l.name m few low)
            h.names;
        values = stand-kept (learnt-values work n l.site k l.name u l.name m few low)
            h.values;
        learned = subst
            (λ rs. LearnedHold
            (learned.with_learned work n l.site (kind_number k) l.name u l.name)
            (length (w.learned ++ (l ∷ []))) rs) (sym taught-more)
            (subst
            (λ i. LearnedHold
            (learned.with_learned work n l.site (kind_number k) l.name u l.name) i
            (taught_in w ++ (taught_of w l ∷ []))) (sym (length-snoc w.learned l))
            (learned-more work n l.site k l.name u l.name few low h.learned name_low
            uri_low name_low));
        grammars = flags-kept (learnt-flags work n l.site k l.name u l.name m few low)
            h.grammars;
      }

-- ---- an element grammar

pub among-row : (gs : List ℕ) (n : ℕ) → has_row gs n ≡ is_among n gs
unfolding has_row is_among
among-row [] n = refl
among-row (g ∷ gs) n = rw (among-row gs n)

module _ (w : Rows) (k : ℕ) (fresh : is_among k w.grammars ≡ false) where
  pub holds-grammar : {work : List ℕ} {from : Stores} → Holds work from w → k < name_rows
      → Holds (with_grammar_of work k) from (with_grammar w k)
  unfolding with_grammar taught_in taught_of
  holds-grammar {work} {from} h low =
      let m : work_cells ≤ length work = h.names.room in
      record {
        uris = uris-kept (grammar-uris work k m low) h.uris;
        names = names-kept (grammar-names work k m low) h.names;
        values = stand-kept (grammar-values work k m low) h.values;
        learned = learned-kept (grammar-learned work k m low) h.learned;
        grammars = subst (GrammarsHold (with_grammar_of work k))
            (ap (λ b. cond b w.grammars (w.grammars ++ (k ∷ [])))
            (among-row w.grammars k ∙ fresh)) (grammars-more work k low h.grammars);
      }

-- ---- the attributes of a start tag

module _ (w : Rows) (ns : List ℕ) where
  pub holds-attributes : {work : List ℕ} {from : Stores} → Holds work from w
      → Holds work from (with_attributes ns w)
  unfolding with_attributes taught_in taught_of
  holds-attributes h =
      record {
        uris = h.uris;
        names = h.names;
        values = h.values;
        learned = h.learned;
        grammars = h.grammars;
      }

pub holds-mark : {work : List ℕ} {from : Stores} {w : Rows} (tag k : ℕ) → Holds work from w
    → k < name_rows → Holds (with_mark work tag k) from w
holds-mark {work} tag k h low =
    let m : work_cells ≤ length work = h.names.room in
    record {
      uris = uris-kept (mark-uris work tag k m low) h.uris;
      names = names-kept (mark-names work tag k m low) h.names;
      values = stand-kept (mark-values work tag k m low) h.values;
      learned = learned-kept (mark-learned work tag k m low) h.learned;
      grammars = flags-kept (mark-flags work tag k m low) h.grammars;
    }
