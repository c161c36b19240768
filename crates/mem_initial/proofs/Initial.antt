-- Lent memory with the initial entries is the definitions' start.
use Prim.Native.Nat.{ℕ, ◌+◌, ◌-◌, ◌≤◌, ◌<◌}
use native.Mathlib.Omega.{arith}
use native.Mathlib.Nat.{le_refl}
use mathlib.Core.Path.{◌≡◌, refl, sym, ap, subst, ◌∙◌}
use mathlib.Core.List.{List, [], ◌++◌, append-nil}
use mathlib.Core.Option.{Option}
use lib.ListN.{length, get_or, take, drop, replicate, length-append, length-drop, length-replicate}
use lib.ListN.{get_or-replicate, get_or-append}
use lib.Seq.{length-take-le, take_at, get_or-append-add}
use lib.Dec.{T}
use Rattle.text.specs.Text.{Text, text, eq_text}
use Rattle.text.proofs.Names.{name_definitions}
use Rattle.spec_exi.specs.Sizes.{max_store, max_uris, max_names, max_values, max_learned, max_grammars}
use Rattle.spec_exi.specs.Sizes.{max_open, max_events}
use Rattle.spec_exi.specs.Settings.{bound_of, Settings}
use Rattle.spec_exi.specs.Event.{eq_name}
use Rattle.spec_exi.specs.Tables.{name_allowed, new_uri, new_name, new_entry, new_value, with_values, laid}
use Rattle.spec_exi.specs.Tables.{added}
use Rattle.spec_exi.specs.Tables.{xml_uri, xsi_uri, initial_entries, added_all, start_tables}
use Rattle.spec_exi.specs.Grammar.{empty_tag}
use Rattle.spec_exi.specs.Context.{start}
use Rattle.spec_exi.specs.Alike.{Alike}
use Rattle.spec_exi.proofs.Alike.{alike_same}
use Rattle.settings.specs.declared.Settings as declared
use Rattle.settings.specs.Meant.{settings_from}
use Rattle.mem_layout.specs.Layout.{value_counts, learned_counts, grammar_flags, name_counts, name_marks}
use Rattle.mem_layout.specs.Layout.{zero_from, zero_to, work_cells, opening_uris, opening_names}
use Rattle.mem_entries.specs.Texts.{up_to}
use Rattle.mem_chain.specs.Chain.{first_that}
use Rattle.mem_entries.specs.Entries.{entry_at, named}
use Rattle.mem_names.specs.Uris.{uri_at}
use Rattle.mem_names.proofs.Uris.{uris-none}
use Rattle.mem_names.proofs.Joined.{names-none}
use Rattle.mem_marks.proofs.Marks.{marks-none}
use Rattle.mem_values.proofs.Order.{newest-is}
use Rattle.mem_values.proofs.Stands.{capacity-is}
use Rattle.mem_values.proofs.Joined.{values-none}
use Rattle.mem_learned.proofs.Joined.{learned-none}
use Rattle.mem_learned.proofs.Grammars.{grammars-none}
use Rattle.mem_rows.specs.Rows.{Rows, placed_at, name_at, tables_of, backward, learned_of, grammars_of}
use Rattle.mem_rows.specs.Rows.{tag_in, is_among}
use Rattle.mem_rows.specs.Rows.{state_of, context_of, with_uri, with_name}
use Rattle.mem_rows.specs.Valid.{Valid}
use Rattle.mem_rows.proofs.Alike.{rows-context}
use Rattle.mem_state.specs.Holds.{taught_in, Stores, in_store, Holds, Bounded, Topped, Represents}
use Rattle.mem_state.specs.Holds.{context_at}
use Rattle.event_code.specs.Numbers.{in_document}
use Rattle.mem_initial.specs.Initial.{zeroed, initial_uris, initial_names, together, uris_text, initial_size}
use Rattle.mem_initial.specs.Initial.{names_text, initial_text, with_text, uris_laid, names_laid}
use Rattle.mem_initial.specs.Initial.{with_rows, plus_uris, plus_names, no_rows, initial_rows}
use Rattle.mem_initial.specs.Initial.{start_rows, start_at}
use Rattle.mem_initial.proofs.Turn.{text-length}
use Rattle.mem_initial.proofs.Texts.{Has, first-has, rest_has, text-same-length, text-has}
use Rattle.mem_initial.proofs.Joins.{Stands, fresh_uri, fresh_uris, fresh_name, fresh_names}
use Rattle.mem_initial.proofs.Joins.{uris-stand, names_stand}

-- ---- no row

none-valid : (l c : Option ℕ) → Valid (no_rows l c)
none-valid l c =
    record {
      refers = record {
        names = record { below = λ i h. absurd (omega arith) };
        values = record { below = λ i h. absurd (omega arith) };
        learned = λ i h. absurd (omega arith);
        grammars = λ i h. absurd (omega arith);
        attributes = λ i h. absurd (omega arith);
      };
      window = record { closed = λ z. refl; few = omega arith };
      distinct = record {
        uris = λ i j h k e. absurd (omega arith);
        names = λ i j h k e. absurd (omega arith);
        values = λ i j a h b k e. absurd (omega arith);
        learned = λ i j h k e. absurd (omega arith);
        grammars = λ i j h k e. absurd (omega arith);
      };
      judged = record { names = λ n h. absurd (omega arith) };
    }

module _ (work : List ℕ) (room : work_cells ≤ length work)
    (zeros : (j : ℕ) → zero_from ≤ j → j < zero_to → get_or work j 0 ≡ 0) where
  none-holds : (l c : Option ℕ) (from : Stores)
      → from.values.stored ≤ length from.values.store → Holds work from (no_rows l c)
  unfolding taught_in
  none-holds l c from inside =
      record {
        uris = uris-none work from.uris room;
        names = names-none work from.names room
            (λ k h. zeros (name_counts + k) (omega arith) (omega arith));
        values = record {
          holds = values-none work from.values.store from.values.stored room inside
              (λ k h. zeros (value_counts + k) (omega arith) (omega arith));
          differ = record { texts = λ i j _ h k e. absurd (omega arith) };
          capacity = capacity-is c 0 (λ z. refl);
          gone = refl;
          new = newest-is (capacity-is c 0 (λ z. refl));
          near = omega arith;
        };
        learned = learned-none work room
            (λ k h. zeros (learned_counts + k) (omega arith) (omega arith));
        grammars = grammars-none work room
            (λ k h. zeros (grammar_flags + k) (omega arith) (omega arith));
      }

-- ---- the initial entries are fresh one after the other, by computation

uris-fresh : (l c : Option ℕ) (origin : ℕ) → T (fresh_uris (no_rows l c) origin 0 initial_uris)
unfolding fresh_uris fresh_uri first_that uri_at eq_text with_uri initial_uris xml_uri xsi_uri text
uris-fresh l c origin = tt

uris-counted : (l c : Option ℕ) (origin : ℕ)
    → length (plus_uris (no_rows l c) origin 0 initial_uris).names ≡ 0
unfolding plus_uris with_uri initial_uris
uris-counted l c origin = refl

names_fresh : (l c : Option ℕ) (origin : ℕ)
    → T (fresh_names (plus_uris (no_rows l c) origin 0 initial_uris) origin (length uris_text)
    initial_names)
unfolding fresh_names fresh_name first_that eq_name name_at placed_at entry_at uri_at eq_text name_allowed
    name_definitions with_uri with_name plus_uris uris_text together initial_uris initial_names xml_uri xsi_uri
    text
names_fresh l c origin = tt

-- ---- memory with them

-- The first rows lie in a store that has the initial texts at the origin.
pub record Sourced (from : Stores) (origin : ℕ) : Type 0 where
  pub store : List ℕ
  pub stored : ℕ
  pub has : Has store stored origin initial_text
  pub uris : (i : ℕ) → i < opening_uris → from.uris i ≡ up_to store stored
  pub names : (i : ℕ) → i < opening_names → from.names i ≡ up_to store stored
  pub values : from.values.stored ≤ length from.values.store

-- All rows lie in a store that begins with them.
pub store-sourced : (text : List ℕ) → initial_size ≤ length text
    → Sourced (in_store (with_text text 0) initial_size) 0
store-sourced text fits =
    record {
      store = with_text text 0;
      stored = initial_size;
      has = text-has text 0 fits initial_size (omega arith) fits;
      uris = λ i l. refl;
      names = λ i l. refl;
      values = omega (arith, text-same-length text 0 fits);
    }

-- The first rows lie in a store of their own.
pub opening-sourced : {from : Stores}
    → ((i : ℕ) → i < opening_uris → from.uris i ≡ up_to initial_text (length initial_text))
    → ((i : ℕ) → i < opening_names → from.names i ≡ up_to initial_text (length initial_text))
    → from.values.stored ≤ length from.values.store → Sourced from 0
opening-sourced uris names values =
    record {
      store = initial_text;
      stored = length initial_text;
      has =
          record {
            before = [];
            after = [];
            is = sym (append-nil initial_text);
            starts = refl;
            ends = omega arith;
            inside = le_refl (length initial_text);
          };
      uris = uris;
      names = names;
      values = values;
    }

-- The counts are cleared.
pub counts_zero : (work : List ℕ) → work_cells ≤ length work → (j : ℕ) → zero_from ≤ j → j < zero_to
    → get_or (zeroed work) j 0 ≡ 0
unfolding zeroed
counts_zero work room j l h =
    let kept : List ℕ = take zero_from work in
    let zeros : List ℕ = replicate (zero_to - zero_from) 0 in
    let n : length kept ≡ zero_from = length-take-le zero_from work (omega arith) in
    let m : length zeros ≡ zero_to - zero_from = length-replicate {A = ℕ} (zero_to - zero_from) 0 in
    let e : j ≡ length kept + (j - zero_from) = omega arith in
    get_or-append (kept ++ zeros) (drop zero_to work) 0 j
    (omega (arith, length-append kept zeros))
    ∙ ap (λ i. get_or (kept ++ zeros) i 0) e
    ∙ get_or-append-add kept zeros (j - zero_from) 0
    ∙ get_or-replicate (zero_to - zero_from) (j - zero_from) 0 0 (omega arith)

pub zeroed-size : (work : List ℕ) → work_cells ≤ length work → length (zeroed work) ≡ length work
unfolding zeroed
zeroed-size work room =
    let kept : List ℕ = take zero_from work in
    let zeros : List ℕ = replicate (zero_to - zero_from) 0 in
    omega (
      arith,
      length-append (kept ++ zeros) (drop zero_to work),
      length-append kept zeros,
      length-take-le zero_from work (omega arith),
      length-replicate {A = ℕ} (zero_to - zero_from) 0,
      length-drop zero_to work,
    )

module _ (work : List ℕ) (room : work_cells ≤ length work)
    (zeros : (j : ℕ) → zero_from ≤ j → j < zero_to → get_or work j 0 ≡ 0) {from : Stores} where
  pub initial-stands : (l c : Option ℕ) (origin : ℕ) → Sourced from origin
      → Stands (with_rows work origin) from (initial_rows l c origin)
  unfolding with_rows uris_laid names_laid initial_rows initial_text uris_text names_text initial_uris
      initial_names
  initial-stands l c origin f =
      names_stand from f.store f.stored origin initial_names (length uris_text) 0
      (uris-stand from f.store f.stored origin initial_uris 0 0
      (record {
        valid = none-valid l c;
        holds = none-holds work room zeros l c from f.values;
        marks = marks-none work room (λ k h. zeros (name_marks + k) (omega arith) (omega arith))
            (omega arith);
      })
      refl f.uris (first-has uris_text names_text f.has (origin + 0) (omega arith))
      (uris-fresh l c origin))
      (sym (uris-counted l c origin)) f.names
      (rest_has uris_text names_text f.has (origin + length uris_text) refl) (names_fresh l c origin)

  pub start-represents : Sourced from 0 → (at longest capacity : ℕ)
      → Represents (with_rows work 0) from (start_at at longest capacity) (start_rows longest capacity)
      []
  unfolding start_at initial_rows plus_uris plus_names with_uri with_name initial_uris initial_names is_among
  start-represents f at longest capacity =
      let s = initial-stands (bound_of longest) (bound_of capacity) 0 f in
      record {
        valid = s.valid;
        holds = s.holds;
        counts = record {
          uris = refl;
          names = refl;
          values = refl;
          learned = refl;
          grammars = refl;
          longest = refl;
          capacity = refl;
        };
        opens = record { size = refl; rows = λ i h. absurd (omega arith) };
        marks = s.marks;
      }

pub start-topped : (at longest capacity : ℕ) → Topped (start_at at longest capacity) []
unfolding start_at
start-topped at longest capacity = record { is = λ h. absurd (omega arith) }

pub start-bounded : (at longest capacity : ℕ) → capacity ≤ max_values + 1
    → Bounded (start_at at longest capacity)
unfolding start_at max_store max_uris max_names max_values max_learned max_grammars max_open max_events
start-bounded at longest capacity few =
    record {
      stored = omega arith;
      uris = omega arith;
      names = omega arith;
      values = omega arith;
      learned = omega arith;
      grammars = omega arith;
      top = omega arith;
      depth = omega arith;
      fits = record {
        known = omega arith;
        outer = λ h. refl;
        inner = λ h. absurd (omega arith);
      };
      tag = omega arith;
      capacity = few;
    }

-- ---- what it means

rows-mean : (s : Settings)
    → context_of (initial_rows s.longest s.capacity 0) initial_text 0 [] ≡ start s
unfolding context_of state_of tables_of learned_of backward grammars_of tag_in empty_tag named name_at
    placed_at entry_at uri_at initial_rows plus_uris plus_names with_uri with_name initial_text uris_text
    names_text together initial_uris initial_names start start_tables added_all initial_entries added
    new_uri new_name new_entry new_value with_values laid xml_uri xsi_uri text
rows-mean s = refl

text-first : (text : List ℕ) → take initial_size (with_text text 0) ≡ initial_text
unfolding with_text
text-first text = take_at initial_text (drop initial_size text) initial_size text-length

-- The settings have these bounds.
pub record BoundsOf (s : Settings) (longest capacity : ℕ) : Type 0 where
  pub longest-is : bound_of longest ≡ s.longest
  pub capacity-is : bound_of capacity ≡ s.capacity

-- Those of settings are their numbers.
pub bounds-from : (o : declared.Settings) → BoundsOf (settings_from o) o.longest o.capacity
unfolding settings_from
bounds-from o = record { longest-is = refl; capacity-is = refl }

start-rows : {s : Settings} {longest capacity : ℕ} → BoundsOf s longest capacity
    → start_rows longest capacity ≡ initial_rows s.longest s.capacity 0
start-rows {s} {longest} {capacity} b =
    ap (λ l. initial_rows l (bound_of capacity) 0) b.longest-is
    ∙ ap (λ c. initial_rows s.longest c 0) b.capacity-is

pub start-means : (text : List ℕ) (at : ℕ) {s : Settings} {longest capacity : ℕ}
    → BoundsOf s longest capacity
    → context_at (with_text text 0) (start_at at longest capacity) (start_rows longest capacity) []
    ≡ start s
unfolding start_at
start-means text at {s} {longest} {capacity} b =
    ap (λ l. context_of (start_rows longest capacity) l 0 []) (text-first text)
    ∙ ap (λ (w : Rows). context_of w initial_text 0 []) (start-rows b) ∙ rows-mean s

-- And with any store of that length, up to the places of strings.
pub start-alike : (store : Text) → length store ≡ initial_size
    → {s : Settings} {longest capacity : ℕ} → BoundsOf s longest capacity
    → Alike (context_of (start_rows longest capacity) store in_document []) (start s)
start-alike store e {s} {longest} {capacity} b =
    subst (Alike (context_of (start_rows longest capacity) store in_document []))
    (ap (λ (w : Rows). context_of w initial_text 0 []) (start-rows b) ∙ rows-mean s)
    (rows-context (alike_same (start_rows longest capacity)) store initial_text (e ∙ sym text-length)
    in_document [])
