-- What a row that joins one table leaves of the others: all of their cells.
use Prim.Native.Nat.{ℕ, ◌+◌, ◌≤◌, ◌<◌}
use native.Mathlib.Omega.{arith}
use mathlib.Core.Path.{◌≡◌}
use mathlib.Core.List.{List}
use lib.ListN.{length, get_or}
use Rattle.spec_exi.specs.Event.{Kind}
use Rattle.spec_exi.specs.Grammar.{kind_number}
use Rattle.mem_layout.specs.Layout.{value_code_heads, value_buckets, learned_name_heads}
use Rattle.mem_layout.specs.Layout.{name_text_heads, value_counts, learned_counts, grammar_flags}
use Rattle.mem_layout.specs.Layout.{name_counts, name_marks, uri_places, name_places, learned_name_codes}
use Rattle.mem_layout.specs.Layout.{value_places, prefixes, uri_rows, name_rows, learned_rows, sites}
use Rattle.mem_layout.specs.Layout.{prefix_counts, work_cells}
use Rattle.mem_names.specs.Uris.{with_uri}
use Rattle.mem_names.specs.Names.{with_name}
use Rattle.mem_names.proofs.Uris.{SameUris, uri-length, uri-other}
use Rattle.mem_names.proofs.Joined as names
use Rattle.mem_names.proofs.Joined.{SameNames}
use Rattle.mem_marks.specs.Marks.{with_mark}
use Rattle.mem_marks.proofs.Marks.{SameMarks, mark-length, mark-other}
use Rattle.mem_values.specs.Values.{with_value}
use Rattle.mem_values.proofs.Joined as values
use Rattle.mem_values.proofs.Joined.{SameValues}
use Rattle.mem_learned.specs.Learned.{with_learned}
use Rattle.mem_learned.specs.Grammars.{with_grammar_of}
use Rattle.mem_learned.proofs.Joined as learned
use Rattle.mem_learned.proofs.Joined.{SameLearned}
use Rattle.mem_learned.proofs.Grammars.{grammar-length, grammar-other}

-- The flags of the element grammars are the same.
pub record SameFlags (work after : List ℕ) : Type 0 where
  pub room : work_cells ≤ length after
  pub cells : (j : ℕ) → grammar_flags ≤ j → j < name_counts → get_or after j 0 ≡ get_or work j 0

-- ---- a URI

module _ (work : List ℕ) (n place size first : ℕ) (room : work_cells ≤ length work)
    (low : n < uri_rows) where
  abbrev uri-room : work_cells ≤ length (with_uri work n place size first)
  uri-room = omega (arith, uri-length work n place size first)

  abbrev uri-off : (j : ℕ) → (uri_places ≤ j → name_places ≤ j)
      → get_or (with_uri work n place size first) j 0 ≡ get_or work j 0
  uri-off j f = uri-other work n place size first low j f

  pub uri-names : SameNames work (with_uri work n place size first)
  uri-names =
      record {
        room = uri-room;
        heads = λ j a b. uri-off j (λ p. omega arith);
        counts = λ j a b. uri-off j (λ p. omega arith);
        columns = λ j a b. uri-off j (λ p. omega arith);
      }

  pub uri-values : SameValues work (with_uri work n place size first)
  uri-values =
      record {
        room = uri-room;
        heads = λ j a. uri-off j (λ p. omega arith);
        counts = λ j a b. uri-off j (λ p. omega arith);
        columns = λ j a b. uri-off j (λ p. omega arith);
      }

  pub uri-learned : SameLearned work (with_uri work n place size first)
  uri-learned =
      record {
        room = uri-room;
        heads = λ j a b. uri-off j (λ p. omega arith);
        counts = λ j a b. uri-off j (λ p. omega arith);
        columns = λ j a b. uri-off j (λ p. omega arith);
      }

  pub uri-flags : SameFlags work (with_uri work n place size first)
  uri-flags = record { room = uri-room; cells = λ j a b. uri-off j (λ p. omega arith) }

  pub uri-marks : SameMarks work (with_uri work n place size first)
  uri-marks = record { room = uri-room; cells = λ j a b. uri-off j (λ p. omega arith) }

-- ---- a local name

module _ (work : List ℕ) (n uri place size h : ℕ) (room : work_cells ≤ length work)
    (few : n < name_rows) (low : uri < uri_rows) where
  abbrev name-room : work_cells ≤ length (with_name work n uri place size h)
  name-room = omega (arith, names.added-length work n uri place size h)

  abbrev name-off : (j : ℕ) → (name_text_heads ≤ j → value_counts ≤ j)
      → (name_counts ≤ j → name_marks ≤ j) → (name_places ≤ j → learned_name_codes ≤ j)
      → get_or (with_name work n uri place size h) j 0 ≡ get_or work j 0
  name-off j a b c = names.added-other work n uri place size h few low j a b c

  pub name-uris : SameUris work (with_name work n uri place size h)
  name-uris =
      record {
        room = name-room;
        cells = λ j a b. name-off j (λ p. omega arith) (λ p. omega arith) (λ p. omega arith);
      }

  pub name-values : SameValues work (with_name work n uri place size h)
  name-values =
      record {
        room = name-room;
        heads = λ j a. name-off j (λ p. omega arith) (λ p. omega arith) (λ p. omega arith);
        counts = λ j a b. name-off j (λ p. omega arith) (λ p. omega arith) (λ p. omega arith);
        columns = λ j a b. name-off j (λ p. omega arith) (λ p. omega arith) (λ p. omega arith);
      }

  pub name-learned : SameLearned work (with_name work n uri place size h)
  name-learned =
      record {
        room = name-room;
        heads = λ j a b. name-off j (λ p. omega arith) (λ p. omega arith) (λ p. omega arith);
        counts = λ j a b. name-off j (λ p. omega arith) (λ p. omega arith) (λ p. omega arith);
        columns = λ j a b. name-off j (λ p. omega arith) (λ p. omega arith) (λ p. omega arith);
      }

  pub name-flags : SameFlags work (with_name work n uri place size h)
  name-flags =
      record {
        room = name-room;
        cells = λ j a b. name-off j (λ p. omega arith) (λ p. omega arith) (λ p. omega arith);
      }

  pub name-marks : SameMarks work (with_name work n uri place size h)
  name-marks =
      record {
        room = name-room;
        cells = λ j a b. name-off j (λ p. omega arith) (λ p. omega arith) (λ p. omega arith);
      }

-- ---- a value

module _ (work : List ℕ) (n owner place size h : ℕ) (room : work_cells ≤ length work)
    (low : owner < name_rows) where
  abbrev value_room : work_cells ≤ length (with_value work n owner place size h)
  value_room = omega (arith, values.added-length work n owner place size h)

  abbrev value-off : (j : ℕ) → value_code_heads + value_buckets ≤ j
      → (value_counts ≤ j → value_counts + name_rows ≤ j) → (value_places ≤ j → prefixes ≤ j)
      → get_or (with_value work n owner place size h) j 0 ≡ get_or work j 0
  value-off j a b c = values.added-other work n owner place size h low j a b c

  pub value-uris : SameUris work (with_value work n owner place size h)
  value-uris =
      record {
        room = value_room;
        cells = λ j a b. value-off j (omega arith) (λ p. omega arith) (λ p. omega arith);
      }

  pub value-names : SameNames work (with_value work n owner place size h)
  value-names =
      record {
        room = value_room;
        heads = λ j a b. value-off j (omega arith) (λ p. omega arith) (λ p. omega arith);
        counts = λ j a b. value-off j (omega arith) (λ p. omega arith) (λ p. omega arith);
        columns = λ j a b. value-off j (omega arith) (λ p. omega arith) (λ p. omega arith);
      }

  pub value-learned : SameLearned work (with_value work n owner place size h)
  value-learned =
      record {
        room = value_room;
        heads = λ j a b. value-off j (omega arith) (λ p. omega arith) (λ p. omega arith);
        counts = λ j a b. value-off j (omega arith) (λ p. omega arith) (λ p. omega arith);
        columns = λ j a b. value-off j (omega arith) (λ p. omega arith) (λ p. omega arith);
      }

  pub value-flags : SameFlags work (with_value work n owner place size h)
  value-flags =
      record {
        room = value_room;
        cells = λ j a b. value-off j (omega arith) (λ p. omega arith) (λ p. omega arith);
      }

  pub value-marks : SameMarks work (with_value work n owner place size h)
  value-marks =
      record {
        room = value_room;
        cells = λ j a b. value-off j (omega arith) (λ p. omega arith) (λ p. omega arith);
      }

-- ---- a learned production

module _ (work : List ℕ) (n site : ℕ) (kind : Kind) (name uri local : ℕ)
    (room : work_cells ≤ length work) (few : n < learned_rows) (low : site < sites) where
  abbrev learnt : List ℕ
  learnt = with_learned work n site (kind_number kind) name uri local

  abbrev learnt-room : work_cells ≤ length learnt
  learnt-room = omega (arith, learned.added-length work n site kind name uri local)

  abbrev learnt-off : (j : ℕ) → (learned_name_heads ≤ j → name_text_heads ≤ j)
      → (learned_counts ≤ j → grammar_flags ≤ j) → (learned_name_codes ≤ j → value_places ≤ j)
      → get_or learnt j 0 ≡ get_or work j 0
  learnt-off j a b c = learned.added-other work n site kind name uri local few low j a b c

  pub learnt-uris : SameUris work learnt
  learnt-uris =
      record {
        room = learnt-room;
        cells = λ j a b. learnt-off j (λ p. omega arith) (λ p. omega arith) (λ p. omega arith);
      }

  pub learnt-names : SameNames work learnt
  learnt-names =
      record {
        room = learnt-room;
        heads = λ j a b. learnt-off j (λ p. omega arith) (λ p. omega arith) (λ p. omega arith);
        counts = λ j a b. learnt-off j (λ p. omega arith) (λ p. omega arith) (λ p. omega arith);
        columns = λ j a b. learnt-off j (λ p. omega arith) (λ p. omega arith) (λ p. omega arith);
      }

  pub learnt-values : SameValues work learnt
  learnt-values =
      record {
        room = learnt-room;
        heads = λ j a. learnt-off j (λ p. omega arith) (λ p. omega arith) (λ p. omega arith);
        counts = λ j a b. learnt-off j (λ p. omega arith) (λ p. omega arith) (λ p. omega arith);
        columns = λ j a b. learnt-off j (λ p. omega arith) (λ p. omega arith) (λ p. omega arith);
      }

  pub learnt-flags : SameFlags work learnt
  learnt-flags =
      record {
        room = learnt-room;
        cells = λ j a b. learnt-off j (λ p. omega arith) (λ p. omega arith) (λ p. omega arith);
      }

  pub learnt-marks : SameMarks work learnt
  learnt-marks =
      record {
        room = learnt-room;
        cells = λ j a b. learnt-off j (λ p. omega arith) (λ p. omega arith) (λ p. omega arith);
      }

-- ---- an element grammar

module _ (work : List ℕ) (k : ℕ) (room : work_cells ≤ length work) (low : k < name_rows) where
  abbrev grammar-room : work_cells ≤ length (with_grammar_of work k)
  grammar-room = omega (arith, grammar-length work k)

  abbrev grammar-off : (j : ℕ) → (grammar_flags ≤ j → name_counts ≤ j)
      → get_or (with_grammar_of work k) j 0 ≡ get_or work j 0
  grammar-off j f = grammar-other work k low j f

  pub grammar-uris : SameUris work (with_grammar_of work k)
  grammar-uris = record { room = grammar-room; cells = λ j a b. grammar-off j (λ p. omega arith) }

  pub grammar-names : SameNames work (with_grammar_of work k)
  grammar-names =
      record {
        room = grammar-room;
        heads = λ j a b. grammar-off j (λ p. omega arith);
        counts = λ j a b. grammar-off j (λ p. omega arith);
        columns = λ j a b. grammar-off j (λ p. omega arith);
      }

  pub grammar-values : SameValues work (with_grammar_of work k)
  grammar-values =
      record {
        room = grammar-room;
        heads = λ j a. grammar-off j (λ p. omega arith);
        counts = λ j a b. grammar-off j (λ p. omega arith);
        columns = λ j a b. grammar-off j (λ p. omega arith);
      }

  pub grammar-learned : SameLearned work (with_grammar_of work k)
  grammar-learned =
      record {
        room = grammar-room;
        heads = λ j a b. grammar-off j (λ p. omega arith);
        counts = λ j a b. grammar-off j (λ p. omega arith);
        columns = λ j a b. grammar-off j (λ p. omega arith);
      }

  pub grammar-marks : SameMarks work (with_grammar_of work k)
  grammar-marks = record { room = grammar-room; cells = λ j a b. grammar-off j (λ p. omega arith) }

-- ---- a mark

module _ (work : List ℕ) (tag k : ℕ) (room : work_cells ≤ length work) (low : k < name_rows) where
  abbrev mark-room : work_cells ≤ length (with_mark work tag k)
  mark-room = omega (arith, mark-length work tag k)

  abbrev mark-off : (j : ℕ) → (name_marks ≤ j → prefix_counts ≤ j)
      → get_or (with_mark work tag k) j 0 ≡ get_or work j 0
  mark-off j f = mark-other work tag k low j f

  pub mark-uris : SameUris work (with_mark work tag k)
  mark-uris = record { room = mark-room; cells = λ j a b. mark-off j (λ p. omega arith) }

  pub mark-names : SameNames work (with_mark work tag k)
  mark-names =
      record {
        room = mark-room;
        heads = λ j a b. mark-off j (λ p. omega arith);
        counts = λ j a b. mark-off j (λ p. omega arith);
        columns = λ j a b. mark-off j (λ p. omega arith);
      }

  pub mark-values : SameValues work (with_mark work tag k)
  mark-values =
      record {
        room = mark-room;
        heads = λ j a. mark-off j (λ p. omega arith);
        counts = λ j a b. mark-off j (λ p. omega arith);
        columns = λ j a b. mark-off j (λ p. omega arith);
      }

  pub mark-learned : SameLearned work (with_mark work tag k)
  mark-learned =
      record {
        room = mark-room;
        heads = λ j a b. mark-off j (λ p. omega arith);
        counts = λ j a b. mark-off j (λ p. omega arith);
        columns = λ j a b. mark-off j (λ p. omega arith);
      }

  pub mark-flags : SameFlags work (with_mark work tag k)
  mark-flags = record { room = mark-room; cells = λ j a b. mark-off j (λ p. omega arith) }
