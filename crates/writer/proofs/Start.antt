-- Work memory with the initial entries, after the header: the events can be written, and the
-- context is the definitions' start, up to the places of strings.
use Prim.Native.Nat.{ℕ, zero, suc, ◌+◌, ◌≤◌, ◌<◌}
use native.Mathlib.Omega.{arith}
use native.Mathlib.Nat.{le_refl}
use mathlib.Core.Path.{◌≡◌, refl, sym, ap, subst, ◌∙◌}
use mathlib.Core.Bool.{true, ◌&&◌, and-eq-true_iff}
use mathlib.Core.List.{List}
use lib.ListN.{length, get_or, replicate, length-replicate}
use lib.Dec.{leb}
use borrow.Author.Tests.{leb-true, lt-ltb}
use Rattle.spec_fields.proofs.Tests.{split}
use Rattle.spec_fields.proofs.Pack.{length-unpack}
use Rattle.text.specs.Text.{Text, text, all_chars, is_char}
use Rattle.spec_exi.specs.Settings.{Settings, header_of}
use Rattle.spec_exi.specs.Sizes.{sizes, max_events, max_string, max_open, max_values, reader_work}
use Rattle.spec_exi.specs.Sizes.{writer_work}
use Rattle.spec_exi.specs.Tables.{xml_uri, xsi_uri}
use Rattle.spec_exi.specs.Context.{start}
use Rattle.spec_exi.specs.Writer.{Stored, write_events}
use Rattle.spec_exi.proofs.Alike.{write-alike}
use Rattle.mem_layout.specs.Layout.{work_cells, zero_from, zero_to}
use Rattle.mem_entries.specs.Texts.{up_to}
use Rattle.mem_entries.specs.Entries.{entry_at, text_at}
use Rattle.mem_names.specs.Uris.{uri_at, uri_text}
use Rattle.mem_rows.specs.Rows.{with_uri, with_name}
use Rattle.mem_state.specs.Holds.{Topped}
use Rattle.mem_initial.specs.Initial.{zeroed, initial_uris, initial_names, together, uris_text, initial_size}
use Rattle.mem_initial.specs.Initial.{initial_text, with_rows, plus_uris, plus_names, initial_rows}
use Rattle.mem_initial.specs.Initial.{start_rows, start_at, LayRowsPre}
use Rattle.mem_initial.proofs.Initial.{opening-sourced, counts_zero, start-represents, start-topped}
use Rattle.mem_initial.proofs.Initial.{start-bounded, BoundsOf, start-alike}
use Rattle.grammar_open.specs.declared.State.{State}
use Rattle.grammar_open.specs.Opened.{last_first, opened_in, none_open}
use Rattle.write_field.specs.Written.{Put}
use Rattle.write_field.proofs.Written.{put-blank}
use Rattle.write_header.specs.Header.{HeaderPut}
use Rattle.write_partition.specs.Writable.{Written, Writable, source_of}
use Rattle.write_qname.specs.Premise.{Begun, context_in}
use Rattle.write_event.specs.Step.{Stands}
use Rattle.write_run.specs.declared.Run.{Run}
use Rattle.write_run.specs.Run.{RunPre, RunPost}
use Rattle.write_run.proofs.Turns.{progress-near, index-few}
use Rattle.writer.specs.Write.{BodyPre, BodyPost}

-- ---- the header

short-header : (s : Settings) → length (header_of s) ≤ 5
unfolding header_of
short-header s = split s.cookie (λ e. rw e (omega arith)) (λ e. rw e (omega arith))

pub body-asks : (s : Settings) {capacity : ℕ} {stream mid work : List ℕ} {at : ℕ}
    → HeaderPut s stream mid at → writer_work ≤ length work → capacity ≤ max_values + 1
    → BodyPre capacity mid at work
body-asks s put room few =
    record {
      blank = put-blank put;
      near = omega (arith, put.next, length-unpack (header_of s), short-header s);
      rows = room;
      bound = few;
    }

-- ---- the rows of the initial entries

written : (x : Text) → (leb (length x) max_string && all_chars x) ≡ true → Written x
written x e =
    let (a, b) = (and-eq-true_iff (leb (length x) max_string) (all_chars x)).0 e in
    record { short = leb-true (length x) max_string a; chars = b }

-- Each was judged, by computation.
start-writable : (longest capacity : ℕ) → Writable (start_rows longest capacity)
unfolding initial_rows plus_uris plus_names with_uri with_name initial_uris initial_names together uris_text
    xml_uri xsi_uri text uri_at entry_at all_chars is_char max_string
start-writable longest capacity =
    record { uris = uris; names = names; values = λ i l. absurd (omega arith) }
  where
    uris : (i : ℕ) → i < length (start_rows longest capacity).uris
        → Written (uri_text (start_rows longest capacity).uris i)
    uris zero l = written _ refl
    uris (suc zero) l = written _ refl
    uris (suc (suc zero)) l = written _ refl
    uris (suc (suc (suc i))) l = absurd (omega arith)

    names : (i : ℕ) → i < length (start_rows longest capacity).names
        → Written (text_at (start_rows longest capacity).names i)
    names zero l = written _ refl
    names (suc zero) l = written _ refl
    names (suc (suc zero)) l = written _ refl
    names (suc (suc (suc zero))) l = written _ refl
    names (suc (suc (suc (suc zero)))) l = written _ refl
    names (suc (suc (suc (suc (suc zero))))) l = written _ refl
    names (suc (suc (suc (suc (suc (suc i)))))) l = absurd (omega arith)

start-begun : (longest capacity : ℕ) → Begun (start_rows longest capacity)
unfolding initial_rows plus_uris plus_names with_uri with_name initial_uris initial_names
start-begun longest capacity = record { uris = le_refl 3; names = le_refl 6 }

-- ---- the start

-- The first rows lie in the opening text.
opening-source : (first : ℕ) (store : List ℕ) (i : ℕ) → i < first
    → source_of first initial_text store i ≡ up_to initial_text (length initial_text)
unfolding source_of
opening-source first store i l = rw (lt-ltb i first l)

module _ {capacity : ℕ} {stream : List ℕ} {at : ℕ} {work : List ℕ}
    (h : BodyPre capacity stream at work) where
  pub counts-ask : work_cells ≤ length work
  unfolding writer_work reader_work
  counts-ask = omega (arith, h.rows)

  pub rows-ask : {work₁ : List ℕ} → length work₁ ≡ length work → LayRowsPre work₁ 0
  rows-ask e = record { room = omega (arith, counts-ask); near = omega arith }

  -- The counts are cleared, and the rows are laid.
  module _ (longest : ℕ) {work₁ work₂ opening : List ℕ} {st : State} (opens : opening ≡ initial_text)
      (counts : work₁ ≡ zeroed work) (rows : work₂ ≡ with_rows work₁ 0)
      (begins : st ≡ none_open (start_at at longest capacity)) (same₁ : length work₁ ≡ length work)
      (same₂ : length work₂ ≡ length work₁) where
    room₁ : work_cells ≤ length work₁
    room₁ = omega (arith, counts-ask)

    pub events-ask : RunPre stream work₂ st
    unfolding none_open start_at
    events-ask =
        rw begins
        (record {
          blank = h.blank;
          near = h.near;
          rows = omega (arith, room₁, same₂);
          bounded = start-bounded at longest capacity h.bound;
          array = length-replicate {A = ℕ} max_open 0;
          tag = le_refl 1;
        })

    zeros : (j : ℕ) → zero_from ≤ j → j < zero_to → get_or work₁ j 0 ≡ 0
    zeros j k l = ap (λ (m : List ℕ). get_or m j 0) counts ∙ counts_zero work counts-ask j k l

    start-stands : (store : List ℕ)
        → Stands opening store work₂ st.core (start_rows longest capacity) (opened_in st)
    unfolding none_open start_at last_first
    start-stands store =
        rw (begins, rows, opens)
        (record {
          represents = start-represents work₁ room₁ zeros
              (opening-sourced (opening-source 3 store) (opening-source 6 store)
              (le_refl (length store))) at longest capacity;
          writable = start-writable longest capacity;
          begun = start-begun longest capacity;
        })

    topped : Topped st.core (opened_in st)
    unfolding none_open start_at last_first
    topped = rw begins (start-topped at longest capacity)

    there : st.core.at ≡ at
    unfolding none_open start_at
    there = ap (λ (x : State). x.core.at) begins

    answer-is : (s : Settings) → BoundsOf s longest capacity → (store : Text) (xs : List Stored)
        → write_events max_events sizes s (context_in st.core (start_rows longest capacity) (opened_in st))
        store xs
        ≡ write_events max_events sizes s (start s) store xs
    unfolding none_open start_at last_first
    answer-is s b store xs =
        rw begins (write-alike max_events sizes s (start-alike (replicate initial_size 0) refl b) store xs)

    pub body-put : {s : Settings} {xs : List Stored} {store : Text} {stream' work' : List ℕ}
        {r : Run} → BoundsOf s longest capacity
        → RunPost s opening xs store stream work₂ st stream' work' r
        → BodyPost s xs store stream at stream' r
    body-put {s} {xs} {store} {stream'} {r = r} b p =
        let m = p.meant (start_rows longest capacity) (start-stands store) topped in
        let put-there =
        subst (λ k. Put stream st.core.at p.progress.bits stream' k) (sym p.at)
        p.progress.put in
        record {
          bits = p.progress.bits;
          put = subst (λ k. Put stream k p.progress.bits stream' r.at) there put-there;
          near = omega (arith, p.at, progress-near p.progress);
          few = index-few p;
          means =
              record {
                refused_as = λ k i e. m.refused_as k i (answer-is s b store xs ∙ e);
                accepted-as = λ bs e. m.accepted-as bs (answer-is s b store xs ∙ e);
              };
        }
