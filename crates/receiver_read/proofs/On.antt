-- Reading on from where the octets had ended, by the definitions.
use mathlib.Core.Path.{◌≡◌, refl, sym, ap, ap₂, subst, ◌∙◌}
use mathlib.Core.Bool.{Bool, true, false}
use mathlib.Core.List.{List, [], ◌++◌, append-nil}
use Prim.Native.Nat.{ℕ, ◌+◌, ◌*◌, ◌-◌, ◌≤◌, ◌<◌}
use native.Mathlib.Omega.{arith}
use native.Mathlib.Decide.{ℕ_discrete}
use lib.ListN.{length, take, drop, replicate, length-append, length-drop}
use lib.Seq.{length-take-le}
use Rattle.spec_fields.specs.Bits.{Bits, unpack, is_padding}
use Rattle.spec_fields.specs.Refusal.{Refusal, number_of, ended, tail, refused, accepted}
use Rattle.spec_fields.specs.Parser.{bad, got}
use Rattle.spec_fields.proofs.Pack.{length-unpack}
use Rattle.spec_exi.specs.Settings.{Settings, header_of}
use Rattle.spec_exi.specs.Sizes.{sizes, max_events, event_cells}
use Rattle.spec_exi.specs.Event.{Event}
use Rattle.spec_exi.specs.Tables.{Placed}
use Rattle.spec_exi.specs.Grammar.{is_finished}
use Rattle.spec_exi.specs.Context.{Context, start}
use Rattle.spec_exi.specs.Reader.{read_header, read_events, read_body, read_stream, ending}
use Rattle.spec_exi.specs.Packets.{nothing_yet, after_header, complete}
use Rattle.event.specs.Cells.{cells_of_all}
use Rattle.event.proofs.Laws.{cells-append, cells-size}
use Rattle.mem_rows.specs.Rows.{tables_of, context_of}
use Rattle.mem_state.specs.Holds.{in_store, Topped, Represents, context_at}
use Rattle.read_literal.specs.Literal.{ZeroFrom}
use Rattle.read_literal.proofs.Store.{laid-size}
use Rattle.grammar_open.specs.declared.State.{State}
use Rattle.grammar_open.specs.Opened.{opened_in}
use Rattle.read_header.specs.Header.{Passed}
use Rattle.reader.specs.read_run.declared.Advanced.{Advanced}
use Rattle.reader.specs.read_run.Events.{Steps, none_read}
use Rattle.reader.specs.read_run.Run.{Running, AdvancePre, AdvancePost}
use Rattle.reader.proofs.read_run.Laid.{text_same}
use Rattle.reader.proofs.read_run.Events.{steps_then, shifted}
use Rattle.reader.proofs.read_run.Answers.{Answers, running-answers}
use Rattle.reader.specs.read_body.Body.{PaddingPre}
use Rattle.reader.proofs.read_body.Cells.{laid-store}
use Rattle.receiver_read.specs.On.{Headed, before-it, after-it, Underway, Stands, HeaderPost}
use Rattle.receiver_read.specs.On.{Onward, OnPost, Ends}
use Rattle.receiver_read.proofs.Laid.{laid_next, zero-after}
use Rattle.receiver_read.proofs.Longer.{header-ends, steps-shorter}

-- ---- the header

-- After the header.
pub record Past (s : Settings) (stream : List ℕ) (es : List (Event Placed)) (c : Context) (at : ℕ) :
    Type 0 where
  pub p : ℕ
  pub some : 0 < p
  pub le : p ≤ at
  pub inside : at ≤ 8 * length stream
  pub head : read_header (header_of s) (unpack stream) ≡ got tt (drop p (unpack stream))
  pub steps : Steps s (start s) (drop p (unpack stream)) es c (drop at (unpack stream))

none-steps : {s : Settings} {es : List (Event Placed)} {c : Context} (bs : Bits) → es ≡ []
    → c ≡ start s → Steps s (start s) bs es c bs
none-steps bs a b = rw (a, b) none_read

abbrev moved : State → ℕ → State
moved st q =
    record {
      core = record {
        at = q;
        stored = st.core.stored;
        uris = st.core.uris;
        names = st.core.names;
        values = st.core.values;
        learned = st.core.learned;
        grammars = st.core.grammars;
        mode = st.core.mode;
        top = st.core.top;
        depth = st.core.depth;
        tag = st.core.tag;
        longest = st.core.longest;
        capacity = st.core.capacity;
      };
      opened = st.opened;
    }

module _ {s : Settings} {stream : List ℕ} {at : ℕ} {h : Passed} (post : HeaderPost s stream at h)
  where
    pub header-unread : (h.number ≡ 0 → ⊥) → at ≡ 0
    header-unread some = elim (ℕ_discrete at 0) [
      | yes e ↦ e
      | no e ↦ absurd (some (ap (λ (x : Passed). x.number) (post.done (omega (arith, e)))))
    ]

    module _ (none : h.number ≡ 0) where
      pub header-place : at ≤ 8 * length stream → h.at ≤ 8 * length stream
      header-place l = elim (ℕ_discrete at 0) [
        | yes e ↦ ((post.unread e).outcome.read none).inside
        | no e ↦ omega (arith, l, ap (λ (x : Passed). x.at) (post.done (omega (arith, e))))
      ]

      headed-past : {es : List (Event Placed)} {c : Context} {mode : ℕ} → Headed s stream es c mode at
          → Past s stream es c h.at
      headed-past (before-it a b c d) =
          let g = (post.unread a).outcome.read none in
          record {
            p = h.at;
            some = header-ends s stream h.at g.inside g.result;
            le = omega arith;
            inside = g.inside;
            head = g.result;
            steps = none-steps (drop h.at (unpack stream)) b c;
          }
      headed-past {es} {c} (after-it p some le inside head steps) =
          let e : h.at ≡ at = ap (λ (x : Passed). x.at) (post.done (omega arith)) in
          subst (λ q. Past s stream es c q) (sym e)
          (record { p = p; some = some; le = le; inside = inside; head = head; steps = steps })

-- ---- a header that is refused, or cut

none-complete : (s : Settings) (stream : List ℕ) {k : Refusal}
    → read_header (header_of s) (unpack stream) ≡ bad k → complete s stream ≡ nothing_yet (start s)
unfolding complete after_header
none-complete s stream e = rw e

none-shown : (s : Settings) {es : List (Event Placed)} {c : Context} → es ≡ [] → c ≡ start s
    → nothing_yet (start s) ≡ record { events = es; store = c.tables.store }
unfolding nothing_yet
none-shown s a b = rw (a, b)

module _ {s : Settings} {stream events text work : List ℕ} {st : State} {first : ℕ}
    (pre : AdvancePre stream events text work st first) {h : Passed}
    (post : HeaderPost s stream st.core.at h) where
  abbrev at-header : Advanced
  at-header = record { number = h.number; index = first; state = st }

  module _ (some : h.number ≡ 0 → ⊥) (u : Underway s stream events text work st first) where
    abbrev here : Context
    here = context_at text st.core u.rows (opened_in st)

    onward-header : Headed s stream u.es here st.core.mode st.core.at
        → Onward s stream events text work at-header
    unfolding read_stream read_body context_of tables_of
    onward-header (after-it p l le inside head steps) =
        let z = header-unread post some in absurd (omega arith)
    onward-header (before-it a b c d) =
        let v = (post.unread a).outcome.refused (omega (arith, some)) in
        let none : first ≡ 0 = sym u.count ∙ ap length b in
        let answer : read_stream sizes s stream ≡ refused v.refusal first =
        rw (v.result, none) in
        record {
          laid = u;
          whole = λ z. absurd (some z);
          over = λ z. absurd (some z);
          waits = λ e.
              record {
                underway = u;
                shows = none-complete s stream v.result ∙ none-shown s b c;
                whole = λ m. absurd (omega arith);
                cut = λ _. (v.refusal, sym e ∙ v.is, answer);
              };
          declined = λ l n. (v.refusal, v.is, answer);
        }

  pub header-stops : (h.number ≡ 0 → ⊥)
      → OnPost s stream events text work st first events text work at-header
  header-stops some =
      record {
        up_to = pre.few;
        bounded = pre.bounded;
        inside = pre.place;
        ends = λ e l. absurd (omega (arith, header-unread post some, l));
        meant = λ u. onward-header some u u.headed;
      }

  -- ---- the events after it

  module _ (none : h.number ≡ 0) where
    abbrev t : State
    t = moved st h.at

    pub moved-asks : AdvancePre stream events text work t first
    moved-asks =
        let b = pre.bounded in
        record {
          size = pre.size;
          place = header-place post none pre.place;
          room = pre.room;
          rows = pre.rows;
          cells = pre.cells;
          few = pre.few;
          bounded = record {
            stored = b.stored;
            uris = b.uris;
            names = b.names;
            values = b.values;
            learned = b.learned;
            grammars = b.grammars;
            top = b.top;
            depth = b.depth;
            fits = b.fits;
            tag = b.tag;
            capacity = b.capacity;
          };
          array = pre.array;
        }

    module _ {events' text' work' : List ℕ} {r : Advanced}
        (p : AdvancePost s stream events text work t first events' text' work' r) where
      pub padding-place : PaddingPre stream r.state.core.at
      padding-place = record { size = pre.size; place = p.progress.inside }

      module _ (u : Underway s stream events text work st first) where
        abbrev begun : Context
        begun = context_at text st.core u.rows (opened_in st)

        past : Past s stream u.es begun h.at
        past = headed-past post none u.headed

        represents : Represents work (in_store text t.core.stored) t.core u.rows
            (opened_in t)
        represents =
            let x = u.represents in
            record {
              valid = x.valid;
              holds = x.holds;
              counts = record {
                uris = x.counts.uris;
                names = x.counts.names;
                values = x.counts.values;
                learned = x.counts.learned;
                grammars = x.counts.grammars;
                longest = x.counts.longest;
                capacity = x.counts.capacity;
              };
              opens = record { size = x.opens.size; rows = x.opens.rows };
              marks = x.marks;
            }

        topped : Topped t.core (opened_in t)
        topped = record { is = u.topped.is }

        open-still : is_finished (start s).state ≡ false
        unfolding start is_finished
        open-still = refl

        abbrev run : Running s stream events text t first u.rows events' text' work' r.state
            r.index
        run = p.progress.meant u.rows represents topped u.late

        abbrev all : List (Event Placed)
        all = u.es ++ run.es

        abbrev reached : Context
        reached = context_at text' r.state.core run.rows (opened_in r.state)

        abbrev rest : Bits
        rest = drop r.state.core.at (unpack stream)

        abbrev bits : Bits
        bits = drop past.p (unpack stream)

        answers : Answers s (start s) bits all reached rest r.number
        answers =
            running-answers p represents topped u.late past.steps u.count open-still

        size : length all ≡ r.index
        size = omega (arith, length-append u.es run.es, u.count, run.count)

        stream-is : read_stream sizes s stream ≡ read_events max_events sizes s (start s) bits
        unfolding read_stream read_body
        stream-is = rw past.head

        shows : complete s stream
            ≡ record { events = all; store = take r.state.core.stored text' }
        unfolding complete after_header context_of tables_of
        shows = rw past.head answers.first

        events-same : length events' ≡ length events
        unfolding event_cells max_events
        events-same =
            ap length run.cells
            ∙ laid-size events (9 * first) (cells_of_all run.es)
            (omega (arith, cells-size run.es, run.count, p.progress.up_to, pre.cells))

        cells_are : events' ≡ cells_of_all all ++ replicate (length events' - length (cells_of_all all)) 0
        cells_are =
            let a : List ℕ = cells_of_all u.es in
            let b : List ℕ = cells_of_all run.es in
            let n : length a ≡ 9 * first = cells-size u.es ∙ ap (λ k. 9 * k) u.count in
            let joined : cells_of_all all ≡ a ++ b = cells-append u.es run.es in
            run.cells ∙ laid_next events a b (9 * first) n u.cells
            ∙ ap₂ (λ (x : List ℕ) (k : ℕ). x ++ replicate (k - length x) 0) (sym joined)
            (sym events-same)

        zeros-are : ZeroFrom text' r.state.core.stored
        zeros-are =
            let now = r.state.core.stored in
            zero-after text' (take now text') now (length text - now)
            (laid-store text text' st.core.stored now pre.room u.zeros
            p.progress.text-laid)
            (length-take-le now text'
            (omega (
              arith,
              p.progress.bounded.stored,
              pre.room,
              text_same p.progress.text-laid pre.room,
            )))

        further : past.p ≤ r.state.core.at
        further =
            let h = steps-shorter (steps_then past.steps run.read) in
            omega (
              arith,
              h,
              past.le,
              past.inside,
              p.progress.inside,
              length-unpack stream,
              length-drop past.p (unpack stream),
              length-drop r.state.core.at (unpack stream),
            )

        underway : Underway s stream events' text' work' r.state r.index
        underway =
            record {
              rows = run.rows;
              represents = run.after;
              topped = run.topped;
              late = run.late;
              es = all;
              count = size;
              cells = cells_are;
              zeros = zeros-are;
              headed = after-it past.p past.some further p.progress.inside past.head
                  (steps_then past.steps run.read);
            }

        refuses : 0 < r.number
            → (k : Refusal) × (r.number ≡ number_of k)
            × (read_stream sizes s stream ≡ refused k r.index)
        refuses l =
            let x = answers.refused l in
            (x.refusal, x.is, stream-is ∙ x.answer ∙ ap (refused x.refusal) size)

        waits : r.number ≡ number_of ended
            → Stands s stream events' text' work' r.state r.index
        unfolding number_of underway
        waits e =
            let (k, is, answer) = refuses (omega arith) in
            record {
              underway = underway;
              shows = shows;
              whole = λ m. absurd (p.going (omega arith) m);
              cut = λ _. (k, sym e ∙ is, answer);
            }

        module _ (z : r.number ≡ 0) {padded : Bool} (e : padded ≡ is_padding rest) where
          tail-refuses : padded ≡ false
              → (k : Refusal) × (◌≡◌ {A = ℕ} 13 (number_of k))
              × (read_stream sizes s stream ≡ refused k r.index)
          unfolding number_of ending shifted
          tail-refuses f =
              let i : length all + 0 ≡ r.index = omega (arith, size) in
              (tail, refl, stream-is ∙ rw (← e, f) at (answers.over z) ∙ ap (refused tail) i)

          stands : padded ≡ true → Stands s stream events' text' work' r.state r.index
          unfolding ending shifted context_of tables_of underway
          stands f =
              record {
                underway = underway;
                shows = shows;
                whole = λ _.
                    stream-is ∙ rw (← e, f) at (answers.over z)
                    ∙ ap (λ (l : List (Event Placed)). accepted
                    (record { events = l; store = take r.state.core.stored text' }))
                    (append-nil all)
                    ∙ ap accepted (sym shows);
                cut = λ n. absurd (n (p.over z));
              }

      -- ---- each return

      abbrev Leaves : Advanced → Type 0
      Leaves y = OnPost s stream events text work st first events' text' work' y

      -- The octets end in the next event.
      next-ends : r.number ≡ number_of ended → 0 < r.state.core.at
          → Ends s stream text' work' r.state r.index
      unfolding number_of
      next-ends e l =
          let some : 0 < r.number = omega arith in
          let few : r.index < max_events = elim (ℕ_discrete r.index max_events) [
            | yes y ↦ absurd (omega (arith, p.full some y))
            | no y ↦ omega (arith, p.progress.up_to)
          ] in
          record {
            going = p.going some;
            few = few;
            begun = l;
            next = λ w a b d. rw e at ((p.refused some few).next w a b d);
          }

      leaves : (number : ℕ) → (number ≡ number_of ended → number ≡ r.number)
          → (Underway s stream events text work st first
          → Onward s stream events' text' work'
          (record { number = number; index = r.index; state = r.state }))
          → Leaves (record { number = number; index = r.index; state = r.state })
      leaves number same f =
          record {
            up_to = p.progress.up_to;
            bounded = p.progress.bounded;
            inside = p.progress.inside;
            ends = λ e l. next-ends (sym (same e) ∙ e) l;
            meant = f;
          }

      pub events-stop : (r.number ≡ 0 → ⊥) → Leaves r
      events-stop some =
          leaves r.number (λ _. refl) (λ u.
          record {
            laid = underway u;
            whole = p.over;
            over = λ z. absurd (some z);
            waits = waits u;
            declined = λ l n. refuses u l;
          })

      module _ (z : r.number ≡ 0) {padded : Bool}
          (e : padded ≡ is_padding (drop r.state.core.at (unpack stream))) where
        pub all_read : padded ≡ true → Leaves r
        unfolding number_of
        all_read f =
            leaves r.number (λ _. refl) (λ u.
            record {
              laid = underway u;
              whole = p.over;
              over = λ _. stands u z e f;
              waits = λ n. absurd (omega arith);
              declined = λ l n. absurd (omega arith);
            })

        pub tail-read : padded ≡ false
            → Leaves (record { number = 13; index = r.index; state = r.state })
        unfolding number_of
        tail-read f =
            leaves 13 (λ n. absurd (omega arith)) (λ u.
            record {
              laid = underway u;
              whole = λ n. absurd (omega arith);
              over = λ n. absurd (omega arith);
              waits = λ n. absurd (omega arith);
              declined = λ l n. tail-refuses u z e f;
            })
