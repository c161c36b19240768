-- A turn of the loop: one event more, or its refusal.
use Prim.Native.Nat.{ℕ, suc, ◌+◌, ◌*◌, ◌-◌, ◌≤◌, ◌<◌}
use native.Mathlib.Omega.{arith}
use native.Mathlib.Decide.{ℕ_discrete}
use mathlib.Core.Path.{◌≡◌, refl, sym, ap, ap₂, subst, ◌∙◌}
use mathlib.Core.List.{List, [], ◌∷◌, ◌++◌, append-nil}
use mathlib.Core.Option.{none, some}
use lib.ListN.{length, take, drop, get_or, set, length-drop, take-append-drop}
use lib.Seq.{length-take-le, take-add, drop-drop}
use lib.Dec.{ltb}
use mir.Syntax.{w8}
use mir.Val.{Fits}
use borrow.Author.Tests.{ltb-true, ltb-false}
use Rattle.spec_fields.proofs.Tests.{split}
use Rattle.spec_fields.specs.Bits.{Bits}
use Rattle.spec_fields.specs.Refusal.{Answer, refused, accepted, number_limit, number_shape}
use Rattle.text.specs.Text.{Text, Span, part}
use Rattle.spec_exi.specs.Event.{Event, map_event}
use Rattle.spec_exi.specs.Settings.{Settings}
use Rattle.spec_exi.specs.Sizes.{sizes, max_events, max_string, max_names, cells_per_event}
use Rattle.spec_exi.specs.Context.{Context, next}
use Rattle.spec_exi.specs.Strict.{event_bits}
use Rattle.spec_exi.specs.Writer.{Stored, fault_of, write_events}
use Rattle.spec_exi.specs.Alike.{Alike}
use Rattle.spec_exi.proofs.Alike.{alike_same, alike_then, event-bits-alike, next-alike}
use Rattle.spec_exi.proofs.Alike.{fault-alike, write-alike}
use Rattle.event.specs.Cells.{loaded_from, events_of}
use Rattle.event.proofs.Laws.{events-at, events-cut, events-end}
use Rattle.mem_layout.specs.Layout.{name_rows}
use Rattle.mem_rows.specs.Rows.{Rows}
use Rattle.mem_state.specs.declared.Core.{Core}
use Rattle.mem_state.specs.Commit.{counted, turned}
use Rattle.mem_state.specs.Holds.{Bounded, Topped}
use Rattle.grammar_update.proofs.Turns.{after-late}
use Rattle.grammar_open.specs.declared.State.{State}
use Rattle.grammar_open.specs.Opened.{opened_in, innermost_in, with_top, Kept}
use Rattle.grammar_open.proofs.Opened.{last-top, innermost-is, innermost-small}
use Rattle.grammar_open.proofs.Tops.{represents-top, bounded-top, stored_row, same_rows}
use Rattle.grammar_open.proofs.Over.{context-over, context-going}
use Rattle.write_field.proofs.Written.{put_then, put-blank, put-nothing}
use Rattle.write_partition.proofs.Tests.{fault-none}
use Rattle.write_qname.specs.Premise.{context_in}
use Rattle.grammar_stepped.specs.declared.Stepped.{Stepped}
use Rattle.grammar_stepped.specs.Stepped.{core_of}
use Rattle.write_event.specs.Step.{max_list_bits, StepPre, StepPut, Stands}
use Rattle.write_event.specs.Step.{StepLeaves, StepMeans, StepPost}
use Rattle.event_code.specs.Numbers.{is_over}
use Rattle.write_run.specs.declared.Run.{Run}
use Rattle.write_run.specs.Events.{Steps, none_written}
use Rattle.write_run.specs.Run.{stopped_as, RunPre, Joins, none-joined, one-joined, Running}
use Rattle.write_run.specs.Run.{Progress, RunPost}
use Rattle.write_run.proofs.Events.{shifted, shifted-refused, shifted-accepted, Stops}
use Rattle.write_run.proofs.Events.{answer-ended, stops-early, stops-full, stops-shape}
use Rattle.write_run.proofs.Events.{stops-fault, one_more, steps-answer}

-- ---- what the loop keeps

-- The definitions' answer for events from a state on.
abbrev answer_at : Settings → Text → State → Rows → ℕ → List Stored → Answer Bits
answer_at s text t w n xs = write_events n sizes s (context_in t.core w (opened_in t)) text xs

-- The events before this cell are written; those that are left begin with it.
pub record Reached (s : Settings) (opening cells : List ℕ) (text : Text) (stream₀ work₀ : List ℕ)
    (st : State) (stream work : List ℕ) (t : State) (n cell : ℕ) : Type 0 where
  pub so-far : Progress s opening (events_of cells) text stream₀ work₀ st stream work t n
  pub place : cell ≡ cells_per_event * n
  pub left : drop n (events_of cells) ≡ events_of (drop cell cells)

pub reached-start : {s : Settings} {opening cells : List ℕ} {text : Text} {stream work : List ℕ}
    {st : State} → ((i : ℕ) → Fits w8 (get_or stream i 0)) → RunPre stream work st
    → Reached s opening cells text stream work st stream work st 0 0
unfolding max_string
reached-start {st = st} known h =
    record {
      so-far =
          record {
            bits = [];
            put = put-nothing known h.blank;
            near = omega (arith, h.near);
            bounded = h.bounded;
            array = h.array;
            few = omega arith;
            listed = omega arith;
            work-size = refl;
            late = omega (arith, h.tag);
            joins = none-joined;
            meant = λ w a b.
                record {
                  reached = context_in st.core w (opened_in st);
                  written = none_written;
                  rows = w;
                  after = a;
                  topped = b;
                  context = alike_same (context_in st.core w (opened_in st));
                };
          };
      place = omega arith;
      left = refl;
    }

-- ---- what was written, and what is left of the answer

module _ {s : Settings} {opening : List ℕ} {xs : List Stored} {text : Text}
    {stream₀ work₀ : List ℕ} {st : State} {stream work : List ℕ} {t : State} {n : ℕ}
    (p : Progress s opening xs text stream₀ work₀ st stream work t n) where
  pub progress-near : t.core.at ≤ max_list_bits
  unfolding max_events max_string
  progress-near = omega (arith, p.near, p.few)

  taken-size : length (take n xs) ≡ n
  taken-size = length-take-le n xs p.listed

  -- Memory stood for these rows.
  module _ (w : Rows) (a : Stands opening text work₀ st.core w (opened_in st))
      (b : Topped st.core (opened_in st)) where
    abbrev run : Running s opening xs text st w p.bits work t n
    run = p.meant w a b

    answer-left : answer_at s text st w max_events xs
        ≡ shifted n p.bits (answer_at s text t run.rows (max_events - n) (drop n xs))
    answer-left =
        let sum : max_events ≡ length (take n xs) + (max_events - n) =
        omega (arith, taken-size, p.few) in
        ap (answer_at s text st w max_events) (sym (take-append-drop n xs))
        ∙ steps-answer max_events (max_events - n) sum (drop n xs) run.written
        ∙ ap₂ (λ k x. shifted k p.bits x) taken-size
        (write-alike (max_events - n) sizes s run.context text (drop n xs))

  -- No octet and no cell was written since.
  unwritten : {stream' work' : List ℕ} → stream' ≡ stream → work' ≡ work
      → Progress s opening xs text stream₀ work₀ st stream' work' t n
  unwritten {stream'} same-octets same-cells =
      subst (λ (m : List ℕ). Progress s opening xs text stream₀ work₀ st stream' m t n)
      (sym same-cells)
      (subst (λ (m : List ℕ). Progress s opening xs text stream₀ work₀ st m work t n)
      (sym same-octets) p)

  -- What is left is refused at its first event, whatever rows memory holds.
  stop : (number : ℕ) → (number ≡ 0 → ⊥)
      → ((v : Rows) → Stands opening text work t.core v (opened_in t)
      → Topped t.core (opened_in t)
      → Stops (max_events - n) s (context_in t.core v (opened_in t)) text (drop n xs) number)
      → RunPost s opening xs text stream₀ work₀ st stream work (stopped_as number n t.core.at)
  stop number Some-number stops =
      record {
        state = t;
        count = n;
        progress = p;
        at = refl;
        over = λ z. absurd (Some-number z);
        refused = λ _. refl;
        meant = λ w a b.
            let g = run w a b in
            let x = stops g.rows g.after g.topped in
            let whole : answer_at s text st w max_events xs ≡ refused x.refusal n =
            answer-left w a b ∙ ap (shifted n p.bits) x.answer
            ∙ shifted-refused n p.bits x.refusal in
            record {
              refused_as = λ k j e. (cc x.is, cc);
              accepted-as = λ bs e. let z : ◌≡◌ {A = ℕ} 0 1 = cc in absurd (omega arith);
            };
      }

pub index-few : {s : Settings} {opening : List ℕ} {xs : List Stored} {text : Text}
    {stream work : List ℕ} {st : State} {stream' work' : List ℕ} {r : Run}
    → RunPost s opening xs text stream work st stream' work' r → r.index ≤ max_events
index-few {r = r} p = elim (ℕ_discrete r.number 0) [
  | yes z ↦ omega (arith, (p.over z).0)
  | no z ↦ omega (arith, p.refused (omega (arith, z)), p.progress.few)
]

-- The event in this cell is e, and there may be one more.
pub record Next (cells : List ℕ) (n cell : ℕ) (e : Event Span) : Type 0 where
  pub more : n ≡ max_events → ⊥
  pub whole : cells_per_event ≤ length cells - cell
  pub loaded : loaded_from (take cells_per_event (drop cell cells)) ≡ some e

module _ {s : Settings} {opening cells : List ℕ} {text : Text} {stream₀ work₀ : List ℕ}
    {st : State} {stream work : List ℕ} {t : State} {n cell : ℕ}
    (i : Reached s opening cells text stream₀ work₀ st stream work t n cell) where
  -- ---- the list's end

  module _ (end : length cells ≤ cell) where
    none_left : drop n (events_of cells) ≡ []
    none_left = i.left ∙ events-end cells cell end

    pub ended-early : (t.core.mode ≡ is_over → ⊥)
        → RunPost s opening (events_of cells) text stream₀ work₀ st stream work
        (stopped_as number_shape n t.core.at)
    ended-early other =
        stop i.so-far number_shape (λ z. absurd (omega arith))
        (λ v a b. rw none_left (stops-early (max_events - n) s
        (context_in t.core v (opened_in t)) text
        (context-going i.so-far.bounded a.represents _ other)))

    all-written : n ≡ length (events_of cells)
    all-written =
        omega (
          arith,
          i.so-far.listed,
          ap length none_left,
          length-drop n (events_of cells),
        )

    pub ended : t.core.mode ≡ is_over
        → RunPost s opening (events_of cells) text stream₀ work₀ st stream work
        (stopped_as 0 0 t.core.at)
    ended last =
        let p = i.so-far in
        record {
          state = t;
          count = n;
          progress = p;
          at = refl;
          over = λ _. (refl, all-written);
          refused = λ l. absurd (omega arith);
          meant = λ w a b.
              let g = p.meant w a b in
              let all : answer_at s text t g.rows (max_events - n) (drop n (events_of cells))
              ≡ accepted [] =
              rw none_left (answer-ended (max_events - n) s
              (context_in t.core g.rows (opened_in t)) text
              (context-over p.bounded g.after.represents _ last)) in
              let whole : answer_at s text st w max_events (events_of cells) ≡ accepted p.bits =
              answer-left p w a b ∙ ap (shifted n p.bits) all
              ∙ shifted-accepted n p.bits [] ∙ ap accepted (append-nil p.bits) in
              record {
                refused_as = λ k j e. let z : ◌≡◌ {A = ℕ} 0 1 = cc in absurd (omega arith);
                accepted-as = λ bs e. (refl, refl, cc);
              };
        }

  -- ---- the next is no event, or one too many

  module _ (inside : cell < length cells) where
    some_left : (x : Stored) × (xs : List Stored) × (drop n (events_of cells) ≡ x ∷ xs)
    some_left =
        split (ltb (length cells) (cell + cells_per_event))
        (λ l. (
          none,
          [],
          i.left ∙ events-cut cells cell inside (ltb-true (length cells) (cell + cells_per_event) l),
        ))
        (λ l. (_, _, i.left ∙ events-at cells cell (ltb-false (length cells) (cell + cells_per_event) l)))

    pub too_many : n ≡ max_events
        → RunPost s opening (events_of cells) text stream₀ work₀ st stream work
        (stopped_as number_limit n t.core.at)
    unfolding max_events
    too_many full =
        let (x, xs, e) = some_left in
        let z : max_events - n ≡ 0 = omega arith in
        stop i.so-far number_limit (λ y. absurd (omega arith))
        (λ v a b. rw (e, z) (stops-full 0 s (context_in t.core v (opened_in t)) text x xs))

  module _ (more : n ≡ max_events → ⊥) where
    one_less : max_events - n ≡ suc (max_events - (n + 1))
    unfolding max_events
    one_less = omega (arith, i.so-far.few, more)

    shape-here : {xs : List Stored} → events_of (drop cell cells) ≡ none ∷ xs
        → RunPost s opening (events_of cells) text stream₀ work₀ st stream work
        (stopped_as number_shape n t.core.at)
    shape-here {xs} e =
        stop i.so-far number_shape (λ z. absurd (omega arith))
        (λ v a b. rw (i.left, e, one_less) (stops-shape (max_events - (n + 1)) s
        (context_in t.core v (opened_in t)) text xs))

    pub cut_short : cell < length cells → length cells - cell < cells_per_event
        → RunPost s opening (events_of cells) text stream₀ work₀ st stream work
        (stopped_as number_shape n t.core.at)
    cut_short inside l = shape-here (events-cut cells cell inside (omega arith))

    pub no-event : cells_per_event ≤ length cells - cell → loaded_from (take cells_per_event (drop cell cells)) ≡ none
        → RunPost s opening (events_of cells) text stream₀ work₀ st stream work
        (stopped_as number_shape n t.core.at)
    no-event whole l =
        shape-here (events-at cells cell (omega arith)
        ∙ ap (λ x. x ∷ events_of (drop (cell + cells_per_event) cells)) l)

  -- ---- the next is an event

  pub turn-asks : RunPre stream₀ work₀ st → (n ≡ max_events → ⊥) → StepPre stream work t.core n
  unfolding max_events
  turn-asks pre more =
      record {
        blank = put-blank i.so-far.put;
        near = progress-near i.so-far;
        rows = omega (arith, pre.rows, i.so-far.work-size);
        bounded = i.so-far.bounded;
        early = omega (arith, i.so-far.few, more);
      }

  module _ {e : Event Span} {stream' work' : List ℕ} {r : Stepped}
      (p : StepPost s opening text e stream work t.core n stream' work' r) where
    -- These cells of the array are the open elements after the event.
    abbrev pub KeptAfter : List ℕ → Type 0
    KeptAfter rows = Kept t.core (core_of r) (opened_in t) rows

    pub turn-stored : t.core.depth < r.depth
        → KeptAfter (set t.opened t.core.depth r.top)
    turn-stored = stored_row t (core_of r) i.so-far.array p.bounded.depth

    pub turn-same : r.depth ≤ t.core.depth → KeptAfter t.opened
    turn-same = same_rows t (core_of r) i.so-far.array

    module _ (h : Next cells n cell e) where
      abbrev later-events : List Stored
      later-events = events_of (drop (cell + cells_per_event) cells)

      first-is : drop n (events_of cells) ≡ some e ∷ later-events
      first-is =
          i.left ∙ events-at cells cell (omega (arith, h.whole))
          ∙ ap (λ x. x ∷ later-events) h.loaded

      pub turn-refused : (r.number ≡ 0 → ⊥)
          → RunPost s opening (events_of cells) text stream₀ work₀ st stream' work'
          (stopped_as r.number n t.core.at)
      turn-refused Some-number =
          let x = p.refused (omega (arith, Some-number)) in
          stop (unwritten i.so-far x.stream-is x.work-is) r.number Some-number
          (λ v a b. rw (first-is, one_less h.more)
          (stops-fault (max_events - (n + 1)) s (context_in t.core v (opened_in t)) text e
          later-events
          (p.meant v (opened_in t)
          (subst (λ (m : List ℕ). Stands opening text m t.core v (opened_in t)) x.work-is a)
          b i.so-far.late).fault Some-number))

      -- ---- one event more

      module _ (z : r.number ≡ 0) {rows : List ℕ} (kept : KeptAfter rows) {top : ℕ}
          (inner : top ≡ innermost_in rows r.depth) where
        abbrev written : StepPut s.fragment stream work t.core n stream' work' r
        written = p.put z

        abbrev later : State
        later = record { core = with_top (core_of r) top; opened = rows }

        module _ (w : Rows) (a : Stands opening text work₀ st.core w (opened_in st))
            (b : Topped st.core (opened_in st)) where
          abbrev before : Running s opening (events_of cells) text st w i.so-far.bits work t n
          before = i.so-far.meant w a b

          abbrev context : Context
          context = context_in t.core before.rows (opened_in t)

          abbrev event : Event Text
          event = map_event (part text) e

          abbrev means : StepMeans s opening text e stream work t.core n before.rows
              (opened_in t) stream' work' r p.put
          means =
              p.meant before.rows (opened_in t) before.after before.topped
              i.so-far.late

          abbrev leaves : StepLeaves s opening text event t.core before.rows (opened_in t)
              written.bits work' (core_of r)
          leaves = means.leaves z

          -- By the definitions' context: it has the event's fault and bits, for they are the same
          -- wherever strings lie.
          fine : fault_of sizes s before.reached text e ≡ none
          fine =
              fault-alike before.context s sizes text e
              ∙ fault-none (fault_of sizes s context text e) (sym means.fault ∙ z)

          bits_are : event_bits s before.reached event ≡ written.bits
          bits_are = event-bits-alike before.context s event ∙ sym leaves.bits_are

          opened-is : opened_in later ≡ leaves.opened'
          opened-is = kept.is leaves.opened' leaves.turned

          stands : Stands opening text work' (core_of r) leaves.rows (opened_in later)
          stands =
              subst (Stands opening text work' (core_of r) leaves.rows) (sym opened-is)
              leaves.after

          -- The innermost is a row of a name.
          row_low : 0 < r.depth → get_or rows (r.depth - 1) 0 < name_rows
          unfolding max_names
          row_low d =
              let m = stands.represents in
              let o = m.opens.rows 0 (omega (arith, m.opens.size)) in
              omega (
                arith,
                o,
                last-top r.depth rows d,
                m.counts.names,
                p.bounded.names,
              )

          -- The definitions' next context and that of the rows differ at most in places.
          context-after : Alike (next s before.reached event)
              (context_in (core_of r) leaves.rows (opened_in later))
          context-after =
              alike_then (next-alike before.context s event)
              (subst (λ o. Alike (next s context event) (context_in (core_of r) leaves.rows o))
              (sym opened-is) leaves.context)

          taken_is : take (n + 1) (events_of cells) ≡ take n (events_of cells) ++ (some e ∷ [])
          taken_is =
              take-add n 1 (events_of cells)
              ∙ ap (λ (l : List Stored). take n (events_of cells) ++ take 1 l) first-is

          written_after : Steps s text (context_in st.core w (opened_in st))
              (take (n + 1) (events_of cells)) (i.so-far.bits ++ written.bits)
              (next s before.reached event)
          written_after =
              subst (λ (l : List Stored). Steps s text (context_in st.core w (opened_in st)) l
              (i.so-far.bits ++ written.bits) (next s before.reached event)) (sym taken_is)
              (subst (λ (u : Bits). Steps s text (context_in st.core w (opened_in st))
              (take n (events_of cells) ++ (some e ∷ [])) (i.so-far.bits ++ u)
              (next s before.reached event)) bits_are
              (one_more e before.written fine))

          running : Running s opening (events_of cells) text st w (i.so-far.bits ++ written.bits)
              work' later (n + 1)
          running =
              record {
                reached = next s before.reached event;
                written = written_after;
                rows = leaves.rows;
                after =
                    record {
                      represents = represents-top top stands.represents;
                      writable = stands.writable;
                      begun = stands.begun;
                    };
                topped =
                    record {
                      is = λ d. last-top r.depth rows d
                          ∙ sym (inner ∙ innermost-is rows r.depth d (row_low d));
                    };
                context = context-after;
              }

        -- The event's rows are all that joined.
        joins_after : Joins s.fragment st.core work₀ (n + 1) (with_top (core_of r) top) work'
        joins_after =
            subst (λ (d : Core). Joins s.fragment st.core work₀ (n + 1) (with_top d top) work')
            (sym written.core_is)
            (subst (Joins s.fragment st.core work₀ (n + 1) _) (sym written.work-is)
            (one-joined written.strings written.growth r.at r.stored top
            i.so-far.joins i.so-far.bounded written.rows))

        late-after : r.tag ≤ n + 2
        late-after =
            omega (
              arith,
              ap (λ (d : Core). d.tag) written.core_is,
              after-late s.fragment t.core r.at r.stored written.strings
                  written.growth n i.so-far.late,
            )

        left_after : drop (n + 1) (events_of cells) ≡ later-events
        left_after =
            sym (drop-drop 1 n (events_of cells)) ∙ ap (λ (l : List Stored). drop 1 l) first-is

        turn_more : Reached s opening cells text stream₀ work₀ st stream' work' later (n + 1)
            (cell + cells_per_event)
        unfolding max_string
        turn_more =
            record {
              so-far =
                  record {
                    bits = i.so-far.bits ++ written.bits;
                    put = put_then i.so-far.put written.put;
                    near = omega (arith, i.so-far.near, written.near);
                    bounded = bounded-top top
                        (omega (arith, inner, innermost-small rows r.depth)) p.bounded;
                    array = kept.size;
                    few = omega (arith, one_less h.more, i.so-far.few);
                    listed =
                        omega (arith, ap length first-is, length-drop n (events_of cells));
                    work-size = written.work-size ∙ i.so-far.work-size;
                    late = omega (arith, late-after);
                    joins = joins_after;
                    meant = running;
                  };
              place = omega (arith, i.place);
              left = left_after;
            }

        -- The bounds of values are what they were.
        longest-stays : r.longest ≡ t.core.longest
        unfolding turned counted
        longest-stays = ap (λ (d : Core). d.longest) written.core_is

        capacity-stays : r.capacity ≡ t.core.capacity
        unfolding turned counted
        capacity-stays = ap (λ (d : Core). d.capacity) written.core_is

        abbrev bounded_by : ℕ → ℕ → State
        bounded_by l k =
            record {
              core =
                  record {
                    at = r.at;
                    stored = r.stored;
                    uris = r.uris;
                    names = r.names;
                    values = r.values;
                    learned = r.learned;
                    grammars = r.grammars;
                    mode = r.mode;
                    top = top;
                    depth = r.depth;
                    tag = r.tag;
                    longest = l;
                    capacity = k;
                  };
              opened = rows;
            }

        pub turn-again : Reached s opening cells text stream₀ work₀ st stream' work'
            (bounded_by t.core.longest t.core.capacity) (n + 1) (cell + cells_per_event)
        turn-again =
            subst (λ (k : ℕ). Reached s opening cells text stream₀ work₀ st stream' work'
            (bounded_by t.core.longest k) (n + 1) (cell + cells_per_event)) capacity-stays
            (subst (λ (l : ℕ). Reached s opening cells text stream₀ work₀ st stream' work'
            (bounded_by l r.capacity) (n + 1) (cell + cells_per_event)) longest-stays turn_more)
