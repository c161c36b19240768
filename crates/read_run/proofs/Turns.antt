-- A turn of the loop: one event more, or its refusal.
use Prim.Native.Nat.{ℕ, ◌+◌, ◌*◌, ◌-◌, ◌≤◌, ◌<◌}
use native.Mathlib.Omega.{arith}
use native.Mathlib.Nat.{le_refl}
use mathlib.Core.Path.{◌≡◌, refl, sym, ap, subst, ◌∙◌}
use mathlib.Core.List.{List, [], ◌∷◌, ◌++◌}
use lib.ListN.{length, take, drop, get_or, set, length-append}
use Rattle.text.specs.Text.{Text}
use Rattle.spec_fields.specs.Bits.{unpack}
use Rattle.spec_fields.specs.Refusal.{number_of, number_limit}
use Rattle.spec_exi.specs.Settings.{Settings}
use Rattle.spec_exi.specs.Sizes.{sizes, max_events, max_store, max_names, cells_per_event}
use Rattle.spec_exi.specs.Sizes.{event_cells}
use Rattle.spec_exi.specs.Event.{map_event}
use Rattle.spec_exi.specs.Tables.{span_of}
use Rattle.spec_exi.specs.Reader.{step}
use Rattle.event.specs.Cells.{cells_of, cells_of_all}
use Rattle.event.proofs.Laws.{cells-length, cells-size}
use Rattle.mem_layout.specs.Layout.{name_rows}
use Rattle.mem_rows.specs.Rows.{Rows, context_of}
use Rattle.mem_state.specs.declared.Core.{Core}
use Rattle.mem_state.specs.Holds.{in_store, Topped, Represents, context_at}
use Rattle.mem_state.proofs.Joins.{holds-grown}
use Rattle.grammar_update.proofs.Turns.{after-late}
use Rattle.grammar_stepped.specs.Stepped.{core_of}
use Rattle.read_contract.specs.Outcome.{Declined, Gotten}
use Rattle.read_literal.specs.Literal.{laid_at}
use Rattle.read_literal.proofs.Store.{laid_none}
use Rattle.grammar_stepped.specs.declared.Stepped.{Stepped}
use Rattle.read_event.specs.Step.{StepPre, StepRefused, StepLaid, StepMeans, StepPost}
use Rattle.grammar_open.specs.declared.State.{State}
use Rattle.grammar_open.specs.Opened.{opened_in, innermost_in, with_top, Kept}
use Rattle.grammar_open.proofs.Opened.{last-top, innermost-is, innermost-small}
use Rattle.grammar_open.proofs.Tops.{represents-top, bounded-top, stored_row, same_rows}
use Rattle.event_code.specs.Numbers.{is_over}
use Rattle.read_run.specs.Events.{Steps, none_read}
use Rattle.read_run.specs.Run.{AdvancePre}
use Rattle.read_run.specs.Run.{TextLaid, Running, Progress, Refuses, AdvancePost}
use Rattle.read_run.proofs.Laid.{cells-more, row_next, events-next, text-next}
use Rattle.read_run.proofs.Laid.{text-cleared, text_same, events-same, cleared-before}
use Rattle.read_run.proofs.Events.{one_more}

-- ---- what memory represents

-- The store is the same.
pub represents-text : {work text text' : List ℕ} {c : Core} {w : Rows} {opened : List ℕ}
    → take c.stored text' ≡ take c.stored text → c.stored ≤ length text'
    → Represents work (in_store text c.stored) c w opened
    → Represents work (in_store text' c.stored) c w opened
represents-text {c = c} e room h =
    record {
      valid = h.valid;
      holds = holds-grown (record { same = e; longer = le_refl c.stored; inside = room })
          h.holds;
      counts = h.counts;
      opens = h.opens;
      marks = h.marks;
    }

-- ---- no event yet

pub progress_start : (s : Settings) {stream events text work : List ℕ} {st : State} {first : ℕ}
    → AdvancePre stream events text work st first
    → Progress s stream events text work st first events text work st first
unfolding cells_of_all
progress_start s {events = events} {text} {st = st} {first} h =
    record {
      bounded = h.bounded;
      array = h.array;
      inside = h.place;
      from = le_refl first;
      up_to = h.few;
      events-laid =
          record {
            cells = [];
            size = omega arith;
            is = laid_none events (cells_per_event * first);
          };
      text-laid =
          record {
            x = [];
            cleared = 0;
            grows = omega arith;
            room = omega (arith, h.bounded.stored);
            is = laid_none text st.core.stored;
          };
      work-size = refl;
      meant = λ w a b d.
          record {
            es = [];
            count = omega arith;
            rows = w;
            after = a;
            topped = b;
            late = d;
            read = none_read;
            cells = laid_none events (cells_per_event * first);
          };
    }

-- ---- a turn

module _ {s : Settings} {stream events text work : List ℕ} {st : State} {first : ℕ}
    (pre : AdvancePre stream events text work st first) {events' text' work' : List ℕ} {t : State}
    {n : ℕ} (i : Progress s stream events text work st first events' text' work' t n) where
  cells_fit : cells_per_event * n ≤ length events
  unfolding event_cells
  cells_fit = omega (arith, i.up_to, pre.cells)

  pub same-events : length events' ≡ length events
  same-events = events-same i.events-laid cells_fit

  pub same_text : length text' ≡ length text
  same_text = text_same i.text-laid pre.room

  store-room : max_store ≤ length text'
  store-room = omega (arith, pre.room, same_text)

  pub turn-asks : n < max_events → StepPre stream events' text' work' t.core (cells_per_event * n) n
  unfolding event_cells
  turn-asks h =
      record {
        size = pre.size;
        place = i.inside;
        room = store-room;
        rows = omega (arith, pre.rows, i.work-size);
        cells = omega (arith, pre.cells, same-events);
        bounded = i.bounded;
        early = h;
      }

  pub turn-over : t.core.mode ≡ is_over
      → AdvancePost s stream events text work st first events' text' work'
      (record { number = 0; index = n; state = t })
  turn-over e =
      record {
        progress = i;
        over = λ _. e;
        going = λ l. absurd (omega arith);
        full = λ l. absurd (omega arith);
        refused = λ l. absurd (omega arith);
      }

  module _ (going : t.core.mode ≡ is_over → ⊥) where
    pub turn-full : max_events ≤ n
        → AdvancePost s stream events text work st first events' text' work'
        (record { number = number_limit; index = n; state = t })
    unfolding number_of
    turn-full l =
        record {
          progress = i;
          over = λ z. absurd (omega arith);
          going = λ _. going;
          full = λ _ _. refl;
          refused = λ _ m. absurd (omega arith);
        }

    module _ (h : n < max_events) {events'' text'' work'' : List ℕ} {r : Stepped}
        (p : StepPost s stream events' text' work' t.core (cells_per_event * n) n events'' text''
        work'' r) where
      module _ (some : r.number ≡ 0 → ⊥) where
        refusal : StepRefused events' text' work' t.core events'' text'' work'' r
        refusal = p.refused (omega (arith, some))

        store_is : take t.core.stored text'' ≡ take t.core.stored text'
        store_is = cleared-before store-room refusal.cleared

        context-is : (w : Rows)
            → context_at text'' t.core w (opened_in t) ≡ context_at text' t.core w (opened_in t)
        context-is w = ap (λ (x : Text). context_of w x t.core.mode (opened_in t)) store_is

        text-left : TextLaid text st.core.stored text'' t.core.stored
        text-left = text-cleared i.text-laid pre.room refusal.cleared

        same_left : length text'' ≡ length text
        same_left = text_same text-left pre.room

        left : Progress s stream events text work st first events'' text'' work'' t n
        left =
            record {
              bounded = i.bounded;
              array = i.array;
              inside = i.inside;
              from = i.from;
              up_to = i.up_to;
              events-laid =
                  record {
                    cells = i.events-laid.cells;
                    size = i.events-laid.size;
                    is = refusal.events-is ∙ i.events-laid.is;
                  };
              text-laid = text-left;
              work-size = ap length refusal.work-is ∙ i.work-size;
              meant = λ w a b d.
                  let g = i.meant w a b d in
                  record {
                    es = g.es;
                    count = g.count;
                    rows = g.rows;
                    after = represents-text store_is
                        (omega (arith, same_left, pre.room, i.bounded.stored))
                        (subst
                        (λ (m : List ℕ). Represents m (in_store text' t.core.stored) t.core
                        g.rows (opened_in t))
                        (sym refusal.work-is) g.after);
                    topped = g.topped;
                    late = g.late;
                    read = subst
                        (λ c. Steps s (context_at text st.core w (opened_in st))
                        (drop st.core.at (unpack stream)) g.es c
                        (drop t.core.at (unpack stream)))
                        (sym (context-is g.rows)) g.read;
                    cells = refusal.events-is ∙ g.cells;
                  };
            }

        refuses : Refuses s stream text'' work'' t n r.number
        refuses =
            record {
              next = λ w a b d.
                  subst (λ c. Declined (step sizes s c) stream t.core.at r.number)
                  (sym (context-is w))
                  ((p.meant w (opened_in t)
                  (represents-text (sym store_is) (omega (arith, store-room, i.bounded.stored))
                  (subst (λ (m : List ℕ). Represents m (in_store text'' t.core.stored) t.core
                  w (opened_in t))
                  refusal.work-is a)) b d).refused (omega (arith, some)));
            }

        kept-refused : AdvancePost s stream events text work st first events'' text'' work''
            (record { number = r.number; index = n; state = t })
        kept-refused =
            record {
              progress = left;
              over = λ z. absurd (some z);
              going = λ _. going;
              full = λ _ e. absurd (omega arith);
              refused = λ _ _. refuses;
            }

        -- A refused step answers the numbers as they came in.
        pub turn-refused : AdvancePost s stream events text work st first events'' text'' work''
            (record {
              number = r.number;
              index = n;
              state = record { core = core_of r; opened = t.opened };
            })
        turn-refused =
            subst (λ c. AdvancePost s stream events text work st first events'' text'' work''
            (record { number = r.number; index = n; state = record { core = c; opened = t.opened } }))
            (sym refusal.core) kept-refused

      -- ---- one event more

      module _ (z : r.number ≡ 0) where
        laid : StepLaid s.fragment events' text' work' t.core (cells_per_event * n) n events'' text'' work'' r
        laid = p.laid z

        -- These cells of the array are the open elements after the event.
        abbrev pub KeptAfter : List ℕ → Type 0
        KeptAfter rows = Kept t.core (core_of r) (opened_in t) rows

        pub turn-stored : t.core.depth < r.depth
            → KeptAfter (set t.opened t.core.depth r.top)
        turn-stored = stored_row t (core_of r) i.array p.bounded.depth

        pub turn-same : r.depth ≤ t.core.depth → KeptAfter t.opened
        turn-same = same_rows t (core_of r) i.array

        module _ {rows : List ℕ} (kept : KeptAfter rows) {top : ℕ}
            (inner : top ≡ innermost_in rows r.depth) where
          abbrev later : State
          later = record { core = with_top (core_of r) top; opened = rows }

          module _ (w : Rows)
              (a : Represents work (in_store text st.core.stored) st.core w (opened_in st))
              (b : Topped st.core (opened_in st)) (d : st.core.tag ≤ first + 1) where
            abbrev before : Running s stream events text st first w events' text' work' t n
            before = i.meant w a b d

            abbrev reads : Gotten
                (step sizes s (context_at text' t.core before.rows (opened_in t))) stream
                t.core.at r.at
            reads =
                (p.meant before.rows (opened_in t) before.after before.topped before.late
                ).read z

            abbrev means : StepMeans events' t.core (cells_per_event * n) (opened_in t) events''
                text'' work'' (core_of r) reads.value
            means =
                (p.meant before.rows (opened_in t) before.after before.topped before.late
                ).is z

            opened-is : opened_in later ≡ means.opened'
            opened-is = kept.is means.opened' means.turned

            represents : Represents work'' (in_store text'' r.stored) (core_of r) means.w
                (opened_in later)
            represents =
                subst (Represents work'' (in_store text'' r.stored) (core_of r) means.w)
                (sym opened-is) means.after

            late-still : r.tag ≤ n + 2
            late-still =
                let g = laid.growth in
                omega (
                  arith,
                  ap (λ (k : Core). k.tag) laid.core_is,
                  after-late s.fragment t.core r.at r.stored laid.strings g n before.late,
                )

            -- The innermost is a row of a name.
            row_low : 0 < r.depth → get_or rows (r.depth - 1) 0 < name_rows
            unfolding max_names
            row_low d =
                let o = represents.opens.rows 0 (omega (arith, represents.opens.size)) in
                omega (
                  arith,
                  o,
                  last-top r.depth rows d,
                  represents.counts.names,
                  p.bounded.names,
                )

            context-after : reads.value.1 ≡ context_at text'' (core_of r) means.w (opened_in later)
            context-after =
                means.context
                ∙ ap (context_of means.w (take r.stored text'') r.mode)
                (sym opened-is)

            running : Running s stream events text st first w events'' text'' work'' later (n + 1)
            running =
                record {
                  es = before.es ++ reads.value.0 ∷ [];
                  count = omega (
                    arith,
                    before.count,
                    length-append before.es (reads.value.0 ∷ []),
                  );
                  rows = means.w;
                  after = represents-top top represents;
                  topped =
                      record {
                        is = λ d. last-top r.depth rows d
                            ∙ sym (inner ∙ innermost-is rows r.depth d (row_low d));
                      };
                  late = omega (arith, late-still);
                  read = subst
                      (λ c. Steps s (context_at text st.core w (opened_in st))
                      (drop st.core.at (unpack stream)) (before.es ++ reads.value.0 ∷ []) c
                      (drop r.at (unpack stream)))
                      context-after (one_more reads.value before.read reads.result);
                  cells =
                      row_next events (cells_per_event * first) (cells_of_all before.es)
                      (cells_of (map_event span_of reads.value.0)) before.cells
                      (omega (arith, before.count, cells-size before.es)) cells_fit
                      (cells-length (map_event span_of reads.value.0)) means.cells
                      ∙ ap (λ (l : List ℕ). laid_at events (cells_per_event * first) l)
                      (sym (cells-more before.es reads.value.0));
                }

          pub turn_more : Progress s stream events text work st first events'' text'' work'' later
              (n + 1)
          turn_more =
              record {
                bounded = bounded-top top
                    (omega (arith, inner, innermost-small rows r.depth)) p.bounded;
                array = kept.size;
                inside = p.inside;
                from = omega (arith, i.from);
                up_to = omega arith;
                events-laid = events-next laid.row i.events-laid cells_fit laid.row-size
                    laid.events-is;
                text-laid = text-next i.text-laid pre.room laid.x laid.text-is
                    laid.stored_is p.bounded.stored;
                work-size = laid.work-size ∙ i.work-size;
                meant = running;
              }
