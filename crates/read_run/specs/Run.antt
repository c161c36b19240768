-- What reading the events from a state on asks and leaves.
use Rattle.std.specs.Prelude.{ℕ, zero, suc, ◌+◌, ◌*◌, ◌%◌, ◌≤◌, ◌<◌, ◌≡◌, List, [], ◌∷◌, ◌++◌, length, drop, get_or, replicate}
use Rattle.text.specs.Text.{Text}
use Rattle.spec_fields.specs.Bits.{unpack}
use Rattle.spec_fields.specs.Refusal.{number_of, limit}
use Rattle.spec_exi.specs.Settings.{Settings}
use Rattle.spec_exi.specs.Sizes.{sizes, max_stream, max_events, max_open, max_store, cells_per_event}
use Rattle.spec_exi.specs.Sizes.{event_cells}
use Rattle.spec_exi.specs.Event.{Event}
use Rattle.spec_exi.specs.Tables.{Placed}
use Rattle.spec_exi.specs.Reader.{step}
use Rattle.mem_layout.specs.Layout.{name_rows, work_cells}
use Rattle.mem_rows.specs.Rows.{Rows}
use Rattle.mem_state.specs.Holds.{in_store, Bounded, Topped, Represents, context_at}
use Rattle.read_contract.specs.Outcome.{Declined}
use Rattle.read_literal.specs.Literal.{laid_at}
use Rattle.grammar_open.specs.declared.State.{State}
use Rattle.grammar_open.specs.Opened.{opened_in}
use Rattle.event_code.specs.Numbers.{is_over}
use Rattle.read_run.specs.declared.Advanced.{Advanced}
use Rattle.event.specs.Cells.{cells_of_all}
use Rattle.read_run.specs.Events.{Steps}

-- ---- bounds alone

pub record AdvancePre (stream events text work : List ℕ) (st : State) (first : ℕ) : Type 0 where
  pub size : length stream ≤ max_stream
  pub place : st.core.at ≤ 8 * length stream
  pub room : max_store ≤ length text
  pub rows : work_cells ≤ length work
  pub cells : event_cells ≤ length events
  pub few : first ≤ max_events
  pub bounded : Bounded st.core
  pub array : length st.opened ≡ max_open

-- ---- the cells, on every memory

-- The cells of the events from the first to the n-th are written, and no others.
pub record EventsLaid (events : List ℕ) (first : ℕ) (events' : List ℕ) (n : ℕ) : Type 0 where
  pub cells : List ℕ
  pub size : cells_per_event * first + length cells ≡ cells_per_event * n
  pub is : events' ≡ laid_at events (cells_per_event * first) cells

-- The store grows by x. After a refusal so many cells behind it were written, and are cleared.
pub record TextLaid (text : List ℕ) (stored : ℕ) (text' : List ℕ) (stored' : ℕ) : Type 0 where
  pub x : Text
  pub cleared : ℕ
  pub grows : stored' ≡ stored + length x
  pub room : stored' + cleared ≤ max_store
  pub is : text' ≡ laid_at text stored (x ++ replicate cleared 0)

-- ---- by the definitions

-- These events are read, and memory represents the context that they leave.
pub record Running (s : Settings) (stream events text : List ℕ) (st : State) (first : ℕ) (w : Rows)
    (events' text' work' : List ℕ) (t : State) (n : ℕ) : Type 0 where
  pub es : List (Event Placed)
  pub count : first + length es ≡ n
  pub rows : Rows
  pub after : Represents work' (in_store text' t.core.stored) t.core rows (opened_in t)
  pub topped : Topped t.core (opened_in t)
  pub late : t.core.tag ≤ n + 1
  pub read : Steps s (context_at text st.core w (opened_in st))
      (drop st.core.at (unpack stream)) es
      (context_at text' t.core rows (opened_in t)) (drop t.core.at (unpack stream))
  pub cells : events' ≡ laid_at events (cells_per_event * first) (cells_of_all es)

-- n events are read, and t is the state after them.
pub record Progress (s : Settings) (stream events text work : List ℕ) (st : State) (first : ℕ)
    (events' text' work' : List ℕ) (t : State) (n : ℕ) : Type 0 where
  pub bounded : Bounded t.core
  pub array : length t.opened ≡ max_open
  pub inside : t.core.at ≤ 8 * length stream
  pub from : first ≤ n
  pub up_to : n ≤ max_events
  pub events-laid : EventsLaid events first events' n
  pub text-laid : TextLaid text st.core.stored text' t.core.stored
  pub work-size : length work' ≡ length work
  pub meant : (w : Rows)
      → Represents work (in_store text st.core.stored) st.core w (opened_in st)
      → Topped st.core (opened_in st) → st.core.tag ≤ first + 1
      → Running s stream events text st first w events' text' work' t n

-- The event after n others is refused: whatever rows memory holds, by the definitions.
pub record Refuses (s : Settings) (stream text work : List ℕ) (t : State) (n number : ℕ)
    : Type 0 where
  pub next : (w : Rows) → Represents work (in_store text t.core.stored) t.core w (opened_in t)
      → Topped t.core (opened_in t) → t.core.tag ≤ n + 1
      → Declined (step sizes s (context_at text t.core w (opened_in t))) stream t.core.at
      number

pub record AdvancePost (s : Settings) (stream events text work : List ℕ) (st : State) (first : ℕ)
    (events' text' work' : List ℕ) (r : Advanced) : Type 0 where
  pub progress : Progress s stream events text work st first events' text' work' r.state
      r.index
  -- Number 0: the end document has come.
  pub over : r.number ≡ 0 → r.state.core.mode ≡ is_over
  pub going : 0 < r.number → r.state.core.mode ≡ is_over → ⊥
  -- A refusal: LIMIT after the last event that there may be, else that of the next event.
  pub full : 0 < r.number → r.index ≡ max_events → r.number ≡ number_of limit
  pub refused : 0 < r.number → r.index < max_events
      → Refuses s stream text' work' r.state r.index r.number
