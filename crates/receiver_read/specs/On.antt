-- What memory and state hold between two pieces of a stream, and what reading on asks and leaves.
use Rattle.std.specs.Prelude.{ℕ, ◌+◌, ◌*◌, ◌-◌, ◌≤◌, ◌<◌, ◌≡◌, List, [], ◌++◌, length, take, drop, get_or, replicate}
use Rattle.spec_fields.specs.Bits.{unpack}
use Rattle.spec_fields.specs.Refusal.{Refusal, number_of, ended, Answer, refused, accepted}
use Rattle.spec_fields.specs.Parser.{got}
use Rattle.spec_exi.specs.Settings.{Settings, header_of}
use Rattle.spec_exi.specs.Sizes.{sizes, max_events, max_open, max_store, event_cells, reader_work}
use Rattle.spec_exi.specs.Event.{Event}
use Rattle.spec_exi.specs.Tables.{Placed}
use Rattle.spec_exi.specs.Context.{Context, start}
use Rattle.spec_exi.specs.Reader.{Reading, read_character, step, read_header, read_stream}
use Rattle.spec_exi.specs.Packets.{complete}
use Rattle.event.specs.Cells.{cells_of_all}
use Rattle.event_code.specs.Numbers.{in_document, is_over}
use Rattle.mem_rows.specs.Rows.{Rows}
use Rattle.read_contract.specs.Outcome.{Declined}
use Rattle.mem_state.specs.Holds.{in_store, Bounded, Topped, Represents, context_at}
use Rattle.mem_initial.specs.Initial.{zeroed, with_text, with_rows}
use Rattle.read_literal.specs.Literal.{ZeroFrom}
use Rattle.read_literal.specs.Awaits.{Awaits}
use Rattle.grammar_open.specs.declared.State.{State}
use Rattle.grammar_open.specs.Opened.{opened_in}
use Rattle.read_header.specs.Header.{Passed, Passes}
use Rattle.reader.specs.read_run.declared.Advanced.{Advanced}
use Rattle.reader.specs.read_run.Events.{Steps}

-- ---- before the first event

pub record BeginPre (events text work : List ℕ) : Type 0 where
  pub cells : event_cells ≤ length events
  pub room : max_store ≤ length text
  pub rows : reader_work ≤ length work

pub record BeginPost (events text work events' text' work' : List ℕ) : Type 0 where
  pub events-is : events' ≡ replicate (length events) 0
  pub text-is : text' ≡ with_text (replicate (length text) 0) 0
  pub work-is : work' ≡ with_rows (zeroed work) 0
  -- no length changes
  pub zeroed-size : length (zeroed work) ≡ length work
  pub work-size : length work' ≡ length work
  pub text-size : length text' ≡ length text

-- ---- the array of open elements

pub record OutermostPost (st : State) (r : ℕ) : Type 0 where
  pub is : r ≡ get_or st.opened 0 0
  pub places : length st.opened ≡ max_open

-- ---- between two pieces

-- The header is not read yet, or these events are read after it, up to a context and a position.
pub data Headed (s : Settings) (stream : List ℕ) (es : List (Event Placed)) (c : Context)
    (mode at : ℕ) : Type 0 where
  before-it : at ≡ 0 → es ≡ [] → c ≡ start s → mode ≡ in_document → Headed s stream es c mode at
  after-it : (p : ℕ) → 0 < p → p ≤ at → at ≤ 8 * length stream
      → read_header (header_of s) (unpack stream) ≡ got tt (drop p (unpack stream))
      → Steps s (start s) (drop p (unpack stream)) es c (drop at (unpack stream))
      → Headed s stream es c mode at

-- So many events are read from a stream; their cells and literals are laid, with zeros after them,
-- and memory represents the context that they leave.
pub record Underway (s : Settings) (stream events text work : List ℕ) (st : State) (n : ℕ) : Type 0
  where
    pub rows : Rows
    pub represents : Represents work (in_store text st.core.stored) st.core rows (opened_in st)
    pub topped : Topped st.core (opened_in st)
    pub late : st.core.tag ≤ n + 1
    pub es : List (Event Placed)
    pub count : length es ≡ n
    pub cells : events ≡ cells_of_all es ++ replicate (length events - length (cells_of_all es)) 0
    pub zeros : ZeroFrom text st.core.stored
    pub headed : Headed s stream es (context_at text st.core rows (opened_in st)) st.core.mode
        st.core.at

-- Refused with this number at index i.
abbrev pub RefusedWith : Answer Reading → ℕ → ℕ → Type 0
RefusedWith a number i = (k : Refusal) × (number ≡ number_of k) × (a ≡ refused k i)

-- These are all events that are complete, and what the stream comes to if it is closed now: ENDED,
-- or the end document and the padding have come.
pub record Stands (s : Settings) (stream events text work : List ℕ) (st : State) (n : ℕ) : Type 0
  where
    pub underway : Underway s stream events text work st n
    pub shows : complete s stream
        ≡ record { events = underway.es; store = take st.core.stored text }
    pub whole : st.core.mode ≡ is_over → read_stream sizes s stream ≡ accepted (complete s stream)
    pub cut : (st.core.mode ≡ is_over → ⊥)
        → RefusedWith (read_stream sizes s stream) (number_of ended) n

-- ---- an event that is cut

-- Whatever rows memory holds, what is said of the context that they stand for.
abbrev pub InContext : List ℕ → List ℕ → State → ℕ → (Context → Type 0) → Type 0
InContext text work st n P =
    (w : Rows) → Represents work (in_store text st.core.stored) st.core w (opened_in st)
    → Topped st.core (opened_in st) → st.core.tag ≤ n + 1
    → P (context_at text st.core w (opened_in st))

-- After the header and n events the octets end in the next one.
pub record Ends (s : Settings) (stream text work : List ℕ) (st : State) (n : ℕ) : Type 0 where
  pub going : st.core.mode ≡ is_over → ⊥
  pub few : n < max_events
  pub begun : 0 < st.core.at
  pub next : InContext text work st n
      (λ c. Declined (step sizes s c) stream st.core.at (number_of ended))

-- They end among the code points of a literal: whatever follows, the event goes on with so many
-- code points from a position on.
pub record Awaiting (s : Settings) (stream text work : List ℕ) (st : State) (n at left : ℕ) : Type 0
  where
    pub going : st.core.mode ≡ is_over → ⊥
    pub few : n < max_events
    pub begun : 0 < st.core.at
    pub place : st.core.at ≤ 8 * length stream
    pub inside : at ≤ 8 * length stream
    pub next : InContext text work st n
        (λ c. Awaits (read_character s) (step sizes s c) (drop st.core.at (unpack stream))
        (drop at (unpack stream)) left)

-- ---- reading on

pub record HeaderPost (s : Settings) (stream : List ℕ) (at : ℕ) (r : Passed) : Type 0 where
  pub unread : at ≡ 0 → Passes (header_of s) stream r
  pub done : 0 < at → r ≡ record { number = 0; at = at }

-- By the definitions: it stands, or is refused by another number than ENDED. Then, too, cells and
-- text store are those of the events before, until who refuses clears them.
pub record Onward (s : Settings) (stream events' text' work' : List ℕ) (r : Advanced) : Type 0
  where
    pub laid : Underway s stream events' text' work' r.state r.index
    pub whole : r.number ≡ 0 → r.state.core.mode ≡ is_over
    pub over : r.number ≡ 0 → Stands s stream events' text' work' r.state r.index
    pub waits : r.number ≡ number_of ended
        → Stands s stream events' text' work' r.state r.index
    pub declined : 0 < r.number → (r.number ≡ number_of ended → ⊥)
        → RefusedWith (read_stream sizes s stream) r.number r.index

-- On every memory the numbers are within their bounds; what is answered, and left in memory, is by
-- the definitions where memory and state hold the events so far.
pub record OnPost (s : Settings) (stream events text work : List ℕ) (st : State) (first : ℕ)
    (events' text' work' : List ℕ) (r : Advanced) : Type 0 where
  pub up_to : r.index ≤ max_events
  pub bounded : Bounded r.state.core
  pub inside : r.state.core.at ≤ 8 * length stream
  pub ends : r.number ≡ number_of ended → 0 < r.state.core.at
      → Ends s stream text' work' r.state r.index
  pub meant : Underway s stream events text work st first → Onward s stream events' text' work' r
