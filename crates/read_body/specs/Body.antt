-- What reading the events of a stream and the padding leaves, and the answer from a state on.
use Rattle.std.specs.Prelude.{ℕ, ◌*◌, ◌≤◌, ◌≡◌, List, length, drop, replicate}
use Rattle.spec_fields.specs.Bits.{unpack}
use Rattle.spec_fields.specs.Refusal.{Answer}
use Rattle.spec_exi.specs.Settings.{Settings}
use Rattle.spec_exi.specs.Sizes.{sizes, max_stream, max_events}
use Rattle.spec_exi.specs.Reader.{Reading, read_events}
use Rattle.mem_rows.specs.Rows.{Rows}
use Rattle.mem_state.specs.Holds.{in_store, Topped, Represents, context_at}
use Rattle.read_literal.specs.Literal.{ZeroFrom}
use Rattle.grammar_open.specs.declared.State.{State}
use Rattle.grammar_open.specs.Opened.{opened_in}
use Rattle.read_run.specs.Run.{EventsLaid, TextLaid}
use Rattle.event_code.specs.Numbers.{is_over}
use Rattle.read_body.specs.Reply.{BodyReply, Attempted, Filled}

-- A position in the stream.
pub record PaddingPre (stream : List ℕ) (at : ℕ) : Type 0 where
  pub size : length stream ≤ max_stream
  pub place : at ≤ 8 * length stream

-- No event is read yet, and memory holds these rows.
pub record BodyReady (events text work : List ℕ) (st : State) (w : Rows) : Type 0 where
  pub represents : Represents work (in_store text st.core.stored) st.core w (opened_in st)
  pub topped : Topped st.core (opened_in st)
  pub late : st.core.tag ≤ 1
  pub going : st.core.mode ≡ is_over → ⊥
  pub none : events ≡ replicate (length events) 0
  pub zeros : ZeroFrom text st.core.stored

-- The definitions' answer from a state on.
abbrev pub answer_from : Settings → List ℕ → List ℕ → State → Rows → Answer Reading
answer_from s stream text st w =
    read_events max_events sizes s (context_at text st.core w (opened_in st))
    (drop st.core.at (unpack stream))

-- Before the clearing.
pub record RunPost (s : Settings) (stream events text work : List ℕ) (st : State)
    (events' text' : List ℕ) (r : BodyReply) : Type 0 where
  pub events-laid : r.number ≡ 0 → EventsLaid events 0 events' r.events
  pub text-laid : r.number ≡ 0 → TextLaid text st.core.stored text' r.code_points
  pub meant : (w : Rows) → BodyReady events text work st w
      → Attempted (answer_from s stream text st w) events text events' text' r

-- After it: on every memory what is laid, or zeros; and by the definitions.
pub record BodyPost (s : Settings) (stream events text work : List ℕ) (st : State)
    (events' text' : List ℕ) (r : BodyReply) : Type 0 where
  pub events-laid : r.number ≡ 0 → EventsLaid events 0 events' r.events
  pub text-laid : r.number ≡ 0 → TextLaid text st.core.stored text' r.code_points
  pub no-events : (r.number ≡ 0 → ⊥) → events' ≡ replicate (length events) 0
  pub no_text : (r.number ≡ 0 → ⊥) → text' ≡ replicate (length text) 0
  pub meant : (w : Rows) → BodyReady events text work st w
      → Filled (answer_from s stream text st w) events text events' text' r
