-- What a receiver's record and memory hold, and what a piece that is read leaves.
use Rattle.std.specs.Prelude.{ℕ, ◌+◌, ◌≤◌, ◌<◌, ◌≡◌, Bool, true, cond, ◌||◌, List, ◌++◌, length, take, drop, leb, eqb, Err}
use Rattle.spec_fields.specs.Refusal.{number_of, ended, Answer}
use Rattle.spec_exi.specs.Settings.{meaningful, settings_of}
use Rattle.spec_exi.specs.Sizes.{max_stream, max_events, max_open, max_store, event_cells}
use Rattle.spec_exi.specs.Sizes.{reader_work}
use Rattle.spec_exi.specs.Reader.{Reading, ReaderRoom, read_reply}
use Rattle.spec_exi.specs.Packets.{receive}
use Rattle.settings.specs.Meant.{numbers_of}
use Rattle.receiver_wait.specs.read_run.declared.Advanced.{Advanced}
use Rattle.receiver_phases.specs.reader.declared.ReadReply.{ReadReply}
use Rattle.receiver_phases.specs.reader.Read.{reply_of, events_filled, text_filled}
use Rattle.receiver_phases.specs.receiver_record.declared.Receiver.{Receiver}
use Rattle.receiver_phases.specs.receiver_record.declared.Handed.{Handed}
use Rattle.receiver_phases.specs.receiver_record.declared.Wait.{Wait}
use Rattle.receiver_phases.specs.receiver_record.Record.{is_started, going_on, is_refused, refusal_at, started_with}
use Rattle.receiver_phases.specs.receiver_record.Record.{with_reply, Lent, cleared, Left, handed}
use Rattle.receiver_phases.specs.receiver_course.Course.{has_room, is_sound, Within}
use Rattle.receiver_phases.specs.Phases.{refused}
use Rattle.receiver_wait.specs.receiver_read.On.{BeginPost, Underway, Stands, Awaiting}
use Rattle.receiver_strings.specs.declared.Stopped as strings
use Rattle.receiver_strings.specs.View.{Skipped, skipped_in}

-- ---- room

-- No lent part is too short.
abbrev pub room_in : Lent → Bool
room_in m =
    has_room (length m.held) (length m.events) (length m.text) (length m.work)

-- The room for the definitions: none, where the octets can't be kept.
unfoldable pub room_of : Lent → ReaderRoom
room_of m =
    cond (leb max_stream (length m.held))
    (record { events = length m.events; text = length m.text; work = length m.work })
    (record { events = 0; text = 0; work = 0 })

-- No length changes.
pub record SameLengths (m m' : Lent) : Type 0 where
  pub held : length m'.held ≡ length m.held
  pub events : length m'.events ≡ length m.events
  pub text : length m'.text ≡ length m.text
  pub work : length m'.work ≡ length m.work

-- ---- what record and memory hold

-- These octets are kept, and events of theirs are read.
pub record Carries (r : Receiver) (m : Lent) (os : List ℕ) : Type 0 where
  pub count : r.octets ≡ length os
  pub held : take (length os) m.held ≡ os
  pub underway : Underway (settings_of (numbers_of r.settings)) os m.events m.text m.work
      r.state r.reply.events
  pub awaits : 0 < r.wait.left
      → Awaiting (settings_of (numbers_of r.settings)) os m.text m.work r.state
      r.reply.events r.wait.at r.wait.left

-- The reply of a piece that is not refused.
unfoldable pub shown : ℕ → ℕ → ReadReply
shown events points = record { number = 0; index = 0; events = events; code_points = points }

-- A receiver that goes on, as the last call left it: these octets were handed over, and all their
-- complete events are read; where it awaits code points, the octets end among those of a literal.
pub record Holds (r : Receiver) (m : Lent) (os : List ℕ) : Type 0 where
  pub phase : r.phase ≡ going_on
  pub sound : is_sound r ≡ true
  pub count : r.octets ≡ length os
  pub held : take (length os) m.held ≡ os
  pub reply : r.reply ≡ shown r.reply.events r.state.core.stored
  pub stands : Stands (settings_of (numbers_of r.settings)) os m.events m.text m.work
      r.state r.reply.events
  pub awaits : 0 < r.wait.left
      → Awaiting (settings_of (numbers_of r.settings)) os m.text m.work r.state
      r.reply.events r.wait.at r.wait.left

-- ---- what a piece leaves

-- Reply and cells are those of an answer; m was lent.
pub record Told (a : Answer Reading) (m m' : Lent) (y : ReadReply) : Type 0 where
  pub reply : reply_of y ≡ read_reply a
  pub events : m'.events ≡ events_filled (length m.events) a
  pub text : m'.text ≡ text_filled (length m.text) a

-- Refused after n octets: the rest of the record stays, and all that is lent is cleared.
pub record Stopped (r : Receiver) (n : ℕ) (m : Lent) (r' : Receiver) (m' : Lent) (y : ReadReply) :
    Type 0 where
  pub receiver : r' ≡ with_reply r is_refused n y
  pub memory : m' ≡ cleared m

-- The octets so far are os, read on from a record r: reply and memory are those of the definition,
-- and it goes on with them, what is held behind them being as it was, or is refused.
pub record Took (r : Receiver) (os : List ℕ) (m : Lent) (r' : Receiver) (m' : Lent) (y : ReadReply)
    : Type 0 where
  pub told : Told (receive (room_of m) (numbers_of r.settings) os) m m' y
  pub goes : y.number ≡ 0 → Holds r' m' os
  pub behind : y.number ≡ 0 → drop (length os) m'.held ≡ drop (length os) m.held
  pub stops : 0 < y.number → Stopped r (length os) m r' m' y

-- ---- the answer

-- Numbers within their sizes.
pub record ConcludePre (r : Receiver) (k : ℕ) (a : Advanced) : Type 0 where
  pub few : r.octets + k ≤ max_stream
  pub up_to : a.index ≤ max_events
  pub stored : a.state.core.stored ≤ max_store

unfoldable pub went_on : Receiver → ℕ → Advanced → Wait → Handed
went_on r k a w =
    record {
      receiver = record {
        settings = r.settings;
        phase = going_on;
        octets = r.octets + k;
        reply = shown a.index a.state.core.stored;
        state = a.state;
        wait = w;
      };
      reply = shown a.index a.state.core.stored;
    }

-- It goes on where the octets ended or are whole; else it is refused.
unfoldable pub concluded : Receiver → ℕ → Advanced → Wait → Lent → Left
concluded r k a w m =
    cond (eqb a.number 0 || eqb a.number (number_of ended)) (handed (went_on r k a w) m)
    (refused r (refusal_at a.number a.index) k m)

-- Where code points are awaited, and one is refused.
abbrev pub stopped_as : strings.Stopped → Skipped
stopped_as x = skipped_in (Err x)

abbrev pub stayed : Receiver → Skipped → Advanced
stayed r s = record { number = s.number; index = r.reply.events; state = r.state }

abbrev pub awaited : Skipped → Wait
awaited s = record { at = s.at; left = s.left }

-- ---- the octets

pub record AdvancedPre (r : Receiver) (held : List ℕ) (n : ℕ) (events text work : List ℕ) : Type 0
  where
    pub within : Within r
    pub array : length r.state.opened ≡ max_open
    pub more : r.octets ≤ n
    pub size : n ≤ max_stream
    pub kept : max_stream ≤ length held
    pub cells : event_cells ≤ length events
    pub store : max_store ≤ length text
    pub rows : reader_work ≤ length work

-- The tests are passed.
pub record GoOnPre (r : Receiver) (p : List ℕ) (m : Lent) : Type 0 where
  pub room : room_in m ≡ true
  pub meant : meaningful (numbers_of r.settings) ≡ true
  pub few : r.octets + length p ≤ max_stream
  pub within : Within r

pub record GoOnPost (r : Receiver) (p : List ℕ) (m m' : Lent) (f : Handed) : Type 0 where
  pub settings : f.receiver.settings ≡ r.settings
  pub took : (os : List ℕ) → Carries r m os
      → Took r (os ++ p) m f.receiver m' f.reply

-- ---- the first piece

pub record BegunPost (r : Receiver) (events text work events' text' work' : List ℕ) (b : Receiver) :
    Type 0 where
  pub other : (r.phase ≡ is_started → ⊥)
      → (b ≡ r) × (events' ≡ events) × (text' ≡ text) × (work' ≡ work)
  pub first : r.phase ≡ is_started
      → (b ≡ with_reply (started_with r.settings) going_on 0 (refusal_at 0 0))
      × BeginPost events text work events' text' work'

-- ---- any piece

pub record PiecePre (r : Receiver) (p : List ℕ) (m : Lent) : Type 0 where
  pub room : room_in m ≡ true
  pub meant : meaningful (numbers_of r.settings) ≡ true
  pub sound : is_sound r ≡ true
  pub few : r.octets + length p ≤ max_stream

-- A record that goes on and holds nothing leaves the answer free (P8: "may give other answers").
pub record PiecePost (r : Receiver) (p : List ℕ) (m m' : Lent) (f : Handed) : Type 0 where
  pub settings : f.receiver.settings ≡ r.settings
  pub first : r.phase ≡ is_started
      → Took (started_with r.settings) p m f.receiver m' f.reply
  pub further : (os : List ℕ) → Holds r m os → Took r (os ++ p) m f.receiver m' f.reply
