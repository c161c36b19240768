-- What the reader's functions ask and leave.
use Rattle.std.specs.Prelude.{ℕ, ◌≤◌, ◌≡◌, List, length, replicate}
use Rattle.spec_fields.specs.Refusal.{Answer}
use Rattle.spec_exi.specs.Sizes.{max_stream, max_store, event_cells, reader_work}
use Rattle.spec_exi.specs.Reader.{Reading, ReaderRoom, ReadReply, read_reply}
use Rattle.spec_exi.specs.Reader as format
use Rattle.settings.specs.Meant.{numbers_of}
use Rattle.settings.specs.declared.SettingNumbers.{SettingNumbers}
unfoldable pub use Rattle.read_body.specs.Reply.{events_filled, text_filled}
use Rattle.reader.specs.declared.ReadReply as declared

-- ---- the public function

-- What is lent to the reader, cell by cell.
pub record ReaderLent : Type 0 where
  pub events : List ℕ
  pub text : List ℕ
  pub work : List ℕ

abbrev pub lent : List ℕ → List ℕ → List ℕ → ReaderLent
lent events text work = record { events = events; text = text; work = work }

-- The lengths of the lent parts.
unfoldable pub reader_room : ReaderLent → ReaderRoom
reader_room m =
    record { events = length m.events; text = length m.text; work = length m.work }

-- The definitions' answer for what is lent.
unfoldable pub answer_of : SettingNumbers → List ℕ → ReaderLent → Answer Reading
answer_of s stream m = format.read (reader_room m) (numbers_of s) stream

-- The numbers of the code's reply.
unfoldable pub reply_of : declared.ReadReply → ReadReply
reply_of r =
    record {
      number = r.number;
      index = r.index;
      events = r.events;
      code_points = r.code_points;
    }

-- The reply r, and what is left of the lent parts m: m'.
pub record ReadPost (s : SettingNumbers) (stream : List ℕ) (m m' : ReaderLent)
    (r : declared.ReadReply) : Type 0 where
  -- Number, index and counts.
  pub reply : reply_of r ≡ read_reply (answer_of s stream m)
  -- The cells of the answered events, and zeros behind them; after a refusal zeros alone.
  pub events : m'.events ≡ events_filled (length m.events) (answer_of s stream m)
  -- The text store, and zeros behind it; after a refusal zeros alone.
  pub text : m'.text ≡ text_filled (length m.text) (answer_of s stream m)
  pub work : m'.work ≡ replicate (length m.work) 0

-- ---- on the way there

-- Event cells and text store are zero.
pub record Cleared (events text : List ℕ) : Type 0 where
  pub no_events : events ≡ replicate (length events) 0
  pub no_text : text ≡ replicate (length text) 0

-- Behind the tests: a stream that is not too long, and enough is lent.
pub record ReadStreamPre (stream events text work : List ℕ) : Type 0 where
  pub size : length stream ≤ max_stream
  pub cells : event_cells ≤ length events
  pub room : max_store ≤ length text
  pub rows : reader_work ≤ length work
  pub cleared : Cleared events text
