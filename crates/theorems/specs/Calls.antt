-- A call of the reader and of the writer, by its contract alone, and what it leaves: of these the
-- claims in Cells.antt speak.
use Rattle.std.specs.Prelude.{◌*◌, ◌-◌, ◌≡◌, ◌++◌}
use Rattle.spec_fields.specs.Prelude.{ℕ, List, some, length, take, replicate}
use Rattle.spec_fields.specs.Prelude.{T}
use Rattle.text.specs.Text.{Text}
use Rattle.spec_exi.specs.Event.{Event}
use Rattle.spec_exi.specs.Settings.{Settings, meaningful, settings_of}
use Rattle.spec_exi.specs.Sizes.{sizes, cells_per_event}
use Rattle.spec_exi.specs.Reader.{enough_to_read}
use Rattle.spec_exi.specs.Writer.{enough_to_write}
use Rattle.spec_exi.specs.Meaning.{meant}
use Rattle.settings.specs.Meant.{numbers_of}
use Rattle.settings.specs.declared.SettingNumbers.{SettingNumbers}
use Rattle.event.specs.Cells.{events_of}
use Rattle.receiver.specs.reader.declared.ReadReply.{ReadReply}
use Rattle.receiver.specs.reader.Read.{ReaderLent, reader_room, ReadPost}
use Rattle.readings.specs.writer.declared.WriteReply.{WriteReply}
use Rattle.readings.specs.writer.Write.{WriterLent, writer_room, WritePost}

-- n cells, all zero.
abbrev pub zeros : ℕ → List ℕ
zeros n = replicate n 0

-- n cells: these, and zeros after them.
abbrev pub up_to : ℕ → List ℕ → List ℕ
up_to n xs = xs ++ zeros (n - length xs)

-- The settings that the numbers mean.
abbrev pub asked : SettingNumbers → Settings
asked s = settings_of (numbers_of s)

-- Event cells mean the list l over a text store.
abbrev pub Hold : List ℕ → Text → List (Event Text) → Type 0
Hold events text l = meant text (events_of events) ≡ some l

-- ---- the reader

-- What was lent, what is left in it, and the reply.
pub record ReadCall (s : SettingNumbers) (stream : List ℕ) : Type 0 where
  pub before : ReaderLent
  pub after : ReaderLent
  pub reply : ReadReply
  pub post : ReadPost s stream before after reply

module _ {s : SettingNumbers} {stream : List ℕ} (c : ReadCall s stream) where
  -- Enough was lent, and the settings' numbers have a meaning.
  abbrev pub CanRead : Type 0
  CanRead = T (enough_to_read sizes (reader_room c.before)) × T (meaningful (numbers_of s))

  -- The event cells that the reply counts.
  abbrev pub events_left : List ℕ
  events_left = take (cells_per_event * c.reply.events) c.after.events

  -- The code points that it counts.
  abbrev pub text_left : Text
  text_left = take c.reply.code_points c.after.text

  -- Accepted, and what is counted means l.
  abbrev pub Leaves : List (Event Text) → Type 0
  Leaves l = (c.reply.number ≡ 0) × Hold events_left text_left l

-- ---- the writer

-- What was lent, what is left in it, and the reply.
pub record WriteCall (s : SettingNumbers) (events : List ℕ) (text : Text) : Type 0 where
  pub before : WriterLent
  pub after : WriterLent
  pub reply : WriteReply
  pub post : WritePost s events text before after reply

module _ {s : SettingNumbers} {events : List ℕ} {text : Text} (c : WriteCall s events text) where
  -- Enough was lent, and the settings' numbers have a meaning.
  abbrev pub CanWrite : Type 0
  CanWrite = T (enough_to_write sizes (writer_room c.before)) × T (meaningful (numbers_of s))

  -- The octets that the reply counts.
  abbrev pub octets_left : List ℕ
  octets_left = take c.reply.octets c.after.octets

  -- Written, and what is counted is the stream.
  abbrev pub Gives : List ℕ → Type 0
  Gives stream = (c.reply.number ≡ 0) × (octets_left ≡ stream)
