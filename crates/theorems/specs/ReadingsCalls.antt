-- Calls between lists, streams and readings, by their contracts alone, and what they leave: of
-- these the claims in ReadingsCells.antt speak.
use Rattle.std.specs.Prelude.{◌*◌, ◌≡◌}
use Rattle.spec_fields.specs.Prelude.{ℕ, List, take, T}
use Rattle.text.specs.Text.{Text}
use Rattle.spec_exi.specs.Event.{Event}
use Rattle.spec_exi.specs.Settings.{meaningful}
use Rattle.spec_exi.specs.Sizes.{sizes, cells_per_event}
use Rattle.spec_exi.specs.Reader.{enough_to_read}
use Rattle.spec_exi.specs.Writer.{enough_to_write}
use Rattle.spec_readings.specs.Readings.{Reading, enough_for_readings, enough_for_list}
use Rattle.settings.specs.Meant.{numbers_of}
use Rattle.settings.specs.declared.SettingNumbers.{SettingNumbers}
use Rattle.readings_judge.specs.Verdict.{readings_in}
use Rattle.readings_from.specs.declared.ReadingsReply.{ReadingsReply}
use Rattle.readings_from.specs.Reply.{ReadingsLent, readings_room, FromListPost}
use Rattle.readings_to.specs.declared.ListReply.{ListReply}
use Rattle.readings_to.specs.Reply.{ListLent, list_room, ToListPost}
use Rattle.readings.specs.writer.declared.WriteReply.{WriteReply}
use Rattle.readings.specs.Stream.{FromLent, FromStreamPost, ToLent, ToStreamPost}
use Rattle.readings.specs.Stream as stream
use Rattle.theorems.specs.Calls.{Hold}

-- ---- a list to readings

pub record FromListCall (events : List ℕ) (text : Text) : Type 0 where
  pub before : ReadingsLent
  pub after : ReadingsLent
  pub reply : ReadingsReply
  pub post : FromListPost events text before after reply

module _ {events : List ℕ} {text : Text} (c : FromListCall events text) where
  -- Enough was lent.
  abbrev pub CanFind : Type 0
  CanFind = T (enough_for_readings (readings_room c.before))

  -- The cells that the reply counts.
  abbrev pub stamps_found : List ℕ
  stamps_found = take c.reply.readings c.after.stamps

  abbrev pub movements_found : List ℕ
  movements_found = take c.reply.readings c.after.movements

  -- Accepted, and what is counted are these readings.
  abbrev pub Finds : List Reading → Type 0
  Finds rs = (c.reply.number ≡ 0) × (readings_in stamps_found movements_found ≡ rs)

-- ---- readings to a list

pub record ToListCall (stamps movements : List ℕ) : Type 0 where
  pub before : ListLent
  pub after : ListLent
  pub reply : ListReply
  pub post : ToListPost stamps movements before after reply

module _ {stamps movements : List ℕ} (c : ToListCall stamps movements) where
  abbrev pub CanLay : Type 0
  CanLay = T (enough_for_list (list_room c.before))

  abbrev pub events_laid : List ℕ
  events_laid = take (cells_per_event * c.reply.events) c.after.events

  abbrev pub text_laid : Text
  text_laid = take c.reply.code_points c.after.text

  -- Laid, and what is counted means l.
  abbrev pub Lays : List (Event Text) → Type 0
  Lays l = (c.reply.number ≡ 0) × Hold events_laid text_laid l

-- ---- a stream to readings

pub record FromStreamCall (s : SettingNumbers) (octets : List ℕ) : Type 0 where
  pub before : FromLent
  pub after : FromLent
  pub reply : ReadingsReply
  pub post : FromStreamPost s octets before after reply

module _ {s : SettingNumbers} {octets : List ℕ} (c : FromStreamCall s octets) where
  abbrev pub CanFindIn : Type 0
  CanFindIn =
      T (enough_for_readings (stream.readings_room c.before))
      × T (enough_to_read sizes (stream.reader_room c.before))

  abbrev pub stamps_in : List ℕ
  stamps_in = take c.reply.readings c.after.stamps

  abbrev pub movements_in : List ℕ
  movements_in = take c.reply.readings c.after.movements

  abbrev pub FindsIn : List Reading → Type 0
  FindsIn rs = (c.reply.number ≡ 0) × (readings_in stamps_in movements_in ≡ rs)

-- ---- readings to a stream

pub record ToStreamCall (s : SettingNumbers) (stamps movements : List ℕ) : Type 0 where
  pub before : ToLent
  pub after : ToLent
  pub reply : WriteReply
  pub post : ToStreamPost s stamps movements before after reply

module _ {s : SettingNumbers} {stamps movements : List ℕ} (c : ToStreamCall s stamps movements)
  where
    abbrev pub CanStream : Type 0
    CanStream =
        (T (enough_for_list (stream.list_room c.before))
        × T (enough_to_write sizes (stream.writer_room c.before)))
        × T (meaningful (numbers_of s))

    -- The octets that the reply counts.
    abbrev pub octets_in : List ℕ
    octets_in = take c.reply.octets c.after.octets

    -- Written, and what is counted is the stream.
    abbrev pub Streams : List ℕ → Type 0
    Streams octets = (c.reply.number ≡ 0) × (octets_in ≡ octets)
