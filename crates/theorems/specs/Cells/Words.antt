-- The words that the claims over cells use, each from the module that defines it.
pub use Rattle.std.specs.Prelude.{◌*◌, ◌-◌, ◌<◌, ◌≡◌, ◌↔◌, ◌∷◌, ◌++◌}
pub use Rattle.spec_fields.specs.Prelude.{ℕ, List, [], map}
pub use Rattle.spec_fields.specs.Prelude.{length, drop, T}
pub use Rattle.text.specs.Text.{Text}
pub use Rattle.spec_fields.specs.Refusal.{Refusal, number_of, refused, accepted}
pub use Rattle.spec_exi.specs.Event.{Event}
pub use Rattle.spec_exi.specs.Sizes.{sizes, cells_per_event}
pub use Rattle.spec_exi.specs.Tables.{Placed}
pub use Rattle.spec_exi.specs.Strict.{strict}
pub use Rattle.spec_exi.specs.Lists.{Good}
pub use Rattle.spec_exi.specs.Reader.{Reading, enough_to_read}
pub use Rattle.spec_exi.specs.Meaning.{AreOctets, stored_of}
pub use Rattle.spec_exi.specs.Examples.{in_octets}
-- what the code's values mean: settings' numbers, nine cells as a stored event, the replies
pub use Rattle.settings.specs.declared.SettingNumbers.{SettingNumbers}
pub use Rattle.settings.specs.Meant.{numbers_of}
pub use Rattle.event.specs.Cells.{events_of, cells_of_all}
pub use Rattle.event.specs.Examples.{CellExamples}
pub use Rattle.receiver.specs.reader.declared.ReadReply.{ReadReply}
pub use Rattle.receiver.specs.reader.Read.{reply_of as readNumbers}
pub use Rattle.readings.specs.writer.declared.WriteReply.{WriteReply}
pub use Rattle.readings.specs.writer.Write.{reply_of as writeNumbers}
-- what is lent, the definitions' answer for it, and the contracts
pub use Rattle.receiver.specs.reader.Read.{ReaderLent, reader_room, ReadPost, answer_of as readAnswer}
pub use Rattle.readings.specs.writer.Write.{WriterLent, writer_room, WritePost, answer_of as writeAnswer}
pub use Rattle.theorems.specs.Claims.{Demand1Reader, Demand1Writer}
pub use Rattle.theorems.specs.Calls.{zeros, up_to, asked, Hold, ReadCall, CanRead, events_left}
pub use Rattle.theorems.specs.Calls.{text_left, Leaves, WriteCall, CanWrite, octets_left, Gives}
