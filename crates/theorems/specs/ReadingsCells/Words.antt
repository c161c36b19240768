-- The words that the claims of readings over cells use, each from the module that defines it.
pub use Rattle.std.specs.Prelude.{◌*◌, ◌-◌, ◌<◌, ◌≡◌, ◌↔◌}
pub use Rattle.spec_fields.specs.Prelude.{ℕ, List, length, drop}
pub use Rattle.text.specs.Text.{Text}
pub use Rattle.spec_exi.specs.Event.{Event}
pub use Rattle.spec_exi.specs.Sizes.{cells_per_event}
pub use Rattle.spec_exi.specs.Strict.{strict}
pub use Rattle.spec_exi.specs.Lists.{Good as GoodList}
pub use Rattle.spec_exi.specs.Reader.{Reading as ReadList}
pub use Rattle.spec_exi.specs.Meaning.{AreOctets}
pub use Rattle.spec_readings.specs.Readings.{Reading, as_list}
pub use Rattle.spec_readings.specs.Good.{Good}
pub use Rattle.spec_readings.specs.Streams.{done, Found, Written, OfScope}
-- what the code's values mean: settings' numbers, cells as readings, the replies
pub use Rattle.settings.specs.declared.SettingNumbers.{SettingNumbers}
pub use Rattle.settings.specs.Meant.{numbers_of}
pub use Rattle.readings_judge.specs.Verdict.{readings_in}
pub use Rattle.readings_from.specs.declared.ReadingsReply.{ReadingsReply}
pub use Rattle.readings_to.specs.declared.ListReply.{ListReply}
pub use Rattle.readings.specs.writer.declared.WriteReply.{WriteReply}
-- what is lent, and the contracts
pub use Rattle.readings_from.specs.Reply.{ReadingsLent, FromListPost}
pub use Rattle.readings_to.specs.Reply.{ListLent, ToListPost}
pub use Rattle.readings.specs.Stream.{FromLent, found_of, FromStreamPost, ToLent, written_of}
pub use Rattle.readings.specs.Stream.{ToStreamPost}
pub use Rattle.theorems.specs.Calls.{zeros, asked, Hold, ReadCall, CanRead, events_left}
pub use Rattle.theorems.specs.Calls.{text_left, Leaves, WriteCall, octets_left}
pub use Rattle.theorems.specs.ReadingsCalls.{FromListCall, CanFind, stamps_found}
pub use Rattle.theorems.specs.ReadingsCalls.{movements_found, Finds, ToListCall, CanLay}
pub use Rattle.theorems.specs.ReadingsCalls.{events_laid, text_laid, Lays, FromStreamCall}
pub use Rattle.theorems.specs.ReadingsCalls.{CanFindIn, stamps_in, movements_in, FindsIn}
pub use Rattle.theorems.specs.ReadingsCalls.{ToStreamCall, CanStream, octets_in, Streams}
