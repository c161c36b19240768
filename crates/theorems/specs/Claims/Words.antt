-- The words that the claims use, each from the module that defines it.
pub use Rattle.std.specs.Prelude.{◌≤◌, ◌<◌, ◌≡◌, ◌↔◌, ◌∷◌, ◌++◌}
pub use Rattle.spec_fields.specs.Prelude.{ℕ, not, List, [], map}
pub use Rattle.spec_fields.specs.Prelude.{some, length, T}
pub use Rattle.text.specs.Text.{Text}
pub use Rattle.spec_fields.specs.Refusal.{number_of, is_zero_or, room, settings, long, header}
pub use Rattle.spec_fields.specs.Refusal.{character, name, limit, shape, place, accepted}
pub use Rattle.spec_exi.specs.Event.{Event}
pub use Rattle.spec_exi.specs.Settings.{Settings, SettingNumbers, meaningful, settings_of}
pub use Rattle.spec_exi.specs.Sizes.{max_stream, max_events, max_store, Sizes, sizes, base_sizes}
pub use Rattle.spec_exi.specs.Sizes.{NoLarger}
pub use Rattle.spec_exi.specs.Tables.{event_text}
pub use Rattle.spec_exi.specs.Values.{ValueRules}
pub use Rattle.spec_exi.specs.Context.{start, context_after}
pub use Rattle.spec_exi.specs.Strict.{strict}
pub use Rattle.spec_exi.specs.Lists.{EqualAttributes, BaseWellFormed, WellFormed, Good}
pub use Rattle.spec_exi.specs.Reader.{Reading, ReaderRoom, enough_to_read, read_sized, read, ReadReply}
pub use Rattle.spec_exi.specs.Reader.{read_reply}
pub use Rattle.spec_exi.specs.Writer.{Stored, WriterRoom, enough_to_write, write, WriteReply}
pub use Rattle.spec_exi.specs.Writer.{write_reply}
pub use Rattle.spec_exi.specs.Packets.{complete}
pub use Rattle.spec_exi.specs.Meaning.{AreOctets, stored_of, meant, Accepts, TooLong}
pub use Rattle.spec_exi.specs.Examples.Written.{Written}
pub use Rattle.spec_exi.specs.Examples.All.{WorkedExamples}
pub use Rattle.spec_limits.specs.AtSizes.{at_sizes}
