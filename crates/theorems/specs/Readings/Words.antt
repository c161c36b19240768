-- The words that the claims of readings use, each from the module that defines it.
pub use Rattle.spec_fields.specs.Prelude.{ℕ, true, not, List}
pub use Rattle.spec_fields.specs.Prelude.{[], map, Option, some, length, T, leb}
pub use Rattle.std.specs.Prelude.{ℤ, pos, ◌+◌, ◌*◌, ◌≤◌, ◌<◌, ◌≡◌, ◌↔◌, ◌&&◌, ◌∷◌}
pub use Rattle.text.specs.Text.{Text, text}
pub use Rattle.spec_fields.specs.Refusal as fields
pub use Rattle.spec_exi.specs.Event.{Event}
pub use Rattle.spec_exi.specs.Settings.{SettingNumbers, meaningful, settings_of}
pub use Rattle.spec_exi.specs.Sizes.{Sizes, sizes}
pub use Rattle.spec_exi.specs.Tables.{event_text}
pub use Rattle.spec_exi.specs.Context.{start, context_after}
pub use Rattle.spec_exi.specs.Strict.{strict}
pub use Rattle.spec_exi.specs.Lists.{every, Good as GoodList}
pub use Rattle.spec_exi.specs.Reader.{Reading as ReadList, ReaderRoom, enough_to_read, read}
pub use Rattle.spec_exi.specs.Writer.{Stored, WriterRoom, enough_to_write, write}
pub use Rattle.spec_exi.specs.Meaning.{AreOctets, stored_of, meant, Accepts}
-- stamps and movements, readings and their lists
pub use Rattle.spec_readings.specs.Calendar.{Stamp, exists, since_start, last_number, stamp_at}
pub use Rattle.spec_readings.specs.Calendar.{Earlier}
pub use Rattle.spec_readings.specs.Stamps.{stamp_size, stamp_text, stamp_of, milliseconds_of}
pub use Rattle.spec_readings.specs.Movements.{is_movement, movement_text, movement_of}
pub use Rattle.spec_readings.specs.Places.{name_points}
pub use Rattle.spec_readings.specs.Readings.{Reading, Fault, structure, bad_stamp, bad_movement}
pub use Rattle.spec_readings.specs.Readings.{not_later, limit, number_of, refused, accepted, as_list}
pub use Rattle.spec_readings.specs.Readings.{no_option, inside_sizes, read_list, max_readings}
pub use Rattle.spec_readings.specs.Readings.{ReadingsRoom, enough_for_readings, readings_of, checked}
pub use Rattle.spec_readings.specs.Readings.{laid_out, ListRoom, enough_for_list, list_of}
pub use Rattle.spec_readings.specs.Readings.{readings_reply, list_reply}
pub use Rattle.spec_readings.specs.Good.{increasing, Good, Child, list_with, Agree, total}
pub use Rattle.spec_readings.specs.Good.{movements_with, Roomy}
-- streams
pub use Rattle.spec_readings.specs.Streams.{refused_by, done, Found, found_in, from_stream, Written}
pub use Rattle.spec_readings.specs.Streams.{written_as, to_stream, found_reply, written_reply}
pub use Rattle.spec_readings.specs.Streams.{OfScope}
-- the refusals' names
pub use Rattle.refusal.specs.Names.{name_at, padded}
-- the worked examples
pub use Rattle.spec_readings.specs.Examples.{Says, stamps, movements, text_at, numbers, number_texts}
pub use Rattle.spec_readings.specs.Examples.{Read, list_examples, Checked, readings_examples}
pub use Rattle.spec_readings.specs.Examples.{CheckedSmall, small_readings, ReadSmall, small_lists}
pub use Rattle.spec_readings.specs.Examples.{one_laid, one_spans, rooms}
pub use Rattle.spec_readings.specs.Examples.{room_answers, list_replies, list_replies_are, replies}
pub use Rattle.spec_readings.specs.Examples.{replies_are, stored_answers, stored_answers_are, still}
pub use Rattle.spec_readings.specs.Examples.{rising}
pub use Rattle.spec_readings.specs.StreamExamples.{read_replies, read_replies_are, write_replies}
pub use Rattle.spec_readings.specs.StreamExamples.{write_replies_are}
