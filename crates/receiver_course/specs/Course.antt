-- Which way a call goes, by the record, the piece's length and the lengths of what is lent.
use Rattle.std.specs.Prelude.{ℕ, ◌+◌, ◌*◌, ◌≤◌, Bool, false, cond, ◌&&◌, ◌||◌, leb, ltb, eqb}
use Rattle.std.specs.Prelude.{Result, Ok, Err}
use Rattle.refusal.specs.declared.Refusal.{Refusal}
use Rattle.refusal.specs.Numbers.{number_in}
use Rattle.spec_exi.specs.Sizes.{max_stream, max_events, max_open, max_uris, max_names, max_values}
use Rattle.spec_exi.specs.Sizes.{max_grammars, max_learned, max_string, max_store, event_cells}
use Rattle.spec_exi.specs.Sizes.{reader_work}
use Rattle.spec_exi.specs.Settings.{meaningful}
use Rattle.spec_fields.specs.Refusal.{number_of, room, settings, long}
use Rattle.settings.specs.Meant.{numbers_of}
use Rattle.mem_layout.specs.Layout.{name_rows}
use Rattle.event_code.specs.Numbers.{in_tag, in_element}
use Rattle.mem_state.specs.declared.Core.{Core}
use Rattle.mem_state.specs.Holds.{Bounded}
use Rattle.receiver_record.specs.reader.declared.ReadReply.{ReadReply}
use Rattle.receiver_record.specs.declared.Receiver.{Receiver}
use Rattle.receiver_record.specs.Record.{is_started, going_on, is_refused, is_closed, refusal_at}
use Rattle.receiver_course.specs.declared.Course.{Course}
use Rattle.receiver_course.specs.declared.Course.TheVariants.{Repeats, Refused, Reads}

-- No lent part is too short: the octets that are held are among them.
unfoldable pub has_room : ℕ → ℕ → ℕ → ℕ → Bool
has_room held events text work =
    leb max_stream held && leb event_cells events && leb max_store text && leb reader_work work

-- Each value that joined has a code point in the store, and the capacity is within its size.
unfoldable pub values_in : Core → Bool
values_in c = leb c.values c.stored && leb c.capacity (max_values + 1)

-- The counts are within their sizes.
unfoldable pub tables_in : Core → Bool
tables_in c =
    values_in c && leb c.stored max_store && leb c.uris max_uris && leb c.names max_names
    && leb c.learned max_learned && leb c.grammars max_grammars

-- The mark is one that an event can have left, not too many elements are open, and one is just in
-- the states of its grammar.
unfoldable pub elements_in : Core → Bool
elements_in c =
    leb c.tag (max_events + 1) && leb c.depth max_open && ltb c.top name_rows
    && leb c.mode in_element && (leb in_tag c.mode || eqb c.depth 0)
    && (ltb c.mode in_tag || ltb 0 c.depth)

-- All numbers of a record that goes on are within their bounds, positions within the octets.
unfoldable pub numbers_in : Receiver → Bool
numbers_in r =
    tables_in r.state.core && elements_in r.state.core
    && leb r.state.core.at (8 * r.octets) && leb r.reply.events max_events
    && leb r.wait.at (8 * r.octets) && leb r.wait.left max_string

-- The bounds that these tests give.
pub record Within (r : Receiver) : Type 0 where
  pub place : r.state.core.at ≤ 8 * r.octets
  pub bounded : Bounded r.state.core
  pub few : r.reply.events ≤ max_events
  pub waits : r.wait.at ≤ 8 * r.octets
  pub awaited : r.wait.left ≤ max_string

-- A call can go on from the record: it is started, or its numbers are within their bounds.
unfoldable pub is_sound : Receiver → Bool
is_sound r =
    cond (eqb r.phase is_started) (eqb r.octets 0)
    (cond (eqb r.phase going_on && leb r.octets max_stream) (numbers_in r) false)

-- Closed, it repeats; refused, it stays so; then ROOM, SETTINGS (of the record's own numbers too),
-- LONG; else the octets are read.
unfoldable pub course_of : Receiver → ℕ → Bool → Course
course_of r k roomy =
    cond (eqb r.phase is_closed) Repeats
    (cond (eqb r.phase is_refused) (Refused r.reply)
    (cond roomy
    (cond (meaningful (numbers_of r.settings))
    (cond (is_sound r)
    (cond (leb (r.octets + k) max_stream) Reads (Refused (refusal_at (number_of long) 0)))
    (Refused (refusal_at (number_of settings) 0)))
    (Refused (refusal_at (number_of settings) 0)))
    (Refused (refusal_at (number_of room) 0))))

-- The course of a call of a receiver that is not closed or refused, by why it is refused, if so.
abbrev pub course_by : {A : Type 0} → Result A Refusal → Course
course_by (Ok _) = Reads
course_by (Err e) = Refused (refusal_at (number_in e) 0)

-- The octets so far: one more than a stream may have, where there are more.
unfoldable pub counted : ℕ → ℕ → ℕ
counted n k = cond (leb (n + k) max_stream) (n + k) (max_stream + 1)

-- The refusal after n octets: past the longest stream it is LONG, if not ROOM or SETTINGS (P8).
unfoldable pub refused_after : ℕ → ReadReply → ReadReply
refused_after n y =
    cond (leb n max_stream) y
    (cond (eqb y.number (number_of room) || eqb y.number (number_of settings)) y
    (refusal_at (number_of long) 0))
