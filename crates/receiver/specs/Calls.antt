-- What the two calls leave, of what they find.
use Rattle.std.specs.Prelude.{ℕ, ◌≡◌, cond, List, ◌++◌, length, eqb}
use Rattle.spec_fields.specs.Refusal.{number_of, ended}
use Rattle.event_code.specs.Numbers.{is_over}
use Rattle.receiver_piece.specs.reader.declared.ReadReply.{ReadReply}
use Rattle.receiver_piece.specs.receiver_record.declared.Receiver.{Receiver}
use Rattle.receiver_piece.specs.receiver_record.Record.{is_started, refusal_at, started_with, Lent, Left, left}
use Rattle.receiver_piece.specs.receiver_course.declared.Course.{Course}
use Rattle.receiver_piece.specs.receiver_course.declared.Course.TheVariants.{Repeats, Refused, Reads}
use Rattle.receiver_piece.specs.receiver_course.Course.{course_of}
use Rattle.receiver_piece.specs.receiver_phases.Phases.{repeated, refused, closed_by, closed_whole}
use Rattle.receiver_piece.specs.Piece.{room_in, SameLengths, Holds, Took}

-- A piece p is handed over with a record and what is lent; record, memory and reply after it. A
-- closed or refused receiver is answered outright, and so is a piece that is refused before it is
-- read. The octets are read by the definitions: from the start whatever memory holds, later where
-- record and memory hold octets. A record that goes on and holds none leaves the answer free (P8:
-- "may give other answers, safely").
pub record Fed (r : Receiver) (p : List ℕ) (m : Lent) (r' : Receiver) (m' : Lent) (y : ReadReply) :
    Type 0 where
  pub repeats : course_of r (length p) (room_in m) ≡ Repeats → left r' m' y ≡ repeated r m
  pub refuses : (z : ReadReply) → course_of r (length p) (room_in m) ≡ Refused z
      → left r' m' y ≡ refused r z (length p) m
  pub starts : course_of r (length p) (room_in m) ≡ Reads → r.phase ≡ is_started
      → Took (started_with r.settings) p m r' m' y
  pub goes_on : course_of r (length p) (room_in m) ≡ Reads → (os : List ℕ) → Holds r m os
      → Took r (os ++ p) m r' m' y
  pub settings : r'.settings ≡ r.settings
  pub lengths : SameLengths m m'

-- Closed where octets could be read on: whole, or ENDED after the complete events.
unfoldable pub closed_now : Receiver → Lent → Left
closed_now r m =
    cond (eqb r.phase is_started) (closed_by r (refusal_at (number_of ended) 0) m)
    (cond (eqb r.state.core.mode is_over) (closed_whole r m)
    (closed_by r (refusal_at (number_of ended) r.reply.events) m))

unfoldable pub closed_to : Course → Receiver → Lent → Left
closed_to Repeats r m = repeated r m
closed_to (Refused z) r m = closed_by r z m
closed_to Reads r m = closed_now r m

-- The closing call: outright for every record and all memory.
pub record Closed (r : Receiver) (m : Lent) (r' : Receiver) (m' : Lent) (y : ReadReply) : Type 0
  where
    pub is : left r' m' y ≡ closed_to (course_of r 0 (room_in m)) r m
