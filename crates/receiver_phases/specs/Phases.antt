-- What a call leaves where it reads no octets.
use Rattle.std.specs.Prelude.{ℕ, ◌+◌, cond, List, ◌++◌, length, take, drop, eqb}
use Rattle.receiver_course.specs.reader.declared.ReadReply.{ReadReply}
use Rattle.receiver_course.specs.receiver_record.declared.Receiver.{Receiver}
use Rattle.receiver_course.specs.receiver_record.Record.{is_refused, is_closed, with_reply, Lent, lent, zeros, cleared}
use Rattle.receiver_course.specs.receiver_record.Record.{Left, left}
use Rattle.receiver_course.specs.Course.{counted, refused_after}

-- The piece after the first n octets.
unfoldable pub kept : List ℕ → ℕ → List ℕ → List ℕ
kept held n piece = take n held ++ piece ++ drop (n + length piece) held

-- The same record and reply; memory as it was, or after a refusal cleared (P8).
unfoldable pub repeated : Receiver → Lent → Left
repeated r m = left r (cond (eqb r.reply.number 0) m (cleared m)) r.reply

-- Refused with this reply, the k octets counted, all memory cleared (P8).
unfoldable pub refused : Receiver → ReadReply → ℕ → Lent → Left
refused r y k m =
    let n = counted r.octets k in
    left (with_reply r is_refused n (refused_after n y)) (cleared m) (refused_after n y)

-- Closed with a refusal's reply, all memory cleared.
unfoldable pub closed_by : Receiver → ReadReply → Lent → Left
closed_by r y m = left (with_reply r is_closed r.octets y) (cleared m) y

-- Closed with the kept reply; event cells and text store are left.
unfoldable pub closed_whole : Receiver → Lent → Left
closed_whole r m =
    left (with_reply r is_closed r.octets r.reply)
    (lent (zeros m.held) m.events m.text (zeros m.work)) r.reply
