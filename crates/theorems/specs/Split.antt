-- What is proved of a receiver's calls, one after the other: however a stream is cut, each call
-- answers by the octets so far, and the closing one as the whole reader. `Fed` and `Closed` are the
-- contracts of the running functions (crates/receiver).
use Rattle.std.specs.Prelude.{◌≤◌, ◌<◌, ◌≡◌, ◌++◌}
use Rattle.spec_fields.specs.Prelude.{ℕ, cond, List, length, eqb}
use Rattle.spec_exi.specs.Sizes.{max_stream}
use Rattle.spec_exi.specs.Reader.{read}
use Rattle.spec_exi.specs.Packets.{receive}
use Rattle.settings.specs.Meant.{numbers_of}
use Rattle.settings.specs.declared.SettingNumbers.{SettingNumbers}
use Rattle.receiver.specs.reader.declared.ReadReply.{ReadReply}
use Rattle.receiver.specs.reader.Read.{answer_of}
use Rattle.receiver.specs.reader.Read as reader
use Rattle.receiver.specs.receiver_record.declared.Receiver.{Receiver}
use Rattle.receiver.specs.receiver_record.Record.{Lent, zeros, cleared, left}
use Rattle.receiver.specs.receiver_piece.Piece.{room_of, Told}
use Rattle.receiver.specs.Calls.{Fed, Closed}
use Rattle.receiver.specs.Chain.{Chain}

-- A receiver is started with settings s, and m is lent to the first call; record and memory come
-- back unchanged each time (`Chain`).
pub record Split (s : SettingNumbers) (m : Lent) : Type 0 where
  -- After a piece p: number, index and counts, event cells, text store, and zeros after both, are
  -- those of the definition for all octets so far.
  pub piece : {os : List ℕ} {r r' : Receiver} {m₁ m' : Lent} {y : ReadReply} (p : List ℕ)
      → Chain s m os r m₁ → Fed r p m₁ r' m' y
      → Told (receive (room_of m) (numbers_of s) (os ++ p)) m m' y
  -- From a refusal on all that is lent is zero.
  pub clears : {os : List ℕ} {r r' : Receiver} {m₁ m' : Lent} {y : ReadReply} (p : List ℕ)
      → Chain s m os r m₁ → Fed r p m₁ r' m' y → 0 < y.number → m' ≡ cleared m
  -- The closing call's are those of the whole reader, and work memory is left zero.
  pub close : {os : List ℕ} {r r' : Receiver} {m₁ m' : Lent} {y : ReadReply}
      → Chain s m os r m₁ → Closed r m₁ r' m' y
      → Told (read (room_of m) (numbers_of s) os) m m' y
      × (m'.held ≡ zeros m.held) × (m'.work ≡ zeros m.work)
  -- That is the answer of `reader::read`, where the octets can be kept.
  pub whole : (os : List ℕ) → max_stream ≤ length m.held
      → read (room_of m) (numbers_of s) os
      ≡ answer_of s os (reader.lent m.events m.text m.work)

-- After any close, with whatever is lent then: the same record and reply; memory stays as it is, or
-- after a refusal is cleared.
pub record Repeats : Type 0 where
  pub fed-again : {r r' r'' : Receiver} {m m' n n'' : Lent} {y z : ReadReply} (p : List ℕ)
      → Closed r m r' m' y → Fed r' p n r'' n'' z
      → left r'' n'' z ≡ left r' (cond (eqb y.number 0) n (cleared n)) y
  pub closed-again : {r r' r'' : Receiver} {m m' n n'' : Lent} {y z : ReadReply}
      → Closed r m r' m' y → Closed r' n r'' n'' z
      → left r'' n'' z ≡ left r' (cond (eqb y.number 0) n (cleared n)) y
