-- Calls one after the other, each given record and memory as the one before left them.
use Rattle.std.specs.Prelude.{List, [], ◌++◌, ℕ}
use Rattle.settings.specs.declared.SettingNumbers.{SettingNumbers}
use Rattle.receiver_piece.specs.reader.declared.ReadReply.{ReadReply}
use Rattle.receiver_piece.specs.receiver_record.declared.Receiver.{Receiver}
use Rattle.receiver_piece.specs.receiver_record.Record.{started_with, Lent}
use Rattle.receiver.specs.Calls.{Fed}

-- From the start, with what is lent then: these octets were handed over, in pieces of any lengths,
-- empty ones included; the record and the memory after them.
pub data Chain (s : SettingNumbers) (m : Lent) : List ℕ → Receiver → Lent → Type 0 where
  none-fed : Chain s m [] (started_with s) m
  one-fed : {os : List ℕ} {r r' : Receiver} {m₁ m' : Lent} {y : ReadReply} (p : List ℕ)
      → Chain s m os r m₁ → Fed r p m₁ r' m' y → Chain s m (os ++ p) r' m'
