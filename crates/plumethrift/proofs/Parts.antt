-- What whoever holds a Handed knows of its two fields.
use mathlib.Core.List.{[], ◌∷◌, List}
use mir.Val.{Val}
use denote.Laws.{Is}
use denote.Struct.Laws as LL
use Rattle.receiver.specs.reader.contracts.ReadReply as Y
use Rattle.receiver.proofs.reader.ReadReply.TheLaws as Y'
use Rattle.receiver.specs.receiver_record.declared.Receiver.{Receiver}
use Rattle.receiver.specs.receiver_record.declared.Handed.{Handed}
use Rattle.receiver.specs.receiver_record.contracts.Receiver as T
use Rattle.receiver.proofs.receiver_record.Receiver.TheLaws as T'
use Rattle.receiver.specs.receiver_record.contracts.Handed as D
use Rattle.receiver.proofs.receiver_record.Handed.TheLaws as D'

abbrev pub row_vals : Receiver → List Val
row_vals = LL.vals T.the_type T'.the_laws

pub taken : (f : Handed) (ws : List Val) → Is D.the_row f ws → Is T.the_row f.receiver (row_vals f.receiver)
taken f ws is = (LL.owed D.the_type D'.the_laws f ws is).0

pub replied : (f : Handed) (ws : List Val) → Is D.the_row f ws → Is Y.the_row f.reply (Y'.lowered f.reply ∷ [])
replied f ws is = (LL.owed D.the_type D'.the_laws f ws is).1.0
