-- The claims of specs/Split.antt: one line each, which points to its proof.
use mathlib.Core.Path.{◌≡◌}
use mathlib.Core.List.{List}
use Prim.Native.Nat.{ℕ, ◌≤◌}
use lib.ListN.{length}
use borrow.Author.Tests.{le-leb}
use Rattle.spec_exi.specs.Sizes.{max_stream}
use Rattle.spec_exi.specs.Reader.{read}
use Rattle.settings.specs.Meant.{numbers_of}
use Rattle.settings.specs.declared.SettingNumbers.{SettingNumbers}
use Rattle.receiver.specs.reader.Read.{reader_room, answer_of}
use Rattle.receiver.specs.reader.Read as reader
use Rattle.receiver.specs.receiver_record.Record.{Lent}
use Rattle.receiver.specs.receiver_piece.Piece.{room_of}
use Rattle.receiver.proofs.Split.{pieces, closing}
use Rattle.receiver.proofs.Repeats.{repeats, repeats-close}
use Rattle.theorems.specs.Split.{Split, Repeats}

as_read : (s : SettingNumbers) (m : Lent) (os : List ℕ) → max_stream ≤ length m.held
    → read (room_of m) (numbers_of s) os ≡ answer_of s os (reader.lent m.events m.text m.work)
unfolding room_of answer_of reader_room
as_read s m os l = rw (le-leb max_stream (length m.held) l)

pub split-claims : (s : SettingNumbers) (m : Lent) → Split s m
split-claims s m =
    record {
      piece = λ p c f. (pieces s m p c f).told;
      clears = λ p c f. (pieces s m p c f).clears;
      close = λ c f. let e = closing s m c f in (e.told, e.held, e.work);
      whole = as_read s m;
    }

pub repeats-claims : Repeats
repeats-claims = record { fed-again = repeats; closed-again = repeats-close }
