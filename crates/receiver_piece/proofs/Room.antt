-- The tests before the octets, by the definitions.
use mathlib.Core.Path.{◌≡◌, sym}
use mathlib.Core.Bool.{true}
use mathlib.Core.List.{List}
use Prim.Native.Nat.{ℕ, ◌≤◌}
use lib.ListN.{length}
use lib.Dec.{leb}
use borrow.Author.Tests.{le-leb, eq-eqb, ne_eqb}
use Rattle.spec_fields.specs.Refusal.{Refusal, number_of, ended, refused, accepted}
use Rattle.spec_fields.proofs.Tests.{split}
use Rattle.spec_exi.specs.Settings.{SettingNumbers, meaningful, settings_of}
use Rattle.spec_exi.specs.Sizes.{sizes, max_stream, max_events, max_store, event_cells}
use Rattle.spec_exi.specs.Sizes.{reader_work}
use Rattle.spec_exi.specs.Reader.{Reading, ReaderRoom, enough_to_read, read_sized, read_stream}
use Rattle.spec_exi.specs.Reader as format
use Rattle.spec_exi.specs.Packets.{complete, so_far, receive}
use Rattle.receiver_phases.specs.receiver_record.Record.{Lent}
use Rattle.receiver_phases.specs.receiver_course.Course.{has_room}
use Rattle.receiver_piece.specs.Piece.{room_in, room_of, SameLengths}

pub room-is : (m : Lent) → enough_to_read sizes (room_of m) ≡ room_in m
unfolding enough_to_read room_of has_room event_cells max_events max_store reader_work
room-is m = split (leb max_stream (length m.held)) (λ e. rw e) (λ e. rw e)

-- The same lengths are the same room.
pub same-room : {m m' : Lent} → SameLengths m m' → room_of m' ≡ room_of m
unfolding room_of
same-room e = rw (e.held, e.events, e.text, e.work)

module _ (r : ReaderRoom) (o : SettingNumbers) (os : List ℕ) (a : enough_to_read sizes r ≡ true)
    (b : meaningful o ≡ true) (l : length os ≤ max_stream) where
  pub read_is : format.read r o os ≡ read_stream sizes (settings_of o) os
  unfolding format.read read_sized
  read_is = rw (a, b, le-leb (length os) max_stream l)

  -- Octets that are whole.
  pub receive-whole : {x : Reading} → read_stream sizes (settings_of o) os ≡ accepted x
      → receive r o os ≡ accepted x
  unfolding receive so_far
  receive-whole e = rw (read_is, e)

  module _ {k : Refusal} {i : ℕ} (e : read_stream sizes (settings_of o) os ≡ refused k i) where
    -- Octets that ended.
    pub receive-cut : number_of ended ≡ number_of k
        → receive r o os ≡ accepted (complete (settings_of o) os)
    unfolding receive so_far
    receive-cut n = rw (read_is, e, eq-eqb (number_of k) (number_of ended) (sym n))

    -- Octets that are refused.
    pub receive-refused : (number_of k ≡ number_of ended → ⊥) → receive r o os ≡ refused k i
    unfolding receive so_far
    receive-refused n = rw (read_is, e, ne_eqb (number_of k) (number_of ended) n)
