-- The claim of specs/Pieces.antt: one line for each part, which points to its proof.
use Prim.Native.Nat.{ℕ}
use mathlib.Core.List.{List}
use Rattle.spec_exi.specs.Settings.{SettingNumbers}
use Rattle.spec_exi.specs.Reader.{ReaderRoom}
use Rattle.spec_exi.proofs.Packets as packets
use Rattle.theorems.specs.Pieces.{InPieces}

pub in_pieces : (r : ReaderRoom) (o : SettingNumbers) (octets : List ℕ) → InPieces r o octets
in_pieces r o octets =
    record {
      refused-alike = packets.refused-alike r o octets;
      stays-refused = packets.stays-refused r o octets;
      no_room = packets.no_room r o octets;
      no-meaning = packets.no-meaning r o octets;
      too_long = packets.too_long r o octets;
      accepted-alike = packets.accepted-alike r o octets;
      counted = packets.counted r o octets;
      grows = packets.grows r o octets;
      lookup = λ x e. record {
        texts = packets.texts-so-far r o octets x e;
        store = packets.store-so-far r o octets x e;
      };
    }
