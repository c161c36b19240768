-- A stream in pieces: what is told after each, byte-aligned.
use Rattle.std.specs.Prelude.{◌≡◌, ◌∷◌}
use Rattle.spec_exi.specs.Packets.{receive}
use Rattle.spec_exi.specs.Examples.{String, List, [], map, ReadReply, read_reply}
use Rattle.spec_exi.specs.Examples.{full, reply, in_octets, octets}

-- The octets so far, and the reply to them. Each is replied to as it says.
pub record Tell (xs : List (String × ReadReply)) : Type 0 where
  pub replies : map (λ x. read_reply (receive full in_octets (octets x.0))) xs ≡ map (λ x. x.1) xs

-- Number, index, events, code points after each.
unfoldable pub pieces : List (String × ReadReply)
pieces =
    -- <a>bb</a>, by and by: an event counts, and its literals are shown, once it is complete.
    ("", reply 0 0 0 99)
    ∷ ("80", reply 0 0 1 99)
    ∷ ("80 01 02", reply 0 0 1 99)
    ∷ ("80 01 02 61 03 04", reply 0 0 2 100)
    ∷ ("80 01 02 61 03 04 62", reply 0 0 2 100)
    ∷ ("80 01 02 61 03 04 62 62", reply 0 0 3 102)
    ∷ ("80 01 02 61 03 04 62 62 00", reply 0 0 5 102)
    -- One octet more: TAIL.
    ∷ ("80 01 02 61 03 04 62 62 00 00", reply 13 5 0 0)
    ∷ ("80 01 02 61 00 00", reply 13 4 0 0)
    -- Other refusals, at the piece that shows them.
    ∷ ("80 01 00", reply 9 1 0 0)
    ∷ ("81", reply 4 0 0 0)
    -- An attribute's name is there, and its value is to come.
    ∷ ("80 01 02 61 01 01 02 6B", reply 0 0 2 100)
    -- A second one with that name is SHAPE (P3) once its value is there.
    ∷ ("80 01 02 61 01 01 02 6B 03 78 00", reply 0 0 3 102)
    ∷ ("80 01 02 61 01 01 02 6B 03 78 00 02", reply 14 3 0 0) ∷ []
