-- The claims of specs/ReadingsCells.antt: one line each, which points to its proof.
use Rattle.theorems.specs.ReadingsCells.{ReadingsCellTheorems}
use Rattle.theorems.proofs.ReadingsLeft as left
use Rattle.theorems.proofs.ReadingsRound as round

pub readings-cell-theorems : ReadingsCellTheorems
readings-cell-theorems =
    record {
      from_list = λ events text m m' r p. left.from-list-left p;
      to-list = λ stamps movements m m' r p. left.to-list-left p;
      from-stream = λ s octets m m' r p. left.from-stream-left p;
      to-stream = λ s stamps movements m m' r p. left.to-stream-left p;
      lists = record {
        found = λ events text c. round.found c;
        laid = λ stamps movements c. round.laid c;
        found_back = λ stamps movements w c. round.found_back w c;
        laid-back = λ events text c w l. round.laid-back c w l;
      };
      streams = λ s. record {
        read = λ octets c d rs. round.read-in c d rs;
        written = λ stamps movements c. round.written c;
        read_back = λ stamps movements w c. round.streams-back w c;
        written_back = λ octets c w. round.octets-back c w;
        as_read = λ stamps movements l w d. round.laid-as-read l w d;
      };
    }
