-- The claims of specs/Cells.antt: one line each, which points to its proof.
use Rattle.event.proofs.Examples.{cell-examples}
use Rattle.event.proofs.Laws.{cells-mean}
use Rattle.theorems.specs.Cells.{CellTheorems}
use Rattle.theorems.proofs.Left as left
use Rattle.theorems.proofs.Round as round

pub cell-theorems : CellTheorems
cell-theorems =
    record {
      demand-1-read = λ s stream m m' r p. left.demand-1-read p;
      k1-accepted = round.k1-accepted;
      demand-1-write = λ s events text m m' r p. left.demand-1-write p;
      demand-2 = λ s. record {
        cells-mean = cells-mean;
        written = λ events text w stream. round.written w stream;
        read_back = λ events text w c l. round.read_back w c l;
        written_back = λ stream c w. round.written_back c w;
      };
      demand-3 = λ s. record {
        a-list = λ stream c. left.a-list c;
        exact = λ stream c l. round.exact c l;
        one_list = λ stream c d l k. round.one_list c d l k;
        one-stream = λ a b c d l. round.one-stream c d l;
        no-prefix = λ a b c d. round.no-prefix c d;
      };
      event-cells = cell-examples;
    }
