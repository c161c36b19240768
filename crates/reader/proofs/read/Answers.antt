use mathlib.Core.Path.{ap, ◌∙◌}
use lib.ListN.{replicate}
use Prim.Native.Nat.{ℕ}
use Rattle.reader.proofs.Stream.{cleared-first, read_whole}
use Rattle.reader.proofs.read.Goals as goal

-- `read` meets its contract.
pub read_cleared-r-requires : goal.read_cleared-r-requires
read_cleared-r-requires c =
    cleared-first c.args.s c.args.stream.now c.args.events.now c.args.text.now c.args.work.now c.cells.ensures c.cells-2.ensures

pub returns-in-Ok : goal.returns-in-Ok
returns-in-Ok c =
    read_whole c.args.s c.args.stream.now c.args.events.now c.args.text.now c.args.work.now
    c.cells.ensures c.cells-2.ensures c.in-Ok.ensures
    (c.cells-3.ensures ∙ ap (λ (n : ℕ). replicate n 0) c.work-1.given)

pub returns-in-Err : goal.returns-in-Err
returns-in-Err c =
    read_whole c.args.s c.args.stream.now c.args.events.now c.args.text.now c.args.work.now
    c.cells.ensures c.cells-2.ensures c.in-Err.ensures
    (c.cells-3.ensures ∙ ap (λ (n : ℕ). replicate n 0) c.work-1.given)
