use borrow.Author.Rules.{rules}
use Rattle.event.proofs.Laws.{zeros-whole, data-shape}
use Rattle.event.proofs.given.Goals as goal

-- `given` meets its contract: what the four calls answered decides the definition's test.
pub returns-then-unused : goal.returns-then-unused
returns-then-unused c =
    zeros-whole _ _ _ _ _ (rw (
      ← c.unused-4.ensures,
      ← c.unused-3.ensures,
      ← c.unused-2.ensures,
      ← c.unused.ensures,
    ) c.if-unused.true)

pub returns-else-unused : goal.returns-else-unused
returns-else-unused c =
    data-shape _ _ _ _ _ (rw (
      ← c.unused-4.ensures,
      ← c.unused-3.ensures,
      ← c.unused-2.ensures,
      ← c.unused.ensures,
    ) c.if-unused.false)
