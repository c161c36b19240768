use mathlib.Core.Path.{refl}
use borrow.Author.Tests.{ne_eqb}
use Rattle.mem_state.proofs.content_after.Goals as goal

pub returns-then-mode-eq-IN_TAG : goal.returns-then-mode-eq-IN_TAG
returns-then-mode-eq-IN_TAG c = rw c.if-mode-eq-IN_TAG.true refl

pub returns : goal.returns
returns c = rw (ne_eqb _ _ c.if-mode-eq-IN_TAG.false) refl
