use mathlib.Core.Path.{refl}
use borrow.Author.Tests.{ne_eqb}
use Rattle.spec_exi.specs.Grammar.{kind_number}
use Rattle.mem_rows.specs.Rows.{mode_after}
use Rattle.mem_state.proofs.mode_after.Goals as goal

-- The start of a fragment.
pub returns-then-fragment : goal.returns-then-fragment
unfolding mode_after kind_number
returns-then-fragment c = rw (c.in-0.is, c.if-fragment.true) refl

-- The end of an inner element.
pub returns-then-depth-ne1 : goal.returns-then-depth-ne1
unfolding mode_after kind_number
returns-then-depth-ne1 c = rw (c.in-4.is, ne_eqb _ _ c.if-depth-ne1.true) refl

-- The end of an element of the fragment.
pub returns-then-fragment-2 : goal.returns-then-fragment-2
unfolding mode_after kind_number
returns-then-fragment-2 c = rw (c.in-4.is, c.if-depth-ne1.false, c.if-fragment-2.true) refl

-- The start of a document.
pub returns-else-fragment : goal.returns-else-fragment
unfolding mode_after kind_number
returns-else-fragment c = rw (c.in-0.is, c.if-fragment.false) refl

pub returns-in-1 : goal.returns-in-1
unfolding mode_after kind_number
returns-in-1 c = rw c.in-1.is refl

pub returns-in-2 : goal.returns-in-2
unfolding mode_after kind_number
returns-in-2 c = rw c.in-2.is refl

pub returns-in-3 : goal.returns-in-3
unfolding mode_after kind_number
returns-in-3 c = rw c.in-3.is refl

-- The end of the root.
pub returns-else-fragment-2 : goal.returns-else-fragment-2
unfolding mode_after kind_number
returns-else-fragment-2 c = rw (c.in-4.is, c.if-depth-ne1.false, c.if-fragment-2.false) refl

pub returns-in_default : goal.returns-in_default
unfolding mode_after kind_number
returns-in_default c =
    let n = c.in_default.in_default-own.rest in
    rw (
      ne_eqb _ _ n.0.0.0.0.1,
      ne_eqb _ _ n.0.0.0.1,
      ne_eqb _ _ n.0.0.1,
      ne_eqb _ _ n.0.1,
      ne_eqb _ _ n.1,
    ) c.content_after.ensures
