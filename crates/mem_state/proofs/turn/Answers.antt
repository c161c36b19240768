use mathlib.Core.Path.{refl}
use native.Mathlib.Omega.{arith}
use borrow.Author.Tests.{ne_eqb}
use Rattle.mem_state.specs.Commit.{turned, top_after, depth_after, tag_number}
use Rattle.spec_exi.specs.Grammar.{kind_number}
use Rattle.mem_state.proofs.turn.Goals as goal

-- src/lib.rt:217:5
-- src/lib.rt:219:9
pub returns-then-kind-eq-AT : goal.returns-then-kind-eq-AT
unfolding turned top_after depth_after tag_number kind_number
returns-then-kind-eq-AT c = rw (c.mode_after.ensures, c.if-kind-eq-AT.true) refl

-- src/lib.rt:221:13
-- src/lib.rt:221:13
-- src/lib.rt:224:19
-- src/lib.rt:225:9
pub returns-then-kind-eq-SE : goal.returns-then-kind-eq-SE
unfolding turned top_after depth_after tag_number kind_number
returns-then-kind-eq-SE c = rw (c.mode_after.ensures, c.if-kind-eq-SE.true) refl

-- src/lib.rt:228:19
pub overflow_sub-d : goal.overflow_sub-d
unfolding kind_number
overflow_sub-d c =
    let asks = c.requires in
    omega (arith, asks.some c.if-kind-eq-EE.true)

-- src/lib.rt:229:9
pub returns-then-kind-eq-EE : goal.returns-then-kind-eq-EE
unfolding turned top_after depth_after tag_number kind_number
returns-then-kind-eq-EE c =
    rw (c.mode_after.ensures, c.if-kind-eq-EE.true) refl

-- src/lib.rt:212:1
pub returns : goal.returns
unfolding turned top_after depth_after tag_number kind_number
returns c =
    rw (
      c.mode_after.ensures,
      ne_eqb _ _ c.if-kind-eq-AT.false,
      ne_eqb _ _ c.if-kind-eq-SE.false,
      ne_eqb _ _ c.if-kind-eq-EE.false,
    ) refl
