use Rattle.read_field.proofs.Groups.{going-none, going-past, Turn, weight-small, group-small, turn-zero}
use Rattle.read_field.proofs.Groups.{turn-large, turn_last, turn_more}
use mathlib.Core.Path.{◌≡◌, refl}
use Prim.Native.Nat.{◌-◌, ◌+◌}
use native.Mathlib.Omega.{arith}
use Rattle.read_field.proofs.onward.Goals as goal
use Rattle.read_field.proofs.onward.Goals.{After-wide-o}

-- `read_field::onward` meets its contract. The loop's invariant: what is left to read comes to the
-- whole.
-- where the loop has peeked at an octet
turn : (c : After-wide-o) →
    Turn c.args.s.now c.args.at c.args.first
    c.loop.place (4 - c.loop.counter)
    c.loop.weight c.loop.low c.wide-o.result
turn c =
    record {
      going = c.loop.invariant;
      some = omega (arith, c.loop-test.true);
      room = c.if-s-place.false;
      peeked = rw c.wide-o.ensures c.octet_in.ensures;
    }

pub loop-init : goal.loop-init
loop-init c = record { inside = c.requires.there.place; below = omega arith; weighs = refl; same = refl }

pub returns-then-s-place : goal.returns-then-s-place
returns-then-s-place c =
    going-past c.loop.invariant (omega (arith, c.loop-test.true)) c.if-s-place.true

pub returns-then-o-eq0 : goal.returns-then-o-eq0
returns-then-o-eq0 c = turn-zero (turn (goal.at.returns-then-o-eq0 c).After-wide-o) c.if-o-eq0.true

pub overflow_mul-v : goal.overflow_mul-v
overflow_mul-v c = omega (arith, group-small (turn (goal.at.overflow_mul-v c).After-wide-o))

pub overflow_add-v : goal.overflow_add-v
overflow_add-v c =
    let t = turn (goal.at.overflow_add-v c).After-wide-o in
    omega (arith, t.going.below, weight-small t, group-small t)

pub returns-then-v-gt-MOST : goal.returns-then-v-gt-MOST
returns-then-v-gt-MOST c = turn-large (turn (goal.at.returns-then-v-gt-MOST c).After-wide-o) (omega arith) c.if-o-lt128.true c.if-v-gt-MOST.true

pub returns-then-o-lt128 : goal.returns-then-o-lt128
returns-then-o-lt128 c = turn_last (turn (goal.at.returns-then-o-lt128 c).After-wide-o) (omega arith) c.if-o-lt128.true c.if-v-gt-MOST.false

pub overflow_mul-low : goal.overflow_mul-low
overflow_mul-low c =
    let t = turn (goal.at.overflow_mul-low c).After-wide-o in
    omega (arith, weight-small t, (turn_more t c.if-o-lt128.false).below)

pub overflow_add-low : goal.overflow_add-low
overflow_add-low c =
    let t = turn (goal.at.overflow_add-low c).After-wide-o in
    omega (arith, weight-small t, (turn_more t c.if-o-lt128.false).below)

pub overflow_mul-weight : goal.overflow_mul-weight
overflow_mul-weight c = omega (arith, weight-small (turn (goal.at.overflow_mul-weight c).After-wide-o))

pub loop-preserved : goal.loop-preserved
loop-preserved c =
    let e : 4 - c.loop.counter - 1 ≡ 4 - (c.loop.counter + 1) = omega arith in
    rw e at (turn_more (turn (goal.at.loop-preserved c).After-wide-o) c.if-o-lt128.false)

pub returns : goal.returns
returns c = going-none c.loop.invariant (omega (arith, c.loop-test.false))
