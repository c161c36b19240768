use Rattle.text.proofs.Rest.{lengths_differ, same_start, same_stop, same-on, same_end}
use native.Mathlib.Omega.{arith}
use Rattle.text.proofs.same_text.Goals as goal

-- `text::same_text` meets its contract. The loop's invariant: the first k and the last k code points are the same.
pub returns-then-n-b : goal.returns-then-n-b
returns-then-n-b c = lengths_differ _ _ c.if-n-b.true

pub loop-k-init : goal.loop-k-init
loop-k-init c = same_start _ _

pub returns-then-a-k : goal.returns-then-a-k
returns-then-a-k c = same_stop _ _ _ c.if-a-k.true

pub returns-then-a-l : goal.returns-then-a-l
returns-then-a-l c = same_stop _ _ _ c.if-a-l.true

pub loop-k-preserved : goal.loop-k-preserved
loop-k-preserved c =
    let loop = c.loop-k in
    same-on c.args.a.now c.args.b.now loop.k (omega (arith, c.loop-k-test.true)) loop.invariant c.if-a-k.false
    c.if-a-l.false

pub returns : goal.returns
returns c =
    same_end c.args.a.now c.args.b.now c.loop-k.k (omega (arith, c.loop-k-test.false)) c.if-n-b.false
    c.loop-k.invariant
