use borrow.Author.Rules.{rules}
use borrow.Author.Tests.{le-leb, lt-leb}
use Rattle.spec_fields.specs.Refusal.{number_of}
use Rattle.spec_exi.specs.Sizes.{max_stream}
use Rattle.receiver_course.specs.Course.{refused_after}
use Rattle.receiver_course.proofs.refused_after.Goals as goal

-- `refused_after` meets its contract.
pub returns-then-n-le-MAX_STREAM : goal.returns-then-n-le-MAX_STREAM
unfolding refused_after max_stream
returns-then-n-le-MAX_STREAM c = rw (le-leb c.args.n 16384 c.if-n-le-MAX_STREAM.true)

pub returns-then-y : goal.returns-then-y
unfolding refused_after max_stream number_of
returns-then-y c =
    rw (lt-leb c.args.n 16384 c.if-n-le-MAX_STREAM.false, c.if-y.true)

pub returns : goal.returns
unfolding refused_after max_stream number_of
returns c =
    rw (lt-leb c.args.n 16384 c.if-n-le-MAX_STREAM.false, c.if-y.false) c.refusal_at.ensures
