use mathlib.Core.Path.{refl}
use native.Mathlib.Omega.{arith}
use Rattle.receiver_read.proofs.pass_header.Goals as goal

-- `pass_header` meets its contract.
pub returns-then-at-eq0 : goal.returns-then-at-eq0
returns-then-at-eq0 c =
    record {
      unread = λ _. c.read_header.ensures;
      done = λ l. absurd (omega (
        arith,
        c.if-at-eq0.true,
      ));
    }

pub returns : goal.returns
returns c = record { unread = λ e. absurd (c.if-at-eq0.false e); done = λ _. refl }
