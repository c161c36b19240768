-- `shown_as` meets its contract: each arm knows the code point or its range.
use Rattle.std.proofs.Common.{arith}
use Rattle.exi_text.specs.Shown.{shown_as}
use Rattle.exi_text.proofs.Shows.{plain, control, beyond}
use Rattle.exi_text.proofs.shown_as.Goals as goal

pub returns-in-9 : goal.returns-in-9
unfolding shown_as
returns-in-9 c = rw c.in-9.is

pub returns-in-10 : goal.returns-in-10
unfolding shown_as
returns-in-10 c = rw c.in-10.is

pub returns-in-13 : goal.returns-in-13
unfolding shown_as
returns-in-13 c = rw c.in-13.is

pub returns-in-34 : goal.returns-in-34
unfolding shown_as
returns-in-34 c = rw c.in-34.is

pub returns-in-92 : goal.returns-in-92
unfolding shown_as
returns-in-92 c = rw c.in-92.is

pub returns-in-32-to-126 : goal.returns-in-32-to-126
returns-in-32-to-126 c = plain _ (omega arith) (omega arith) (λ e. omega arith) (λ e. omega arith)

pub returns-in_default : goal.returns-in_default
returns-in_default c = control _ (omega arith) (λ e. omega arith) (λ e. omega arith) (λ e. omega arith)

pub returns-in_default-2 : goal.returns-in_default-2
returns-in_default-2 c = beyond _ (omega arith)
