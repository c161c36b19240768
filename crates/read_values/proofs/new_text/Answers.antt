use native.Mathlib.Omega.{arith}
use mathlib.Core.Path.{refl}
use Rattle.name_rules.specs.Texts.{fault_in}
use Rattle.read_field.proofs.View.{refusal-some}
use Rattle.read_partition.proofs.Fields.{passed-on}
use Rattle.read_partition.proofs.Literals.{laid-room}
use Rattle.read_values.proofs.Texts.{text-cut, text-refused, text-laid}
use Rattle.read_values.proofs.new_text.Goals as goal

-- `new_text` meets its contract: each return is one law.
pub read_literal-requires : goal.read_literal-requires
read_literal-requires c = c.requires

pub returns-in_err-read-clause-text_post : goal.returns-in_err-read-clause-text_post
returns-in_err-read-clause-text_post c =
    rw (passed-on c.from_residual.ensures.1, c.in_err-read.ensures.kept)
    (text-cut c.requires c.in_err-read.ensures.read _
    (λ z. absurd (omega (arith, z, refusal-some c.in_err-read.field-0.0.refusal))))

pub dropped-requires : goal.dropped-requires
dropped-requires c = laid-room c.requires c.in_ok-read.ensures.read refl

pub returns-in-Err-clause-text_post : goal.returns-in-Err-clause-text_post
unfolding fault_in
returns-in-Err-clause-text_post c =
    rw c.dropped.ensures.stopped
    (text-refused c.requires c.in_ok-read.ensures.read _ refl c.in-Err.ensures
    (λ z. absurd (omega (arith, z, refusal-some c.in-Err.refusal))) c.dropped.ensures.cleared.text-is)

pub laid-requires : goal.laid-requires
laid-requires c = c.in_ok-read.ensures.read.ends refl

pub returns-clause-text_post : goal.returns-clause-text_post
unfolding fault_in
returns-clause-text_post c =
    rw c.laid.ensures
    (text-laid c.requires c.in_ok-read.ensures.read _ refl c.in_default.ensures refl)
