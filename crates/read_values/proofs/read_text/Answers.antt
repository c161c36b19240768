use mathlib.Core.Path.{refl}
use borrow.Author.Rules.{rules}
use Rattle.read_partition.proofs.Fields.{field-kept, field-told, passed-on}
use Rattle.read_values.proofs.Texts.{number-refused, number_read}
use Rattle.read_values.proofs.Bounds.{in-stream, number_fits}
use Rattle.read_values.proofs.read_text.Goals as goal

pub unsigned-requires : goal.unsigned-requires
unsigned-requires c = in-stream c.requires

pub returns-in_err-field-clause-text_post : goal.returns-in_err-field-clause-text_post
returns-in_err-field-clause-text_post c =
    let t = field-told _ _ c.map_err.ensures.cases c.in_err-field.was c.unsigned.ensures
    (λ k q. search rules) in
    rw (passed-on c.from_residual.ensures.1, t.2) (number-refused c.requires t.1 _ refl)

pub new_text-requires : goal.new_text-requires
new_text-requires c =
    number_fits c.requires
    (field-kept _ _ c.map_err.ensures.cases c.in_ok-field.was c.unsigned.ensures) refl

pub returns-clause-text_post : goal.returns-clause-text_post
returns-clause-text_post c =
    number_read c.requires
    (field-kept _ _ c.map_err.ensures.cases c.in_ok-field.was c.unsigned.ensures) _ refl
    c.new_text.ensures.text_post
