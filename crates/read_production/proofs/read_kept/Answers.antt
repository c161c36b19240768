use mathlib.Core.Path.{refl}
use native.Mathlib.Omega.{arith}
use Rattle.std.proofs.lemmas.Result.{err_from_is_err_and}
use Rattle.settings.specs.Meant.{settings_from}
use Rattle.grammar_codes.proofs.Fixed.{kept-few}
use Rattle.read_field.proofs.View.{refusal-some}
use Rattle.read_production.proofs.Unlearned.{part-asks, kept-stopped, kept-named}
use Rattle.read_production.proofs.read_kept.Goals as goal

pub read_part-requires : goal.read_part-requires
read_part-requires c = part-asks c.requires
    (omega (
      arith,
      c.kept_count-count.ensures,
      kept-few c.args.o.comments c.args.o.instructions,
    ))

pub returns-in_err-p : goal.returns-in_err-p
unfolding settings_from
returns-in_err-p c =
    let p = err_from_is_err_and c.from_residual.result c.from_residual.ensures.1 in
    rw (p.1, p.2)
    (λ at start. kept-stopped (settings_from c.args.o) start c.kept_count-count.ensures
    c.in_err-p.ensures (refusal-some c.in_err-p.field-0.0))

pub returns : goal.returns
unfolding settings_from
returns c =
    rw c.fixed.ensures
    (λ at start. kept-named (settings_from c.args.o) start c.kept_count-count.ensures
    c.in_ok-p.ensures refl c.kept_at-kind.ensures)
