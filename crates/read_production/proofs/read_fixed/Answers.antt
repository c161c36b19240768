use mathlib.Core.Path.{refl}
use native.Mathlib.Omega.{arith}
use Rattle.std.proofs.lemmas.Result.{err_from_is_err_and}
use Rattle.settings.specs.Meant.{settings_from}
use Rattle.read_field.proofs.View.{refusal-some}
use Rattle.read_production.proofs.Unlearned.{part-asks, main-values}
use Rattle.read_production.proofs.Unlearned.{fixed-stopped, fixed_named, fixed-lower}
use Rattle.read_production.proofs.read_fixed.Goals as goal

pub overflow_add-here : goal.overflow_add-here
unfolding settings_from
overflow_add-here c =
    omega (
      arith,
      main-values (settings_from c.args.o) _ c.fixed_count-here.ensures
          c.leads_on-on.ensures,
    )

pub read_part-requires : goal.read_part-requires
unfolding settings_from
read_part-requires c =
    part-asks c.requires
    (main-values (settings_from c.args.o) _ c.fixed_count-here.ensures
    c.leads_on-on.ensures)

pub returns-in_err-p : goal.returns-in_err-p
unfolding settings_from
returns-in_err-p c =
    let p = err_from_is_err_and c.from_residual.result c.from_residual.ensures.1 in
    rw (p.1, p.2)
    (λ at start. fixed-stopped (settings_from c.args.o) _ start c.fixed_count-here.ensures
    c.leads_on-on.ensures c.in_err-p.ensures (refusal-some c.in_err-p.field-0.0))

pub returns-then-p-here : goal.returns-then-p-here
unfolding settings_from
returns-then-p-here c =
    rw c.fixed.ensures
    (λ at start. fixed_named (settings_from c.args.o) _ start c.fixed_count-here.ensures
    c.leads_on-on.ensures c.in_ok-p.ensures refl c.if-p-here.true c.fixed_kind.ensures)

pub read_kept-requires : goal.read_kept-requires
read_kept-requires c = record { size = c.requires.size; place = c.in_ok-p.ensures.inside }

pub returns : goal.returns
unfolding settings_from
returns c =
    λ at start. fixed-lower (settings_from c.args.o) _ start c.fixed_count-here.ensures
    c.leads_on-on.ensures c.in_ok-p.ensures refl c.if-p-here.false (c.read_kept.ensures at start)
