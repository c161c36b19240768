use mathlib.Core.Path.{refl}
use native.Mathlib.Omega.{arith}
use Rattle.std.proofs.lemmas.Result.{err_from_is_err_and}
use Rattle.settings.specs.Meant.{settings_from}
use Rattle.read_field.proofs.View.{refusal-some}
use Rattle.read_production.proofs.Returns.{fixed-asks}
use Rattle.read_production.proofs.Between.{at_top, here-few, fragment-sited, child-asks}
use Rattle.read_production.proofs.Between.{between-values}
use Rattle.read_production.proofs.Between.{between-asks, between-refused, between-fixed}
use Rattle.read_production.proofs.Between.{between-kept, between-learned}
use Rattle.read_production.proofs.read_between.Goals as goal

pub count_at-count-requires : goal.count_at-count-requires
count_at-count-requires c = fragment-sited c.requires

pub overflow_add-last : goal.overflow_add-last
unfolding settings_from
overflow_add-last c =
    omega (arith, c.count_at-count.ensures.within, here-few c.fixed_count.ensures)

pub overflow_add-last-2 : goal.overflow_add-last-2
unfolding settings_from
overflow_add-last-2 c =
    omega (
      arith,
      between-values c.requires (settings_from c.args.o) c.count_at-count.ensures
          c.fixed_count.ensures c.leads_on-on.ensures,
    )

pub read_part-requires : goal.read_part-requires
unfolding settings_from
read_part-requires c =
    between-asks c.requires (settings_from c.args.o) c.count_at-count.ensures
    c.fixed_count.ensures c.leads_on-on.ensures

pub returns-in_err-p : goal.returns-in_err-p
unfolding settings_from
returns-in_err-p c =
    let p = err_from_is_err_and c.from_residual.result c.from_residual.ensures.1 in
    rw (p.1, p.2)
    (λ top low. between-refused (settings_from c.args.o) (at_top top low c.requires)
    c.count_at-count.ensures c.fixed_count.ensures
    c.leads_on-on.ensures c.in_err-p.ensures (refusal-some c.in_err-p.field-0.0))

pub read_child-requires : goal.read_child-requires
read_child-requires c =
    child-asks c.requires

pub returns-then-p-count : goal.returns-then-p-count
unfolding settings_from
returns-then-p-count c =
    λ top low. between-learned (settings_from c.args.o) (at_top top low c.requires)
    c.count_at-count.ensures c.fixed_count.ensures
    c.leads_on-on.ensures c.in_ok-p.ensures refl
    c.if-p-count.true (c.read_child.ensures c.args.at)

pub returns-then-p-last : goal.returns-then-p-last
unfolding settings_from
returns-then-p-last c =
    rw c.fixed.ensures
    (λ top low. between-fixed (settings_from c.args.o) (at_top top low c.requires)
    c.count_at-count.ensures c.fixed_count.ensures
    c.leads_on-on.ensures c.in_ok-p.ensures refl
    c.if-p-count.false c.if-p-last.true c.fixed_kind-kind.ensures)

pub read_kept-requires : goal.read_kept-requires
read_kept-requires c =
    fixed-asks c.requires c.in_ok-p.ensures.inside

pub returns : goal.returns
unfolding settings_from
returns c =
    λ top low. between-kept (settings_from c.args.o) (at_top top low c.requires)
    c.count_at-count.ensures c.fixed_count.ensures
    c.leads_on-on.ensures c.in_ok-p.ensures refl
    c.if-p-last.false (c.read_kept.ensures c.args.at c.requires.place)
