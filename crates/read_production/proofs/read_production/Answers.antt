use mathlib.Core.Path.{refl}
use native.Mathlib.Omega.{arith}
use Rattle.std.proofs.lemmas.Result.{err_from_is_err_and}
use Rattle.settings.specs.Meant.{settings_from}
use Rattle.read_field.proofs.View.{refusal-some}
use Rattle.read_production.proofs.Returns.{inner-lower, inner-learned}
use Rattle.read_production.proofs.Returns.{own-most, inner-refused, inner-end}
use Rattle.read_production.proofs.Between.{at_none}
use Rattle.read_production.proofs.Returns.{fixed-asks, site-asks, learned-asks, part-asked}
use Rattle.read_production.proofs.read_production.Goals as goal

pub read_outer-requires : goal.read_outer-requires
read_outer-requires c =
    record {
      production_pre = at_none c.requires;
      mode_lt_in_tag = c.if-mode-lt-IN_TAG.true;
    }

pub returns-then-mode-lt-IN_TAG : goal.returns-then-mode-lt-IN_TAG
returns-then-mode-lt-IN_TAG c =
    c.read_outer.ensures c.args.top c.requires.low

pub site_in-site-requires : goal.site_in-site-requires
site_in-site-requires c = c.requires.low

pub count_at-count-requires : goal.count_at-count-requires
count_at-count-requires c = site-asks c.requires c.args.mode c.site_in-site.ensures

pub overflow_add-last : goal.overflow_add-last
overflow_add-last c =
    omega (arith, c.count_at-count.ensures.within, own-most c.args.mode c.own_count.ensures)

pub overflow_add-last-2 : goal.overflow_add-last-2
overflow_add-last-2 c =
    omega (arith, c.count_at-count.ensures.within, own-most c.args.mode c.own_count.ensures)

pub read_part-requires : goal.read_part-requires
read_part-requires c =
    part-asked c.requires c.count_at-count.ensures c.args.mode c.own_count.ensures

pub returns-in_err-p : goal.returns-in_err-p
unfolding settings_from
returns-in_err-p c =
    let p = err_from_is_err_and c.from_residual.result c.from_residual.ensures.1 in
    rw (p.1, p.2)
    (inner-refused (settings_from c.args.o) _ c.requires c.if-mode-lt-IN_TAG.false
    c.site_in-site.ensures c.count_at-count.ensures
    c.own_count.ensures c.in_err-p.ensures (refusal-some c.in_err-p.field-0.0))

pub read_learned-requires : goal.read_learned-requires
read_learned-requires c =
    learned-asks c.requires c.args.mode c.site_in-site.ensures

pub returns-then-p-count : goal.returns-then-p-count
unfolding settings_from
returns-then-p-count c =
    inner-learned (settings_from c.args.o) _ c.requires c.if-mode-lt-IN_TAG.false
    c.site_in-site.ensures c.count_at-count.ensures
    c.own_count.ensures c.in_ok-p.ensures refl c.if-p-count.true
    (c.read_learned.ensures c.args.at)

pub returns-then-p-last : goal.returns-then-p-last
unfolding settings_from
returns-then-p-last c =
    rw c.fixed.ensures
    (inner-end (settings_from c.args.o) _ c.requires c.if-mode-lt-IN_TAG.false
    c.site_in-site.ensures c.count_at-count.ensures
    c.own_count.ensures c.in_ok-p.ensures refl c.if-p-count.false c.if-p-last.true)

pub read_fixed-requires : goal.read_fixed-requires
read_fixed-requires c =
    fixed-asks c.requires c.in_ok-p.ensures.inside

pub returns-in_err-read_fixed : goal.returns-in_err-read_fixed
unfolding settings_from
returns-in_err-read_fixed c =
    let p = err_from_is_err_and c.from_residual-in_err-read_fixed.result
    c.from_residual-in_err-read_fixed.ensures.1 in
    rw (p.1, p.2)
    (inner-lower (settings_from c.args.o) _ c.requires c.if-mode-lt-IN_TAG.false
    c.site_in-site.ensures c.count_at-count.ensures
    c.own_count.ensures c.in_ok-p.ensures refl c.if-p-last.false
    (rw c.copied-s.ensures at (c.in_err-read_fixed.ensures c.args.at c.requires.place)))

pub returns : goal.returns
unfolding settings_from
returns c =
    rw c.copied.ensures
    (inner-lower (settings_from c.args.o) _ c.requires c.if-mode-lt-IN_TAG.false
    c.site_in-site.ensures c.count_at-count.ensures
    c.own_count.ensures c.in_ok-p.ensures refl c.if-p-last.false
    (rw c.copied-s.ensures at (c.in_ok-read_fixed.ensures c.args.at c.requires.place)))
