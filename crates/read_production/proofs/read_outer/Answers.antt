use mathlib.Core.Path.{sym}
use native.Mathlib.Omega.{arith}
use Rattle.std.proofs.lemmas.Result.{err_from_is_err_and}
use Rattle.settings.specs.Meant.{settings_from}
use Rattle.read_production.proofs.Returns.{fixed-asks, outer-read}
use Rattle.read_production.proofs.Between.{at_top}
use Rattle.read_production.proofs.read_outer.Goals as goal

pub returns-in_err-read_between : goal.returns-in_err-read_between
returns-in_err-read_between c =
    let p = err_from_is_err_and c.from_residual.result c.from_residual.ensures.1 in
    rw (p.1, p.2)
    (rw (sym c.copied-s.ensures) (rw c.if-mode-eq-IN_FRAGMENT.true c.in_err-read_between.ensures))

pub returns-then-mode-eq-IN_FRAGMENT : goal.returns-then-mode-eq-IN_FRAGMENT
returns-then-mode-eq-IN_FRAGMENT c =
    rw c.copied.ensures (rw (sym c.copied-s.ensures)
    (rw c.if-mode-eq-IN_FRAGMENT.true c.in_ok-read_between.ensures))

pub read_fixed-requires : goal.read_fixed-requires
read_fixed-requires c =
    let pre = c.requires.production_pre in
    fixed-asks pre pre.place

pub returns-in_err-read_fixed : goal.returns-in_err-read_fixed
unfolding settings_from
returns-in_err-read_fixed c =
    let p = err_from_is_err_and c.from_residual-in_err-read_fixed.result
    c.from_residual-in_err-read_fixed.ensures.1 in
    let pre = c.requires.production_pre in
    rw (p.1, p.2) (rw (sym c.copied-s.ensures)
    (λ top low. outer-read (settings_from c.copied-s.result) _ (at_top top low pre)
    (omega (arith, c.if-mode-eq-IN_FRAGMENT.false, c.requires.mode_lt_in_tag))
    (c.in_err-read_fixed.ensures _ pre.place)))

pub returns : goal.returns
unfolding settings_from
returns c =
    let pre = c.requires.production_pre in
    rw c.copied-2.ensures (rw (sym c.copied-s.ensures)
    (λ top low. outer-read (settings_from c.copied-s.result) _ (at_top top low pre)
    (omega (arith, c.if-mode-eq-IN_FRAGMENT.false, c.requires.mode_lt_in_tag))
    (c.in_ok-read_fixed.ensures _ pre.place)))
