use mathlib.Core.Path.{refl, ap, ◌∙◌}
use Rattle.spec_fields.specs.Refusal.{number_of}
use Rattle.grammar_update.specs.Growth.{fits_in}
use Rattle.read_event.proofs.Judges.{judge-equal, judge-loose, judge-limit, judge-passes}
use Rattle.read_event.proofs.judge.Goals as goal

pub allows-requires : goal.allows-requires
allows-requires c =
    let pre = c.requires in
    record { room = pre.growth_pre.room; low = pre.growth_pre.name }

pub returns-then-not-allows : goal.returns-then-not-allows
unfolding number_of
returns-then-not-allows c = judge-equal refl c.allows.ensures c.if-not-allows.true-raw

pub returns-then-loose : goal.returns-then-loose
unfolding number_of
returns-then-loose c =
    judge-loose refl c.allows.ensures c.if-not-allows.false-raw c.loose.ensures c.if-loose.true

pub returns-then-not-fits : goal.returns-then-not-fits
unfolding number_of
returns-then-not-fits c =
    judge-limit refl c.allows.ensures c.if-not-allows.false-raw c.loose.ensures c.if-loose.false
    (c.fits.ensures ∙ ap (fits_in c.args.c) c.growth-growth.ensures) c.if-not-fits.true-raw

pub returns : goal.returns
returns c =
    judge-passes c.growth-growth.ensures c.allows.ensures c.if-not-allows.false-raw
    c.loose.ensures c.if-loose.false c.fits.ensures c.if-not-fits.false-raw
