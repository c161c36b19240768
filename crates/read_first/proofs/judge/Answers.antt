use Rattle.spec_fields.specs.Refusal.{number_of}
use Rattle.read_first.proofs.First.{judge-equal, judge-loose, judge-limit, judge-passes}
use native.Mathlib.Omega.{arith}
use mathlib.Core.Path.{refl}
use Rattle.read_first.proofs.judge.Goals as goal

pub allows-requires : goal.allows-requires
allows-requires c =
    record { room = c.requires.room; low = c.requires.name }

pub returns-then-not-allows : goal.returns-then-not-allows
unfolding number_of
returns-then-not-allows c =
    judge-equal c.allows.ensures c.if-not-allows.true-raw

pub find_learned-requires : goal.find_learned-requires
find_learned-requires c =
    record {
      room = c.requires.room;
      low = c.requires.top;
      name_low = c.requires.name;
      few = c.requires.few;
    }

pub returns-in-Some : goal.returns-in-Some
unfolding number_of
returns-in-Some c =
    judge-loose c.allows.ensures c.if-not-allows.false-raw c.in-Some.ensures
    (λ z. absurd (omega (arith, z)))

pub returns-then-not-fits : goal.returns-then-not-fits
unfolding number_of
returns-then-not-fits c =
    judge-limit c.allows.ensures c.if-not-allows.false-raw c.in_default.ensures refl c.fits.ensures c.if-not-fits.true-raw

pub returns : goal.returns
returns c =
    judge-passes c.allows.ensures c.if-not-allows.false-raw c.in_default.ensures refl c.fits.ensures c.if-not-fits.false-raw
