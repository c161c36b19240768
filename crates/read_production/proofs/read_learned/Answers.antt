use mathlib.Core.Path.{refl}
use Rattle.read_production.proofs.Rows.{nth-asks, row-asks, learned-none, learned-low}
use Rattle.read_production.proofs.Rows.{learned-high, learned-found}
use Rattle.read_production.proofs.read_learned.Goals as goal
use Rattle.read_production.proofs.read_learned.Goals.{then-p-lt-SE-via-then-p-lt-SE}
use Rattle.read_production.proofs.read_learned.Goals.{then-p-lt-SE-via-else-p-lt-SE+then-p-gt-CH}

pub nth_newest-requires : goal.nth_newest-requires
nth_newest-requires c = nth-asks c.requires

pub returns-in_default : goal.returns-in_default
returns-in_default c = λ at. learned-none c.in_default.ensures at _ refl

pub production_at-p-requires : goal.production_at-p-requires
production_at-p-requires c = row-asks c.requires c.in-Some.ensures.within

pub returns-then-p-lt-SE : goal.returns-then-p-lt-SE
returns-then-p-lt-SE c =
    λ at. elim c.then-p-lt-SE.branch [
      | then-p-lt-SE-via-then-p-lt-SE w ↦
          learned-low c.in-Some.ensures at _ c.production_at-p.ensures w.if-p-lt-SE.true
      | then-p-lt-SE-via-else-p-lt-SE+then-p-gt-CH w ↦
          learned-high c.in-Some.ensures at _ c.production_at-p.ensures w.if-p-gt-CH.true
    ]

pub returns : goal.returns
returns c =
    λ at. learned-found c.in-Some.ensures at _ c.production_at-p.ensures c.if-p-lt-SE.false
    c.if-p-gt-CH.false
