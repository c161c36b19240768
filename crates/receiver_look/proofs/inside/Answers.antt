use mathlib.Core.Path.{refl}
use native.Mathlib.Omega.{arith}
use Rattle.settings.specs.Meant.{settings_from}
use Rattle.read_production.proofs.Returns.{own-most, site-asks, part-asked, inner-taught}
use Rattle.read_production.proofs.Returns.{inner-lower}
use Rattle.receiver_look.proofs.Steps.{production-asks, look-nothing, look-learned}
use Rattle.receiver_look.proofs.Steps.{fixed-asked, look-fixed}
use Rattle.receiver_look.proofs.inside.Goals as goal

-- `inside` meets its contract.
pub site_in-site-requires : goal.site_in-site-requires
site_in-site-requires c = c.requires.look_pre.bounded.top

pub count_at-count-requires : goal.count_at-count-requires
count_at-count-requires c =
    site-asks (production-asks c.requires.look_pre) c.args.c.mode c.site_in-site.ensures

pub overflow_add-last : goal.overflow_add-last
overflow_add-last c =
    omega (
      arith,
      c.count_at-count.ensures.within,
      own-most c.args.c.mode c.own_count.ensures,
    )

pub overflow_add-last-2 : goal.overflow_add-last-2
overflow_add-last-2 c =
    omega (
      arith,
      c.count_at-count.ensures.within,
      own-most c.args.c.mode c.own_count.ensures,
    )

pub read_part-requires : goal.read_part-requires
read_part-requires c =
    part-asked (production-asks c.requires.look_pre) c.count_at-count.ensures
    c.args.c.mode c.own_count.ensures

pub returns-in_default : goal.returns-in_default
returns-in_default c =
    rw c.unknown.ensures (look-nothing c.requires.look_pre _)

pub string-requires : goal.string-requires
string-requires c =
    record { size = c.requires.look_pre.spot.size; place = c.in-Ok.ensures.inside }

pub returns-then-p-count : goal.returns-then-p-count
unfolding settings_from
returns-then-p-count c =
    let pre = c.requires.look_pre in
    look-learned pre (settings_from c.args.o) _ c.requires.in_tag_le_mode
    (inner-taught (settings_from c.args.o) _ (production-asks pre) c.requires.in_tag_le_mode
    c.site_in-site.ensures c.count_at-count.ensures c.own_count.ensures
    c.in-Ok.ensures refl c.if-p-count.true) c.string.ensures

pub returns-then-p-last : goal.returns-then-p-last
returns-then-p-last c =
    rw c.unknown-then-p-last.ensures (look-nothing c.requires.look_pre _)

pub fixed-requires : goal.fixed-requires
fixed-requires c =
    fixed-asked c.requires.look_pre c.in-Ok.ensures.inside

pub returns : goal.returns
unfolding settings_from
returns c =
    let pre = c.requires.look_pre in
    look-fixed pre (λ p f. inner-lower (settings_from c.args.o) _ (production-asks pre)
    c.requires.in_tag_le_mode c.site_in-site.ensures c.count_at-count.ensures c.own_count.ensures
    c.in-Ok.ensures refl c.if-p-last.false f) c.fixed.ensures
