use mathlib.Core.Path.{refl}
use borrow.Author.Rules.{rules}
use Rattle.write_known.proofs.Names.{name-outside, name-unknown, find-asks, name-learned}
use Rattle.write_known.proofs.learned_name.Goals as goal

pub returns-then-not-is_inside : goal.returns-then-not-is_inside
returns-then-not-is_inside c =
    name-outside _ _ _ _ _ c.requires c.is_inside.ensures c.is_inside-2.ensures
    c.if-not-is_inside.true-raw

pub returns-in_default : goal.returns-in_default
returns-in_default c =
    name-unknown _ _ _ _ _ c.requires c.is_inside.ensures c.is_inside-2.ensures
    c.if-not-is_inside.false-raw c.in_default.ensures refl

pub find_learned-row-requires : goal.find_learned-row-requires
find_learned-row-requires c = find-asks c.requires c.in-Some.ensures

pub returns : goal.returns
returns c =
    name-learned _ _ _ _ _ c.requires c.is_inside.ensures c.is_inside-2.ensures
    c.if-not-is_inside.false-raw c.in-Some.ensures refl c.find_learned-row.ensures
