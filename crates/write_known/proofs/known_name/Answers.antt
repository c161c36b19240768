use mathlib.Core.Path.{refl}
use borrow.Author.Rules.{rules}
use Rattle.spec_exi.specs.Sizes.{max_string}
use Rattle.write_known.proofs.Names.{uri-asks, no-uri, no_hit, name-asks, name-sought}
use Rattle.write_known.proofs.known_name.Goals as goal

pub find_uri-requires : goal.find_uri-requires
find_uri-requires c = uri-asks c.requires

pub returns-in_err-u : goal.returns-in_err-u
returns-in_err-u c =
    rw c.from_residual.ensures
    (no-uri _ _ _ _ _ c.requires c.look_up-y.ensures.result_value c.in_err-u.ensures refl)

pub returns-then-x-attr : goal.returns-then-x-attr
unfolding max_string
returns-then-x-attr c =
    no_hit _ _ _ _ _ c.requires c.look_up-y.ensures.result_value c.in_ok-u.ensures refl
    c.look_up-x.ensures.result_value c.is_reserved.ensures c.if-x-attr.true

pub find_name-requires : goal.find_name-requires
find_name-requires c = name-asks c.requires c.in_ok-u.ensures

pub returns : goal.returns
unfolding max_string
returns c =
    name-sought _ _ _ _ _ c.requires c.look_up-y.ensures.result_value c.in_ok-u.ensures refl
    c.look_up-x.ensures.result_value c.is_reserved.ensures c.if-x-attr.false c.hash-h.ensures
    c.find_name.ensures
