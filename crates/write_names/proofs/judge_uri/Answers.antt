use mathlib.Core.Path.{refl}
use borrow.Author.Rules.{rules}
use Rattle.spec_exi.specs.Sizes.{max_string}
use Rattle.write_names.proofs.Uris.{find-asks, new-asks, uri-long, uri-hit, uri-new}
use Rattle.write_names.proofs.judge_uri.Goals as goal

-- `judge_uri` meets its contract: each return is one law.
pub returns-then-x-gt-MAX_STRING : goal.returns-then-x-gt-MAX_STRING
unfolding max_string
returns-then-x-gt-MAX_STRING c = uri-long c.if-x-gt-MAX_STRING.true refl

pub find_uri-requires : goal.find_uri-requires
find_uri-requires c = find-asks c.requires

pub returns-in-Some : goal.returns-in-Some
returns-in-Some c = uri-hit _ _ _ c.requires c.in-Some.ensures refl refl

pub judge_new_uri-requires : goal.judge_new_uri-requires
unfolding max_string
judge_new_uri-requires c = new-asks c.requires c.if-x-gt-MAX_STRING.false

pub returns-in-None : goal.returns-in-None
unfolding max_string
returns-in-None c =
    uri-new _ _ _ c.requires c.in-None.ensures refl c.if-x-gt-MAX_STRING.false
    c.judge_new_uri.ensures
