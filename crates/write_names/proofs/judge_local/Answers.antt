use mathlib.Core.Path.{refl}
use borrow.Author.Rules.{rules}
use Rattle.spec_exi.specs.Sizes.{max_string}
use Rattle.write_names.proofs.Names.{find-asks, new-asks, name-long, name_new, name-reserved, name-hit}
use Rattle.write_names.proofs.judge_local.Goals as goal

-- `judge_local` meets its contract: each return is one law.
pub returns-then-x-gt-MAX_STRING : goal.returns-then-x-gt-MAX_STRING
unfolding max_string
returns-then-x-gt-MAX_STRING c = name-long _ _ _ _ _ c.requires c.if-x-gt-MAX_STRING.true refl

pub find_name-requires : goal.find_name-requires
find_name-requires c = find-asks c.requires

pub judge_new_name-requires : goal.judge_new_name-requires
unfolding max_string
judge_new_name-requires c = new-asks c.requires c.if-x-gt-MAX_STRING.false

pub returns-in_default : goal.returns-in_default
unfolding max_string
returns-in_default c =
    name_new _ _ _ _ _ c.requires c.hash-h.ensures c.in_default.ensures refl
    c.if-x-gt-MAX_STRING.false c.judge_new_name.ensures

pub returns-then-attr-is_reserved : goal.returns-then-attr-is_reserved
returns-then-attr-is_reserved c =
    name-reserved _ _ _ _ _ c.requires c.hash-h.ensures c.in-Some.ensures
    refl c.is_reserved.ensures c.if-attr-is_reserved.true refl

pub returns : goal.returns
returns c =
    name-hit _ _ _ _ _ c.requires c.hash-h.ensures c.in-Some.ensures
    refl c.is_reserved.ensures c.if-attr-is_reserved.false refl
