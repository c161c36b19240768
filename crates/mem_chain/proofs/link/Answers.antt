use Rattle.mem_chain.specs.Chain.{linked}
use native.Mathlib.Nat.{mod-lt}
use mathlib.Core.Path.{refl}
use borrow.Author.Rules.{rules}
use Rattle.mem_chain.proofs.link.Goals as goal

-- `link` meets its contract.
pub overflow_cast-row : goal.overflow_cast-row
overflow_cast-row c = let h = mod-lt c.args.n c.requires.some in search (rules, h)

pub overflow_add-work : goal.overflow_add-work
overflow_add-work c = let h = mod-lt c.args.n c.requires.some in search (rules, h)

pub offset_bounds-work-nexts : goal.offset_bounds-work-nexts
offset_bounds-work-nexts c = let h = mod-lt c.args.n c.requires.some in search (rules, h)

pub bounds-work-nexts : goal.bounds-work-nexts
bounds-work-nexts c = let h = mod-lt c.args.n c.requires.some in search (rules, h)

pub returns : goal.returns
unfolding linked
returns c = refl
