use lib.ListN.{length-set}
use Rattle.mem_index.proofs.More.{enter-steps}
use mathlib.Core.Path.{◌∙◌}
use native.Mathlib.Omega.{arith}
use native.Mathlib.Nat.{mod-lt}
use borrow.Author.Rules.{rules}
use Rattle.mem_index.proofs.enter.Goals as goal

-- `enter` meets its contract.
pub overflow_cast-row : goal.overflow_cast-row
overflow_cast-row c = let h =
    mod-lt c.args.n
    c.requires.some in search (rules, h)

pub overflow_add-work : goal.overflow_add-work
overflow_add-work c = let h =
    mod-lt c.args.n
    c.requires.some in search (rules, h)

pub offset_bounds-work-x : goal.offset_bounds-work-x
offset_bounds-work-x c = let h =
    mod-lt c.args.n
    c.requires.some in search (rules, h)

pub bounds-work-x : goal.bounds-work-x
bounds-work-x c = let h =
    mod-lt c.args.n
    c.requires.some in search (rules, h)

pub link-requires : goal.link-requires
link-requires c =
    record {
      some = c.requires.some;
      head_room =
          simp length-set
          (omega (
            arith,
            c.spot.ensures.low,
            c.requires.head_room,
          ));
      next_room =
          simp length-set
          (omega (
            arith,
            c.requires.next_room,
          ));
      few = omega (
        arith,
        c.requires.few,
      );
    }

pub shape_of-work : goal.shape_of-work
shape_of-work c = c.link.auto.work ∙ simp length-set

pub returns : goal.returns
returns c =
    enter-steps _ _ _ _
    c.spot.ensures.is
    c.link.ensures
