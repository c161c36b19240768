use native.Mathlib.Omega.{arith}
use Rattle.write_string.proofs.Laws.{Going, going_start, going-asks, going_more, going_done}
use Rattle.write_string.proofs.put_characters.Goals as goal

-- `put_characters` meets its contract: the loop keeps `Going`.
pub loop-c-init : goal.loop-c-init
loop-c-init c = going_start c.args.x.now c.slice_known-1.given c.requires.blank

pub put_character-j-requires : goal.put_character-j-requires
put_character-j-requires c =
    let p = c.requires in
    going-asks c.args.x.now c.loop-c.invariant (omega arith) p.near p.chars c.loop-c-test.true

pub loop-c-preserved : goal.loop-c-preserved
loop-c-preserved c =
    going_more c.args.x.now c.loop-c.invariant c.loop-c-test.true c.put_character-j.ensures

pub overflow_mul-result : goal.overflow_mul-result
overflow_mul-result c =
    let g = c.loop-c.invariant in
    omega (arith, g.near, g.passed, c.requires.near)

pub overflow_add-result : goal.overflow_add-result
overflow_add-result c =
    let g = c.loop-c.invariant in
    omega (arith, g.near, g.passed, c.requires.near)

pub returns : goal.returns
returns c = going_done c.args.x.now c.loop-c.invariant c.loop-c-test.false
