use Prim.Native.Nat.{◌+◌, ◌<◌}
use native.Mathlib.Omega.{arith}
use lib.ListN.{length, length-set}
use borrow.Author.Rules.{rules}
use Rattle.write_field.proofs.Written.{put-length}
use Rattle.write_string.proofs.InPlace.{is-short, in_place, high_fits, low_fits, later}
use Rattle.write_string.proofs.put_character.Goals as goal
use Rattle.write_string.proofs.put_character.Goals.{Then-c-j}

-- `put_character` meets its contract: two cells, or an Unsigned Integer of any length.
is-small : (c : Then-c-j)
    → (c.args.c < 128)
    × (c.args.j + 1 < length c.args.buf.now)
is-small c =
    let a = c.args in
    is-short a.c (a.j + 1) (length a.buf.now) c.if-c-j.true

pub bounds-buf-j : goal.bounds-buf-j
bounds-buf-j c = omega (arith, (is-small (goal.at.bounds-buf-j c).Then-c-j).1)

pub overflow_cast-buf : goal.overflow_cast-buf
overflow_cast-buf c =
    let s = is-small (goal.at.overflow_cast-buf c).Then-c-j in
    omega (arith, high_fits c.slice_known-1.given c.requires s.0 s.1)

pub overflow_add-buf : goal.overflow_add-buf
overflow_add-buf c =
    let s = is-small (goal.at.overflow_add-buf c).Then-c-j in
    omega (arith, high_fits c.slice_known-1.given c.requires s.0 s.1)

pub bounds-buf-j-then-c-j : goal.bounds-buf-j-then-c-j
bounds-buf-j-then-c-j c = omega (arith, (is-small (goal.at.bounds-buf-j-then-c-j c).Then-c-j).1)

pub bounds-buf-j-then-c-j-2 : goal.bounds-buf-j-then-c-j-2
bounds-buf-j-then-c-j-2 c = simp length-set (is-small (goal.at.bounds-buf-j-then-c-j-2 c).Then-c-j).1

pub overflow_cast-buf-then-c-j : goal.overflow_cast-buf-then-c-j
overflow_cast-buf-then-c-j c =
    let s = is-small (goal.at.overflow_cast-buf-then-c-j c).Then-c-j in
    omega (arith, low_fits c.slice_known-1.given c.requires s.0 s.1)

pub overflow_add-buf-then-c-j-2 : goal.overflow_add-buf-then-c-j-2
overflow_add-buf-then-c-j-2 c =
    let s = is-small (goal.at.overflow_add-buf-then-c-j-2 c).Then-c-j in
    omega (arith, low_fits c.slice_known-1.given c.requires s.0 s.1)

pub bounds-buf-j-then-c-j-3 : goal.bounds-buf-j-then-c-j-3
bounds-buf-j-then-c-j-3 c = simp length-set (is-small (goal.at.bounds-buf-j-then-c-j-3 c).Then-c-j).1

pub returns-then-c-j : goal.returns-then-c-j
returns-then-c-j c =
    in_place c.slice_known-1.given c.requires (is-small (goal.at.returns-then-c-j c).Then-c-j).0

pub put_unsigned-requires : goal.put_unsigned-requires
put_unsigned-requires c =
    let p = c.requires in
    record { blank = p.blank; near = p.near; small = p.small }

pub shape_of-buf : goal.shape_of-buf
shape_of-buf c = put-length c.put_unsigned.ensures

pub returns : goal.returns
returns c =
    later c.requires c.put_unsigned.ensures
