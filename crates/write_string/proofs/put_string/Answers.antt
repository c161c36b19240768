use mathlib.Core.Path.{◌∙◌}
use Prim.Native.Nat.{◌+◌}
use native.Mathlib.Omega.{arith}
use lib.ListN.{length}
use Rattle.spec_fields.specs.Field.{max_unsigned}
use Rattle.spec_exi.specs.Sizes.{max_string}
use Rattle.spec_exi.specs.Tables.{string_bits}
use Rattle.write_field.proofs.Lengths.{unsigned-length}
use Rattle.write_field.proofs.Written.{put_then, put-blank, put-length}
use Rattle.write_string.proofs.put_string.Goals as goal

-- `put_string` meets its contract: the length, then the code points.
pub overflow_cast-x : goal.overflow_cast-x
unfolding max_string
overflow_cast-x c = omega (arith, c.requires.small)

pub overflow_add-x : goal.overflow_add-x
unfolding max_string
overflow_add-x c =
    let p = c.requires in
    omega (arith, p.small, p.few)

pub put_unsigned-first-requires : goal.put_unsigned-first-requires
unfolding max_string max_unsigned
put_unsigned-first-requires c =
    let p = c.requires in
    record {
      blank = p.blank;
      near = omega (arith, p.near);
      small = omega (arith, p.small, p.few);
    }

pub put_characters-requires : goal.put_characters-requires
put_characters-requires c =
    let long = unsigned-length (length c.args.x.now + c.args.raised) in
    record {
      blank = put-blank c.put_unsigned-first.ensures;
      near = omega (arith, c.requires.near, c.put_unsigned-first.ensures.next, long);
      chars = c.requires.chars;
    }

pub shape_of-buf : goal.shape_of-buf
shape_of-buf c =
    put-length c.put_characters.ensures
    ∙ put-length c.put_unsigned-first.ensures

pub returns : goal.returns
unfolding string_bits
returns c =
    put_then c.put_unsigned-first.ensures c.put_characters.ensures
