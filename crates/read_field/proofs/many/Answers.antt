use Rattle.read_field.proofs.FewBits.{many-bits, many-past, many-small, many-swapped, many-plain}
use native.Mathlib.Omega.{arith}
use Rattle.read_field.proofs.many.Goals as goal

pub overflow_add-next : goal.overflow_add-next
overflow_add-next c =
    let there = c.requires.number_pre.there in
    let big = c.requires.lt_m in
    let most = c.requires.number_pre.small in
    let n = c.taken-n.ensures in
    omega (arith, there.place, there.size, (many-bits there big most _ n).1)

pub returns-then-s-next : goal.returns-then-s-next
returns-then-s-next c =
    let there = c.requires.number_pre.there in
    let big = c.requires.lt_m in
    let most = c.requires.number_pre.small in
    let n = c.taken-n.ensures in
    many-past there big most _ n c.if-s-next.true

pub cut-x-requires : goal.cut-x-requires
cut-x-requires c =
    let there = c.requires.number_pre.there in
    let big = c.requires.lt_m in
    let most = c.requires.number_pre.small in
    let n = c.taken-n.ensures in
    record {
      there = there;
      some = (many-bits there big most _ n).0;
      most = (many-bits there big most _ n).1;
      inside = c.if-s-next.false;
    }

pub exchanged-requires : goal.exchanged-requires
exchanged-requires c =
    let there = c.requires.number_pre.there in
    let big = c.requires.lt_m in
    let most = c.requires.number_pre.small in
    let cuts = c.cut-x.ensures in
    let n = c.taken-n.ensures in
    many-small there big most cuts n c.if-aligned.true

pub returns-then-aligned : goal.returns-then-aligned
returns-then-aligned c =
    let there = c.requires.number_pre.there in
    let big = c.requires.lt_m in
    let most = c.requires.number_pre.small in
    let cuts = c.cut-x.ensures in
    let n = c.taken-n.ensures in
    many-swapped there big most cuts n c.if-aligned.true c.exchanged.ensures

pub returns : goal.returns
returns c =
    let there = c.requires.number_pre.there in
    let big = c.requires.lt_m in
    let most = c.requires.number_pre.small in
    let cuts = c.cut-x.ensures in
    let n = c.taken-n.ensures in
    many-plain there big most cuts n c.if-aligned.false
