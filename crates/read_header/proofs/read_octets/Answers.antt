use mathlib.Core.Path.{◌≡◌, sym, ◌∙◌}
use Prim.Native.Nat.{◌+◌}
use native.Mathlib.Omega.{arith}
use Rattle.std.proofs.lemmas.Result.{err_from_is_err_and}
use Rattle.spec_exi.specs.Sizes.{max_stream}
use Rattle.read_header.proofs.Header.{passing-start, all-passed, octet-missing, octet-other, octet-same}
use Rattle.read_header.proofs.Header.{rest-size, rest-at}
use Rattle.read_header.proofs.read_octets.Goals as goal

-- `read_octets` meets its contract: the loop keeps `Passing`.
pub loop-o-init : goal.loop-o-init
loop-o-init c =
    let e : c.args.first + 0 ≡ c.args.first = omega arith in
    rw e (passing-start _ _ c.requires.few)

pub octet-requires : goal.octet-requires
unfolding max_stream
octet-requires c =
    record { size = omega (arith, c.requires.size); place = c.loop-o.invariant.there }

pub returns-in_err-read : goal.returns-in_err-read
returns-in_err-read c =
    let p = err_from_is_err_and c.from_residual.result c.from_residual.ensures.1 in
    rw (p.1, p.2)
    (octet-missing c.loop-o.invariant
    (omega (arith, rest-size c.args.first, c.loop-o-test.true))
    (sym c.in_err-read.ensures))

pub returns-then-read-o : goal.returns-then-read-o
returns-then-read-o c =
    octet-other c.loop-o.invariant
    (omega (arith, rest-size c.args.first, c.loop-o-test.true))
    (sym c.in_ok-read.ensures)
    (λ e. c.if-read-o.true (e ∙ sym (rest-at c.args.first c.loop-o.o-index
    c.loop-o-test.true)))

pub loop-o-preserved : goal.loop-o-preserved
loop-o-preserved c =
    let e : c.args.first + (c.loop-o.o-index + 1) ≡ c.args.first + c.loop-o.o-index + 1 = omega arith in
    rw e
    (octet-same c.loop-o.invariant
    (omega (arith, rest-size c.args.first, c.loop-o-test.true))
    (sym c.in_ok-read.ensures)
    (c.if-read-o.false ∙ rest-at c.args.first c.loop-o.o-index c.loop-o-test.true))

pub returns : goal.returns
returns c =
    all-passed c.loop-o.invariant
    (omega (arith, rest-size c.args.first, c.loop-o-test.false))
