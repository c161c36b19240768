use Rattle.receiver_read.proofs.On.{header-stops, moved-asks, padding-place, events-stop, all_read, tail-read}
use mathlib.Core.Path.{refl}
use native.Mathlib.Omega.{arith}
use Rattle.read_field.proofs.View.{refusal-some}
use Rattle.receiver_read.proofs.read_on.Goals as goal

-- `read_on` meets its contract.
pub returns-in-Err : goal.returns-in-Err
returns-in-Err c =
    rw c.number.ensures
    (header-stops c.requires c.in-Err.ensures
    (λ z. absurd (omega (arith, z, refusal-some c.in-Err.refusal))))

pub advance-r-requires : goal.advance-r-requires
advance-r-requires c =
    moved-asks c.requires c.in-Ok.ensures refl

pub returns-then-r-ne0 : goal.returns-then-r-ne0
returns-then-r-ne0 c =
    events-stop c.requires c.in-Ok.ensures refl c.advance-r.ensures c.if-r-ne0.true

pub is_padding-requires : goal.is_padding-requires
is_padding-requires c =
    padding-place c.requires c.in-Ok.ensures refl c.advance-r.ensures

pub returns-then-is_padding : goal.returns-then-is_padding
returns-then-is_padding c =
    all_read c.requires c.in-Ok.ensures refl c.advance-r.ensures c.if-r-ne0.false c.is_padding.ensures c.if-is_padding.true

pub returns : goal.returns
returns c =
    tail-read c.requires c.in-Ok.ensures refl c.advance-r.ensures c.if-r-ne0.false c.is_padding.ensures c.if-is_padding.false
