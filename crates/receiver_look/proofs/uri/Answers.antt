use mathlib.Core.Path.{refl}
use native.Mathlib.Omega.{arith}
use Rattle.spec_exi.specs.Sizes.{max_uris}
use Rattle.receiver_look.proofs.Names.{choice-asks, uri-nothing, uri-spot, uri-missed}
use Rattle.receiver_look.proofs.Names.{uri-found}
use Rattle.receiver_look.proofs.uri.Goals as goal

-- `uri` meets its contract.
pub overflow_add-uris : goal.overflow_add-uris
unfolding max_uris
overflow_add-uris c = omega (arith, c.requires.few)

pub choice-requires : goal.choice-requires
choice-requires c = choice-asks c.requires

pub returns-in_default : goal.returns-in_default
returns-in_default c = rw c.unknown.ensures (uri-nothing c.requires _)

pub string-requires : goal.string-requires
string-requires c = uri-spot c.requires _ c.in-Ok.ensures refl

pub returns-then-number-eq0 : goal.returns-then-number-eq0
returns-then-number-eq0 c =
    uri-missed c.requires _ c.in-Ok.ensures refl c.if-number-eq0.true c.string.ensures

pub returns : goal.returns
returns c = uri-found c.requires _ c.in-Ok.ensures refl c.if-number-eq0.false
