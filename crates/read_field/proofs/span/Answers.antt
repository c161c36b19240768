use Rattle.read_field.proofs.Window.{window-two}
use Rattle.read_field.proofs.span.Goals as goal

-- `read_field::span` meets its contract: the bits end the window of two octets.
pub returns : goal.returns
returns c =
    let l = c.requires.few in
    window-two _ _ _ l.some l.most c.octet_at-high.ensures c.octet_at-low.ensures
