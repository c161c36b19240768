use Rattle.mem_names.proofs.Uris.{opening-has, store-has}
use Rattle.mem_names.proofs.uri_has.Goals as goal

-- `uri_has` meets its contract.
pub returns-then-row-lt-OPENING_URIS : goal.returns-then-row-lt-OPENING_URIS
returns-then-row-lt-OPENING_URIS c = opening-has _ _ _ _ _ c.if-row-lt-OPENING_URIS.true c.has_text.ensures

pub returns : goal.returns
returns c = store-has _ _ _ _ _ c.if-row-lt-OPENING_URIS.false c.has_text-2.ensures
