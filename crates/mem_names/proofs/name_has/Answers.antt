use Rattle.mem_names.proofs.Names.{other-uri, opening-has, store-has}
use Rattle.mem_names.proofs.name_has.Goals as goal

-- `name_has` meets its contract.
pub returns-then-work-row : goal.returns-then-work-row
returns-then-work-row c = other-uri _ _ _ _ _ _ c.if-work-row.true

pub returns-then-row-lt-OPENING_NAMES : goal.returns-then-row-lt-OPENING_NAMES
returns-then-row-lt-OPENING_NAMES c =
    opening-has _ _ _ _ _ _ c.if-work-row.false c.if-row-lt-OPENING_NAMES.true c.has_text.ensures

pub returns : goal.returns
returns c =
    store-has _ _ _ _ _ _ c.if-work-row.false c.if-row-lt-OPENING_NAMES.false c.has_text-2.ensures
