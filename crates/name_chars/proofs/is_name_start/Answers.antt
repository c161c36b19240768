use Rattle.name_chars.proofs.Table.{class-first}
use Rattle.name_chars.proofs.is_name_start.Goals as goal

-- `is_name_start` meets its contract: an entry of the table, or by the ranges above.
pub returns-then-p-lt-TABLED : goal.returns-then-p-lt-TABLED
returns-then-p-lt-TABLED c = class-first _ _ c.class_in.ensures
