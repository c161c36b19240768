use Rattle.name_chars.proofs.Table.{class-some}
use Rattle.name_chars.proofs.is_name_char.Goals as goal

-- `is_name_char` meets its contract: an entry of the table, or the ranges.
pub returns-then-p-lt-TABLED : goal.returns-then-p-lt-TABLED
returns-then-p-lt-TABLED c = class-some _ _ c.class_in.ensures
