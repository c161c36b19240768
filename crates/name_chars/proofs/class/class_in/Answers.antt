use Rattle.name_chars.proofs.Table.{entry, table-size}
use lib.ListN.{length, get_or}
use mathlib.Core.Path.{ap, ◌∙◌}
use mathlib.Core.List.{List}
use Prim.Native.Nat.{ℕ}
use native.Mathlib.Omega.{arith}
use Rattle.name_chars.proofs.class.class_in.Goals as goal

-- `class_in` meets its contract: an entry of the table.
pub bounds-classes-p : goal.bounds-classes-p
bounds-classes-p c =
    omega (arith, ap (λ (t : List ℕ). length t) c.requires.classes_value, table-size, c.requires.p_bound)

pub returns : goal.returns
returns c =
    ap (λ (t : List ℕ). get_or t c.args.p 0) c.requires.classes_value
    ∙ entry c.args.p c.requires.p_bound
