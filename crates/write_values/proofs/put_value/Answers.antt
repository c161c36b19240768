use native.Mathlib.Omega.{arith}
use mathlib.Core.Path.{refl}
use borrow.Author.Rules.{rules}
use Rattle.write_values.proofs.Puts.{of-form, own-asks, all-asks, string-asks, own_put, all-put, string-put}
use Rattle.write_values.proofs.put_value.Goals as goal

-- `put_value` meets its contract.
pub put_hit-requires : goal.put_hit-requires
put_hit-requires c = own-asks c.requires c.count_local-among.ensures

pub returns-in-Local : goal.returns-in-Local
returns-in-Local c =
    rw c.in-Local.is (own_put (of-form c.in-Local.is c.requires) _ _ _ refl
    c.count_local-among.ensures c.put_hit.ensures)

pub put_hit-requires-in-Global : goal.put_hit-requires-in-Global
put_hit-requires-in-Global c = all-asks c.requires c.replaced.ensures

pub returns-in-Global : goal.returns-in-Global
returns-in-Global c =
    rw c.in-Global.is (all-put (of-form c.in-Global.is c.requires) _ _ _ (λ z. absurd (omega arith)) refl
    c.replaced.ensures c.put_hit-in-Global.ensures)

pub put_string-requires : goal.put_string-requires
put_string-requires c =
    string-asks (of-form c.in-Absent.is c.requires) (λ z. absurd (omega arith)) (λ z. absurd (omega arith))

pub returns-in-Absent : goal.returns-in-Absent
returns-in-Absent c =
    rw c.in-Absent.is (string-put (of-form c.in-Absent.is c.requires) _ _ _
    (λ z. absurd (omega arith)) (λ z. absurd (omega arith)) c.put_string.ensures)
