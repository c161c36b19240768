use native.Mathlib.Omega.{arith}
use Rattle.name_rules.proofs.Laws.{no_end, last-is}
use Rattle.name_rules.proofs.ends_in.Goals as goal

-- `ends_in` meets its contract.
pub returns-in_default : goal.returns-in_default
returns-in_default c = no_end _ _ (omega (arith, c.in_default.len_below))

pub returns : goal.returns
returns c = last-is _ c.args.x.now (λ z. omega (arith, c.in-len1-up.len_at_least))
