use Rattle.grammar_codes.proofs.Table.{nth-none}
use Rattle.grammar_codes.proofs.nth.Goals as goal

pub returns-in_default : goal.returns-in_default
returns-in_default c =
    let n = c.in_default.in_default-own.rest in
    nth-none _ _ _ _ _ n.0.0.0.1 n.0.0.1 n.0.1 n.1
