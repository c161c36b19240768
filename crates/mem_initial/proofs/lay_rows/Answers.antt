use Rattle.mem_initial.proofs.Steps.{rows-laid}
use Rattle.mem_initial.proofs.lay_rows.Goals as goal

-- `lay_rows` meets its contract.
pub returns : goal.returns
returns c =
    rows-laid _ _ c.lay_uris.ensures
    c.lay_names.ensures
