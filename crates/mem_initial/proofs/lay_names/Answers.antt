use Rattle.mem_initial.proofs.Steps.{names-laid}
use Rattle.mem_initial.proofs.lay_names.Goals as goal

-- `lay_names` meets its contract.
pub returns : goal.returns
returns c =
    names-laid _ _ c.add_name.ensures c.add_name-2.ensures
    c.add_name-3.ensures c.add_name-4.ensures c.add_name-5.ensures
    c.add_name-6.ensures
