use Rattle.mem_initial.proofs.Steps.{uris-laid}
use Rattle.mem_initial.proofs.lay_uris.Goals as goal

-- `lay_uris` meets its contract.
pub returns : goal.returns
returns c =
    uris-laid _ _ c.add_uri.ensures c.add_uri-2.ensures c.add_uri-3.ensures
