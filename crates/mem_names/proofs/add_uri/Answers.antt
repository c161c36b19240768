use Rattle.mem_names.proofs.Uris.{uri-steps}
use Rattle.mem_names.proofs.add_uri.Goals as goal

-- `add_uri` meets its contract.
pub returns : goal.returns
returns c = uri-steps _ _ _ _ _ c.put_text.ensures
