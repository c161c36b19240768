use Rattle.mem_names.proofs.Uris.{uri-at-made}
use Rattle.mem_names.proofs.uri_at.Goals as goal

-- `uri_at` meets its contract.
pub returns : goal.returns
returns c = uri-at-made c.requires.low c.falling.ensures
