use Rattle.mem_names.proofs.Joined.{put-steps}
use Rattle.mem_names.proofs.put_name.Goals as goal

-- `put_name` meets its contract.
pub returns : goal.returns
returns c = put-steps _ _ _ _ c.put_text.ensures
