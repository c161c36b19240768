use Rattle.write_partition.proofs.Hits.{partition-asks, id-asks, hit-put}
use Rattle.write_partition.proofs.put_hit.Goals as goal

-- `put_hit` meets its contract.
pub put_unsigned-next-requires : goal.put_unsigned-next-requires
put_unsigned-next-requires c = partition-asks c.requires

pub put_choice-requires : goal.put_choice-requires
put_choice-requires c =
    id-asks c.requires _ c.put_unsigned-next.ensures c.less.ensures

pub returns : goal.returns
returns c =
    hit-put c.requires _ c.put_unsigned-next.ensures c.less.ensures _
    c.put_choice.ensures
