use Rattle.mem_state.proofs.Commit.{join-steps, names-asks, values-asks}
use Rattle.mem_state.proofs.join_strings.Goals as goal

-- src/lib.rt:110:5
pub join_uri-requires : goal.join_uri-requires
join_uri-requires c = record { room = c.requires.room; few = c.requires.uris }

-- src/lib.rt:111:5
pub join_name-requires : goal.join_name-requires
join_name-requires c =
    names-asks c.requires c.join_uri.ensures

-- src/lib.rt:112:5
pub join_value-requires : goal.join_value-requires
join_value-requires c =
    values-asks c.requires c.join_uri.ensures c.join_name.ensures

-- src/lib.rt:106:1
-- src/lib.rt:106:1
pub returns : goal.returns
returns c =
    join-steps c.requires c.join_uri.ensures c.join_name.ensures
    c.join_value.ensures
