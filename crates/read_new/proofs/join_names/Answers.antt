use mathlib.Core.Path.{◌∙◌, ap, sym, subst}
use Rattle.mem_state.specs.Joining.{Joining}
use Rattle.mem_state.specs.Commit.{joined_uri, joined_name, NamePre}
use Rattle.mem_state.proofs.Commit.{names-asks}
use Rattle.read_known.proofs.Known.{joining-read}
use Rattle.read_new.proofs.join_names.Goals as goal

pub join_uri-requires : goal.join_uri-requires
join_uri-requires c =
    rw c.is_some-new_uri.ensures (record { room = c.requires.room; few = c.requires.uris })

pub join_name-requires : goal.join_name-requires
join_name-requires c =
    let uris = rw c.is_some-new_uri.ensures at c.join_uri.ensures in
    subst (NamePre _ _ _) (sym (joining-read c.args.l c.is_some-new_name.ensures
    c.unwrap_or-hash.ensures)) (names-asks c.requires uris)

pub returns : goal.returns
returns c =
    let uris = rw c.is_some-new_uri.ensures at c.join_uri.ensures in
    c.join_name.ensures
    ∙ ap (λ (j : Joining). joined_name c.args.c.names c.args.u.row j c.join_uri.new.work)
    (joining-read c.args.l c.is_some-new_name.ensures c.unwrap_or-hash.ensures)
    ∙ ap (joined_name _ _ _) uris
