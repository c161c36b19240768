use mathlib.Core.Path.{ap, sym, subst, ◌∙◌}
use Rattle.mem_state.specs.Joining.{Joining}
use Rattle.mem_state.specs.Commit.{joined_value, ValuePre}
use Rattle.read_known.proofs.Known.{joining-read}
use Rattle.read_known.proofs.join_value.Goals as goal

pub join_value-requires : goal.join_value-requires
join_value-requires c =
    subst (ValuePre _ _ _) (sym (joining-read c.args.x c.is_some-joins.ensures
    c.unwrap_or-hash.ensures)) c.requires

pub returns : goal.returns
returns c =
    c.join_value.ensures
    ∙ ap (λ (j : Joining). joined_value c.args.c.values c.args.owner j c.args.work.now)
    (joining-read c.args.x c.is_some-joins.ensures c.unwrap_or-hash.ensures)
