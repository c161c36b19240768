use mathlib.Core.Path.{ap, ◌∙◌}
use Rattle.mem_state.specs.declared.Core.{Core}
use Rattle.mem_state.specs.Commit.{turned}
use Rattle.grammar_update.proofs.Turns.{count-asks, turn-asks}
use Rattle.grammar_update.proofs.after.Goals as goal

pub count-requires : goal.count-requires
count-requires c = count-asks _ _ c.requires

pub turn-requires : goal.turn-requires
turn-requires c = turn-asks _ _ _ c.requires c.count.ensures

pub returns : goal.returns
returns c =
    let g = c.args.g in
    let n = c.args.n in
    let fragment = c.args.fragment in
    c.turn.ensures
    ∙ ap (λ (d : Core). turned fragment d g.kind g.name n) c.count.ensures
