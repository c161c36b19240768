use mathlib.Core.Path.{refl, ◌∙◌}
use native.Mathlib.Omega.{arith}
use Rattle.spec_exi.specs.Sizes.{max_stream}
use Rattle.receiver_piece.proofs.Piece.{keep-asks, still-asks, advanced-asks, cut-asks}
use Rattle.receiver_piece.proofs.Piece.{reached-still, reached-on, conclude-asks, goes_on}
use Rattle.read_field.proofs.View.{refusal-some}
use Rattle.receiver_piece.proofs.go_on.Goals as goal
use Rattle.receiver_piece.proofs.go_on.Goals.{After-held-1, After-slice_known-4-1}

-- `go_on` meets its contract.
pub keep-requires : goal.keep-requires
keep-requires c = keep-asks c.requires

pub overflow_add-n : goal.overflow_add-n
unfolding max_stream
overflow_add-n c =
    omega (arith, c.requires.few)

pub still-requires : goal.still-requires
still-requires c =
    still-asks c.requires _ c.held-1.given

pub stay-requires : goal.stay-requires
stay-requires c =
    conclude-asks c.requires c.keep.ensures (reached-still c.requires (advanced-asks
    c.requires c.outermost-row.ensures.places _ c.held-1.given) c.in-Err.ensures
    (λ z. absurd (omega (arith, z, refusal-some c.in-Err.s.refusal))))

pub shape_of-held-in-Err : goal.shape_of-held-in-Err
shape_of-held-in-Err c =
    c.held-in-Err-1.given ∙ c.held-1.given

pub shape_of-events-in-Err : goal.shape_of-events-in-Err
shape_of-events-in-Err c = c.events-1.given

pub shape_of-text-in-Err : goal.shape_of-text-in-Err
shape_of-text-in-Err c = c.text-1.given

pub shape_of-work-in-Err : goal.shape_of-work-in-Err
shape_of-work-in-Err c = c.work-1.given

pub returns-in-Err : goal.returns-in-Err
returns-in-Err c =
    goes_on c.requires c.keep.ensures (reached-still c.requires (advanced-asks c.requires c.outermost-row.ensures.places _ c.held-1.given) c.in-Err.ensures
    (λ z. absurd (omega (arith, z, refusal-some c.in-Err.s.refusal)))) (record { held = c.held-1.given; events = refl; text = refl; work = refl }) c.stay.ensures

pub overflow_add-n-2 : goal.overflow_add-n-2
unfolding max_stream
overflow_add-n-2 c =
    omega (arith, c.requires.few)

pub advanced-a-requires : goal.advanced-a-requires
advanced-a-requires c =
    (advanced-asks c.requires c.outermost-row.ensures.places _ c.held-1.given)

pub overflow_add-n-3 : goal.overflow_add-n-3
unfolding max_stream
overflow_add-n-3 c =
    omega (arith, c.requires.few)

pub cut-w-requires : goal.cut-w-requires
cut-w-requires c =
    cut-asks c.requires (advanced-asks c.requires c.outermost-row.ensures.places _ c.held-1.given) c.advanced-a.ensures c.work-2-1.given

pub conclude-requires : goal.conclude-requires
conclude-requires c =
    conclude-asks c.requires c.keep.ensures (reached-on c.requires (advanced-asks c.requires c.outermost-row.ensures.places _ c.held-1.given) c.advanced-a.ensures c.cut-w.ensures)

pub shape_of-held : goal.shape_of-held
shape_of-held c =
    c.held-2-1.given ∙ c.held-1.given

pub shape_of-events : goal.shape_of-events
shape_of-events c =
    c.events-3-1.given ∙ c.events-2-1.given

pub shape_of-text : goal.shape_of-text
shape_of-text c =
    c.text-3-1.given ∙ c.text-2-1.given

pub shape_of-work : goal.shape_of-work
shape_of-work c =
    c.work-3-1.given ∙ c.work-2-1.given

pub returns : goal.returns
returns c =
    goes_on c.requires c.keep.ensures (reached-on c.requires (advanced-asks c.requires
    c.outermost-row.ensures.places _ c.held-1.given) c.advanced-a.ensures c.cut-w.ensures) (record {
      held = c.held-1.given;
      events = c.events-2-1.given;
      text = c.text-2-1.given;
      work = c.work-2-1.given;
    }) c.conclude.ensures
