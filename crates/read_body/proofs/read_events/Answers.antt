use Prim.Native.Nat.{ℕ}
use mathlib.Core.Path.{sym, ap, ◌∙◌}
use lib.ListN.{replicate}
use Rattle.read_body.proofs.Body.{body-accepted, body_refused}
use Rattle.read_body.proofs.Reply.{error-number, counts-number}
use Rattle.read_body.proofs.read_events.Goals as goal

-- `read_events` meets its contract.
pub run-reply-requires : goal.run-reply-requires
run-reply-requires c = c.requires

pub returns-then-is_err : goal.returns-then-is_err
returns-then-is_err c =
    body_refused c.run-reply.ensures.read
    (error-number c.run-reply.result (sym c.is_err.ensures.value ∙ c.if-is_err.true)
    c.run-reply.ensures.some)
    (c.cells.ensures ∙ ap (λ (n : ℕ). replicate n 0) c.events-1.given)
    (c.cells-then-is_err.ensures ∙ ap (λ (n : ℕ). replicate n 0) c.text-1.given)

pub returns : goal.returns
returns c =
    body-accepted c.run-reply.ensures.read
    (counts-number c.run-reply.result (sym c.is_err.ensures.value ∙ c.if-is_err.false))
