use mathlib.Core.Path.{ap, ◌∙◌}
use Prim.Native.Nat.{ℕ}
use lib.ListN.{replicate}
use borrow.Author.Rules.{rules}
use Rattle.writer.proofs.Reply.{reply-is, refused-zeros, accepted-octets}
use Rattle.writer.proofs.write.Goals as goal

-- `write` meets its contract.
pub returns-then-answer-ne0 : goal.returns-then-answer-ne0
returns-then-answer-ne0 c =
    record {
      reply = reply-is _ c.attempt-answer.ensures;
      octets = c.octets.ensures
          ∙ ap (λ (n : ℕ). replicate n 0) c.stream-1.given
          ∙ refused-zeros _ _ c.attempt-answer.ensures c.if-answer-ne0.true;
      work = c.cells.ensures ∙ ap (λ (n : ℕ). replicate n 0) c.work-1.given;
    }

pub returns : goal.returns
returns c =
    record {
      reply = reply-is _ c.attempt-answer.ensures;
      octets = accepted-octets _ c.attempt-answer.ensures c.if-answer-ne0.false;
      work = c.cells.ensures ∙ ap (λ (n : ℕ). replicate n 0) c.work-1.given;
    }
