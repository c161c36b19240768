use Rattle.grammar_codes.proofs.Places.{kept-both, kept-instruction}
use Rattle.grammar_codes.proofs.Places.{kept-comment, no-comment, no-instruction, kept-none}
use borrow.Author.Tests.{not-true, not-false}
use Rattle.grammar_codes.proofs.kept_place.Goals as goal

pub returns-then-comments-clause-is : goal.returns-then-comments-clause-is
returns-then-comments-clause-is c = kept-comment _ _ _ c.if-kind-eq-CM.true c.if-comments.true

pub returns-then-kind-eq-CM-clause-is : goal.returns-then-kind-eq-CM-clause-is
returns-then-kind-eq-CM-clause-is c = no-comment _ _ _ c.if-kind-eq-CM.true c.if-comments.false

pub returns-then-not-instructions-clause-is : goal.returns-then-not-instructions-clause-is
returns-then-not-instructions-clause-is c =
    no-instruction _ _ _ c.if-kind-eq-PI.true (not-true _ c.if-not-instructions.true-raw)

pub returns-then-comments-2-clause-is : goal.returns-then-comments-2-clause-is
returns-then-comments-2-clause-is c = kept-both _ _ _ c.if-kind-eq-PI.true (not-false _ c.if-not-instructions.false-raw) c.if-comments-2.true

pub returns-then-kind-eq-PI-clause-is : goal.returns-then-kind-eq-PI-clause-is
returns-then-kind-eq-PI-clause-is c = kept-instruction _ _ _ c.if-kind-eq-PI.true (not-false _ c.if-not-instructions.false-raw) c.if-comments-2.false

pub returns-clause-is : goal.returns-clause-is
returns-clause-is c = kept-none _ _ _ c.if-kind-eq-CM.false c.if-kind-eq-PI.false
