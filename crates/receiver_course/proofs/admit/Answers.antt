use mathlib.Core.Path.{refl, sym, ◌∙◌}
use borrow.Author.Tests.{not-false}
use Rattle.receiver_course.proofs.Ways.{sound-few, no_room, no-meaning, not_sound, is-long, is_read}
use borrow.Author.Rules.{rules}
use Rattle.receiver_course.proofs.admit.Goals as goal

-- `admit` meets its contract.
pub returns-then-not-roomy : goal.returns-then-not-roomy
returns-then-not-roomy c a b = no_room _ _ _ a b c.if-not-roomy.true-raw refl

pub returns-then-not-meant : goal.returns-then-not-meant
returns-then-not-meant c a b =
    no-meaning _ _ _ a b c.if-not-roomy.false-raw c.are_meaningful-meant.ensures
    c.if-not-meant.true-raw refl

pub returns-then-not-sound : goal.returns-then-not-sound
returns-then-not-sound c a b =
    not_sound _ _ _ a b c.if-not-roomy.false-raw c.are_meaningful-meant.ensures
    c.if-not-meant.false-raw c.is_sound-sound.ensures c.if-not-sound.true-raw refl

pub overflow_sub-r : goal.overflow_sub-r
overflow_sub-r c =
    sound-few _ (sym c.is_sound-sound.ensures ∙ not-false _ c.if-not-sound.false-raw)

pub returns-then-r-k : goal.returns-then-r-k
returns-then-r-k c a b =
    is-long _ _ _ a b c.if-not-roomy.false-raw c.are_meaningful-meant.ensures
    c.if-not-meant.false-raw c.is_sound-sound.ensures c.if-not-sound.false-raw c.if-r-k.true refl

pub returns : goal.returns
returns c a b =
    is_read _ _ _ a b c.if-not-roomy.false-raw c.are_meaningful-meant.ensures
    c.if-not-meant.false-raw c.is_sound-sound.ensures c.if-not-sound.false-raw c.if-r-k.false
