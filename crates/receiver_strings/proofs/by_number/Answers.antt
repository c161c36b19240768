use mathlib.Core.Path.{refl, sym}
use mathlib.Core.Bool.{true, false, true≢false}
use Rattle.spec_exi.specs.Sizes.{max_string}
use Rattle.receiver_strings.proofs.Strings.{number-seen}
use Rattle.receiver_strings.proofs.by_number.Goals as goal

-- `by_number` meets its contract.
pub returns-in-Ok : goal.returns-in-Ok
unfolding max_string
returns-in-Ok c =
    number-seen c.requires _ _ c.if-v-k.false c.if-n-gt-MAX_STRING.false c.in-Ok.ensures
    true (λ _. refl)

pub returns-in-Err : goal.returns-in-Err
unfolding max_string
returns-in-Err c =
    number-seen c.requires _ _ c.if-v-k.false c.if-n-gt-MAX_STRING.false c.in-Err.ensures
    false (λ z. absurd (true≢false (sym z)))
