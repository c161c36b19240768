-- Events one behind the other, by the definitions.
use Rattle.std.specs.Prelude.{◌≡◌, List, [], ◌∷◌}
use Rattle.spec_fields.specs.Bits.{Bits}
use Rattle.spec_fields.specs.Parser.{got}
use Rattle.spec_exi.specs.Settings.{Settings}
use Rattle.spec_exi.specs.Sizes.{sizes}
use Rattle.spec_exi.specs.Event.{Event}
use Rattle.spec_exi.specs.Tables.{Placed}
use Rattle.spec_exi.specs.Context.{Context}
use Rattle.spec_exi.specs.Reader.{step}

-- These events are read from a context and bits, and lead to others: step by step.
pub data Steps (s : Settings) : Context → Bits → List (Event Placed) → Context → Bits → Type 0 where
  none_read : {c : Context} {bs : Bits} → Steps s c bs [] c bs
  one-read : {c d f : Context} {bs mid rest : Bits} {e : Event Placed} {es : List (Event Placed)}
      → step sizes s c bs ≡ got (e, d) mid → Steps s d mid es f rest
      → Steps s c bs (e ∷ es) f rest
