-- The definitions' grammars by rows of names.
use Rattle.std.specs.Prelude.{ℕ, ◌≡◌, Bool, true, List, map}
use Rattle.text.specs.Text.{Text}
use Rattle.spec_exi.specs.Event.{QName}
use Rattle.mem_learned.specs.Grammars.{has_row}

-- The definitions' grammars are those of these names.
pub record Grows (name : ℕ → QName Text) (is_key : ℕ → Bool) (qs : List (QName Text)) (gs : List ℕ) :
    Type 0 where
  pub names : qs ≡ map name gs
  pub keys : (k : ℕ) → has_row gs k ≡ true → is_key k ≡ true
