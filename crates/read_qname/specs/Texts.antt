-- What reading one string or more leaves of the text store: those read are laid after it. Of one
-- that is refused the cells are cleared.
use Rattle.std.specs.Prelude.{ℕ, ◌+◌, ◌≤◌, ◌≡◌, List, ◌++◌, length, replicate}
use Rattle.text.specs.Text.{Text}
use Rattle.spec_exi.specs.Sizes.{max_store}
use Rattle.read_literal.specs.Literal.{laid_at}

pub record TextRead (text : List ℕ) (stored : ℕ) (text' : List ℕ) (number stored' : ℕ) : Type 0
  where
    pub x : Text
    pub cleared : ℕ
    pub text-is : text' ≡ laid_at text stored (x ++ replicate cleared 0)
    pub stored_is : stored' ≡ stored + length x
    pub room : stored + length x + cleared ≤ max_store
    pub whole : number ≡ 0 → cleared ≡ 0
