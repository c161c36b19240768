-- How code points are shown.
use Rattle.std.specs.Prelude.{ℕ, cond, ◌&&◌, ◌||◌, eqb, leb}
use Rattle.exi_text.specs.declared.Shown.{Shown}
use Rattle.exi_text.specs.declared.Shown.TheVariants.{Plain, Letter, Number}

-- Printable ASCII as it is, but for the quote and the backslash, which have a backslash before
-- them; tab, line feed and return by their letters.
unfoldable pub shown_as : ℕ → Shown
shown_as p =
    cond (leb 32 p && leb p 126)
    (cond (eqb p 34 || eqb p 92) (Letter p) (Plain p))
    (cond (eqb p 9) (Letter 116) (cond (eqb p 10) (Letter 110)
    (cond (eqb p 13) (Letter 114) Number)))
