-- The classes of code points (02, P10).
use Rattle.std.specs.Prelude.{ℕ, zero, suc, cond, List, [], ◌∷◌}
use Rattle.text.specs.Names.{is_name_start, is_name_char}

-- A letter for each class: A may stand first in a name and further on, 1 only further on, a full
-- stop is in no name.
abbrev pub first : ℕ
first = 65

abbrev pub further : ℕ
further = 49

abbrev pub no_name : ℕ
no_name = 46

unfoldable pub class_of : ℕ → ℕ
class_of p = cond (is_name_start p) first (cond (is_name_char p) further no_name)

-- The classes of n code points from k on.
unfoldable pub classes : ℕ → ℕ → List ℕ
classes k zero = []
classes k (suc n) = class_of k ∷ classes (suc k) n

-- Those of the first 768 (02, P10).
unfoldable pub table : List ℕ
table = classes 0 768
