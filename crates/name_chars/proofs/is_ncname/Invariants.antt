use lib.ListN.{drop}
use mathlib.Core.Path.{◌≡◌}
use Rattle.text.specs.Names.{all_name_chars, is_ncname}
use Rattle.name_chars.proofs.is_ncname.Given as goal

-- What is left has only name characters exactly where the text is an NCName.
abbrev pub invariant-loop-p : goal.invariant-loop-p
invariant-loop-p l = all_name_chars (drop l.p-index l.rest) ≡ is_ncname l.x
