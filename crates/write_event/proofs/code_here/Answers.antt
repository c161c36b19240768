use mathlib.Core.Path.{refl}
use native.Mathlib.Omega.{arith}
use borrow.Author.Rules.{rules}
use Rattle.write_event.proofs.code_here.Goals as goal

pub returns-in_default : goal.returns-in_default
returns-in_default c =
    record {
      counted = c.count_here-count.ensures;
      row = _;
      found = c.in_default.ensures;
      fixed = λ _. (refl, refl);
      taken = λ h. absurd (omega (arith, h));
    }

pub returns : goal.returns
returns c =
    record {
      counted = c.count_here-count.ensures;
      row = _;
      found = c.in-Some.ensures;
      fixed = λ z. absurd (omega (arith, z));
      taken = λ _. (refl, c.part_here-part.ensures);
    }
