-- The worked examples of names hold, by computation.
use mathlib.Core.Path.{refl}
use Rattle.text.specs.Text.{text}
use Rattle.text.specs.Names.{is_letter, is_xml, has_pair, ends_in}
use Rattle.text.specs.Examples.{starts, beside_starts, further, beside_further, NameExamples}
use Rattle.text.proofs.Names.{name_definitions}

-- They hold, by computation.
pub name-examples : NameExamples
unfolding text name_definitions is_letter is_xml has_pair ends_in starts beside_starts further
    beside_further
name-examples =
    record {
      first = refl;
      not_first = refl;
      next = refl;
      not_next = refl;
      names = refl;
      no_names = refl;
      xml = refl;
      no_xml = refl;
      hyphens = refl;
      no_hyphens = refl;
      end_marks = refl;
      no_end_marks = refl;
      ends = refl;
      no_ends = refl;
    }
