use Rattle.write_tags.proofs.Documents.{first_of, document-started}
use borrow.Author.Rules.{rules}
use Rattle.write_tags.proofs.start_document.Goals as goal

pub outer-requires : goal.outer-requires
outer-requires c =
    record {
      step_pre = c.requires.step_pre;
      outer_pre = first_of _ _ c.requires.mode_value;
    }

pub returns : goal.returns
returns c =
    document-started c.requires.step_pre c.requires.mode_value c.requires.found_here c.outer.ensures
