use Rattle.read_literal.proofs.Laws.{literal-long, literal-full, literal-read}
use Rattle.spec_exi.specs.Sizes.{max_store, max_string}
use Rattle.read_literal.proofs.read_literal.Goals.{then-n-gt-MAX_STRING-via-then-n-gt-MAX_STRING, then-n-gt-MAX_STRING-via-else-n-gt-MAX_STRING+then-stored-n-gt-MAX_STORE}
use Rattle.read_literal.proofs.read_literal.Goals as goal

pub returns-then-n-gt-MAX_STRING-clause-read : goal.returns-then-n-gt-MAX_STRING-clause-read
unfolding max_string max_store
returns-then-n-gt-MAX_STRING-clause-read c =
    elim c.then-n-gt-MAX_STRING.branch [
      | then-n-gt-MAX_STRING-via-then-n-gt-MAX_STRING w ↦
          literal-long c.requires w.if-n-gt-MAX_STRING.true
      | then-n-gt-MAX_STRING-via-else-n-gt-MAX_STRING+then-stored-n-gt-MAX_STORE w ↦
          literal-full c.requires w.if-n-gt-MAX_STRING.false w.if-stored-n-gt-MAX_STORE.true
    ]

pub read_characters-requires : goal.read_characters-requires
unfolding max_store
read_characters-requires c =
    record { literal = c.requires; ends = c.if-stored-n-gt-MAX_STORE.false }

pub returns-clause-read : goal.returns-clause-read
unfolding max_string max_store
returns-clause-read c =
    literal-read c.requires c.if-n-gt-MAX_STRING.false c.if-stored-n-gt-MAX_STORE.false
    c.read_characters.ensures.read
