-- What reading a string by no table leaves (EXI 7.1.10): an instruction's target or text, or a
-- comment.
use Rattle.std.specs.Prelude.{ℕ, List}
use Rattle.spec_fields.specs.Field.{Alignment}
use Rattle.read_partition.specs.View.{StringRead}
use Rattle.read_partition.specs.Strings.{Reading, StringPost}

-- Over any rows, in any alignment.
abbrev pub TextPost : Reading → List ℕ → ℕ → List ℕ → ℕ → List ℕ → StringRead → Type 0
TextPost read stream at text stored text' r =
    (a : Alignment) → StringPost a (λ w. Unit {0}) (λ w store. read) (λ w x. w) stream at text
    stored text' r
