-- The refusals' names (scope, "Refusal numbers"; 02, P12, for those of readings), and the name of a
-- number, in 16 octets.
use Rattle.std.specs.Prelude.{ℕ, ◌-◌, cond, List, [], ◌∷◌, ◌++◌, map, eqb, length, replicate}
use Rattle.text.specs.Text.{Text, text}
use Rattle.spec_fields.specs.Refusal.{Refusal, number_of, room, settings, long, header, ended, code}
use Rattle.spec_fields.specs.Refusal.{number, character, reference, loose, name, limit, tail, shape}
use Rattle.spec_fields.specs.Refusal.{place, number_structure, number_bad_stamp, number_bad_movement}
use Rattle.spec_fields.specs.Refusal.{number_not_later}

-- The word of the scope's table.
unfoldable pub name_of : Refusal → Text
name_of room = text "ROOM"
name_of settings = text "SETTINGS"
name_of long = text "LONG"
name_of header = text "HEADER"
name_of ended = text "ENDED"
name_of code = text "CODE"
name_of number = text "NUMBER"
name_of character = text "CHARACTER"
name_of reference = text "REFERENCE"
name_of loose = text "LOOSE"
name_of name = text "NAME"
name_of limit = text "LIMIT"
name_of tail = text "TAIL"
name_of shape = text "SHAPE"
name_of place = text "PLACE"

-- All of them, in the order of their numbers.
unfoldable pub refusals : List Refusal
refusals =
    room ∷ settings ∷ long ∷ header ∷ ended ∷ code ∷ number ∷ character ∷ reference ∷ loose ∷ name
    ∷ limit ∷ tail ∷ shape ∷ place ∷ []

-- Numbers and words of the readings' own refusals.
unfoldable pub of_readings : List (ℕ × Text)
of_readings =
    (number_structure, text "STRUCTURE")
    ∷ (number_bad_stamp, text "BAD_STAMP")
    ∷ (number_bad_movement, text "BAD_MOVEMENT")
    ∷ (number_not_later, text "NOT_LATER")
    ∷ []

-- All numbers with their words.
unfoldable pub names : List (ℕ × Text)
names = map (λ r. (number_of r, name_of r)) refusals ++ of_readings

-- The word of this number among these, or nothing.
unfoldable pub name_among : List (ℕ × Text) → ℕ → Text
name_among [] n = []
name_among (x ∷ xs) n = cond (eqb x.0 n) x.1 (name_among xs n)

-- A name with zeros up to 16 octets.
unfoldable pub padded : Text → List ℕ
padded x = x ++ replicate (16 - length x) 0

-- The name of the refusal with this number; zeros where there is none.
unfoldable pub name_at : ℕ → List ℕ
name_at n = padded (name_among names n)
