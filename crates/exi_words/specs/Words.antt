-- The words of the command line that have a meaning.
use Rattle.std.specs.Prelude.{ℕ, ◌+◌, ◌-◌, ◌*◌, Bool, cond, ◌&&◌, ◌||◌, List, [], ◌∷◌, length, eqb, leb, ltb, get_or}
use Rattle.std.specs.Prelude.{Option, Some, None}
use Rattle.std.specs.Str.{bytes_eq}
use Rattle.text.specs.Text.{Text, text}
use Rattle.exi_words.specs.declared.Word.{Word}
use Rattle.exi_words.specs.declared.Word.TheVariants.{BitPacked, ByteAligned, Cookie, Comments}
use Rattle.exi_words.specs.declared.Word.TheVariants.{Instructions, Fragment, MaxLength, Capacity}
use Rattle.exi_words.specs.declared.Word.TheVariants.{Packets, Ms, Utf8, Help, H, End, Show, Check}
use Rattle.exi_words.specs.declared.Word.TheVariants.{Readings, WriteReadings, HelpWord}

abbrev pub name_of : Word → Text
name_of BitPacked = text "--bit-packed"
name_of ByteAligned = text "--byte-aligned"
name_of Cookie = text "--cookie"
name_of Comments = text "--comments"
name_of Instructions = text "--instructions"
name_of Fragment = text "--fragment"
name_of MaxLength = text "--max-length"
name_of Capacity = text "--capacity"
name_of Packets = text "--packets"
name_of Ms = text "--ms"
name_of Utf8 = text "--utf8"
name_of Help = text "--help"
name_of H = text "-h"
name_of End = text "--"
name_of Show = text "show"
name_of Check = text "check"
name_of Readings = text "readings"
name_of WriteReadings = text "write-readings"
name_of HelpWord = text "help"

-- The flags, and then the commands.
unfoldable pub all_words : List Word
all_words =
    BitPacked
    ∷ ByteAligned
    ∷ Cookie
    ∷ Comments
    ∷ Instructions
    ∷ Fragment
    ∷ MaxLength
    ∷ Capacity
    ∷ Packets
    ∷ Ms
    ∷ Utf8
    ∷ Help
    ∷ H
    ∷ End
    ∷ Show
    ∷ Check
    ∷ Readings
    ∷ WriteReadings
    ∷ HelpWord
    ∷ []

-- The first of these that has this name.
unfoldable pub named_among : List Word → Text → Option Word
named_among [] w = None
named_among (x ∷ xs) w = cond (bytes_eq (name_of x) w) (Some x) (named_among xs w)

unfoldable pub named : Text → Option Word
named w = named_among all_words w

-- A word that begins with `-`, and is more than that.
abbrev pub is_option : Text → Bool
is_option w = ltb 1 (length w) && eqb (get_or w 0 0) 45

abbrev pub is_digit : ℕ → Bool
is_digit c = leb 48 c && leb c 57

-- The number of these digits behind those that mean v. (48 is the octet of the digit 0.)
unfoldable pub number_from : Text → ℕ → Option ℕ
number_from [] v = Some v
number_from (c ∷ w) v = cond (is_digit c && leb v 99999999) (number_from w (10 * v + (c - 48))) None

-- The number that a word is: 1 to 9 digits.
abbrev pub number_in : Text → Option ℕ
number_in w = cond (eqb (length w) 0 || ltb 9 (length w)) None (number_from w 0)
