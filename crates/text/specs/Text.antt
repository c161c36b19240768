-- Texts: lists of code points. Strings in a text store: a place and a length in it (scope, "What is
-- bought").
use Rattle.std.specs.Prelude.{ℕ, ◌+◌, Bool, true, false, cond, ◌&&◌, ◌||◌, List, [], ◌∷◌, length, take, drop, eqb, leb}
use Prim.Native.Char.{code}
use Prim.Native.String.{String}

-- Code points, one number each (scope, "What is bought").
abbrev pub Text : Type 0
Text = List ℕ

-- The code points of a string of this language.
unfoldable pub text : String → Text
text String.[] = []
text (String.◌∷◌ c s) = code c ∷ text s

-- Two texts are the same when their code points are (scope, "What is bought").
unfoldable pub eq_text : Text → Text → Bool
eq_text [] [] = true
eq_text [] (y ∷ ys) = false
eq_text (x ∷ xs) [] = false
eq_text (x ∷ xs) (y ∷ ys) = eqb x y && eq_text xs ys

-- It has no code point.
unfoldable pub is_empty : Text → Bool
is_empty [] = true
is_empty (x ∷ xs) = false

-- An XML 1.0 Char (scope, "Fields").
unfoldable pub is_char : ℕ → Bool
is_char p =
    eqb p 9 || eqb p 10 || eqb p 13
    || (leb 32 p && leb p 55295)
    || (leb 57344 p && leb p 65533)
    || (leb 65536 p && leb p 1114111)

-- Only Chars; else it is CHARACTER (scope, "Refusal numbers", 8).
unfoldable pub all_chars : Text → Bool
all_chars [] = true
all_chars (p ∷ ps) = is_char p && all_chars ps

-- A string in a store: a place and a length (scope, "What is bought").
pub record Span : Type 0 where
  pub place : ℕ
  pub size : ℕ

-- Place plus length does not pass the store's length; else it is PLACE (scope, "Refusal numbers",
-- 15).
unfoldable pub inside : Text → Span → Bool
inside store x = leb (x.place + x.size) (length store)

-- Looks a string up: that part of the store, or the empty part at its start where the string lies
-- outside it (scope, "What is bought").
unfoldable pub part : Text → Span → Text
part store x = cond (inside store x) (take x.size (drop x.place store)) []
