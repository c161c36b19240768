-- Strings of the text store that two cells of work memory name, and the hash of a text.
use Rattle.std.specs.Prelude.{ℕ, ◌+◌, ◌*◌, ◌%◌, ◌≤◌, ◌<◌, ◌≡◌, Bool, cond, List, [], ◌∷◌, length, get_or, set, take, ltb}
use Rattle.text.specs.Text.{Text, eq_text, part}
use Rattle.spec_exi.specs.Tables.{Placed, span_of}

-- ---- the hash: nothing is used of it but that it is a number of the text

unfoldable pub mixed : ℕ → ℕ → ℕ
mixed h c = (h * 16777619 + c) % 4294967296

unfoldable pub hash_from : ℕ → Text → ℕ
hash_from h [] = h
hash_from h (c ∷ x) = hash_from (mixed h c) x

unfoldable pub hash_of : Text → ℕ
hash_of x = hash_from 0 x

-- ---- cells

pub record TextCellsPre (work : List ℕ) (place size : ℕ) : Type 0 where
  pub place_room : place < length work
  pub size_room : size < length work

unfoldable pub row_has : List ℕ → Text → ℕ → ℕ → Text → Bool
row_has work store place size x =
    eq_text (part store (record { place = get_or work place 0; size = get_or work size 0 })) x

unfoldable pub with_text : List ℕ → ℕ → ℕ → ℕ → ℕ → List ℕ
with_text work place size from long = set (set work place from) size long

-- Where the text of a row lies: in the first cells of a store.
pub record Source : Type 0 where
  pub store : List ℕ
  pub stored : ℕ

abbrev pub up_to : List ℕ → ℕ → Source
up_to store stored = record { store = store; stored = stored }

-- All rows in one store.
abbrev pub throughout : List ℕ → ℕ → ℕ → Source
throughout store stored i = up_to store stored

-- The first rows in a store of their own: a writer's initial entries.
unfoldable pub store_of : ℕ → List ℕ → List ℕ → ℕ → List ℕ
store_of first opening store i = cond (ltb i first) opening store

-- Two cells name this string, and it lies in the first cells of the store.
pub record Names (work store : List ℕ) (stored place size : ℕ) (x : Placed) : Type 0 where
  pub place_is : get_or work place 0 ≡ x.place
  pub size_is : get_or work size 0 ≡ length x.text
  pub ends : x.place + length x.text ≤ stored
  pub text : part store (span_of x) ≡ x.text

-- The first cells of the store are as they were.
pub record Grown (before after : List ℕ) (stored more : ℕ) : Type 0 where
  pub same : take stored after ≡ take stored before
  pub longer : stored ≤ more
  pub inside : more ≤ length after

-- A text that lies in the first cells of the store.
pub record Lies (store : List ℕ) (stored place size : ℕ) (x : Text) : Type 0 where
  pub ends : place + size ≤ stored
  pub inside : stored ≤ length store
  pub text : part store (record { place = place; size = size }) ≡ x
