-- The search for a name in a list of words: where it stands, and where it does not.
use Prim.Native.Nat.{ℕ, ◌+◌, ◌<◌, ◌≤◌}
use native.Mathlib.Numerals.{add-one}
use mathlib.Core.Path.{◌≡◌, sym}
use mathlib.Core.Bool.{Bool, true, false}
use mathlib.Core.List.{List}
use lib.ListN.{length, get_or, drop, drop_of_length-le}
use lib.Seq.{drop-cons}
use Rattle.std.specs.Prelude.{Some, None}
use Rattle.std.specs.Str.{bytes_eq}
use Rattle.text.specs.Text.{Text}
use Rattle.exi_words.specs.Words.{name_of, named_among}
use Rattle.exi_words.specs.declared.Word.{Word}

module _ (l : List Word) (w : Text) (i : ℕ) (d : Word) where
  pub stands : {n : Text} {r : Bool} → i < length l → n ≡ name_of (get_or l i d)
      → r ≡ bytes_eq n w → r ≡ true → Some (get_or l i d) ≡ named_among (drop i l) w
  unfolding named_among
  stands h s e t = rw (drop-cons l i d h, sym s, sym e, t)

  pub passes : {n : Text} {r : Bool} → i < length l → n ≡ name_of (get_or l i d)
      → r ≡ bytes_eq n w → r ≡ false → named_among (drop i l) w ≡ named_among (drop (i + 1) l) w
  unfolding named_among
  passes h s e t = rw (drop-cons l i d h, sym s, sym e, t, add-one)

  pub all-passed : length l ≤ i → None ≡ named_among (drop i l) w
  unfolding named_among
  all-passed h = rw (drop_of_length-le l h)
