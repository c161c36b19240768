-- The number of a word, digit by digit.
use Prim.Native.Nat.{ℕ, ◌+◌, ◌-◌, ◌*◌, ◌≤◌, ◌<◌}
use native.Mathlib.Numerals.{add-one}
use mathlib.Core.Path.{◌≡◌, sym}
use mathlib.Core.Bool.{Bool, true, false}
use lib.ListN.{length, get_or, drop, drop_of_length-le}
use lib.Seq.{drop-cons}
use lib.Dec.{eqb}
use borrow.Author.Tests.{le-leb, lt-leb, le-ltb}
use Rattle.std.specs.Prelude.{Some, None}
use Rattle.text.specs.Text.{Text}
use Rattle.exi_words.specs.Words.{is_digit, number_from, number_in}

module _ (w : Text) where
  pub whole : {r : Bool} → r ≡ eqb (length w) 0 → r ≡ false → length w ≤ 9
      → number_from w 0 ≡ number_in w
  whole e f h = rw (sym e, f, le-ltb _ _ h)

  module _ (i n : ℕ) where
    pub no-digit : {r : Bool} → i < length w → r ≡ is_digit (get_or w i 0) → r ≡ false
        → None ≡ number_from (drop i w) n
    unfolding number_from
    no-digit h e f = rw (drop-cons w i 0 h, sym e, f)

    pub too-large : {r : Bool} → i < length w → r ≡ is_digit (get_or w i 0) → r ≡ true
        → 99999999 < n → None ≡ number_from (drop i w) n
    unfolding number_from
    too-large h e t l = rw (drop-cons w i 0 h, sym e, t, lt-leb _ _ l)

    pub one-read : {r : Bool} → i < length w → r ≡ is_digit (get_or w i 0) → r ≡ true
        → n ≤ 99999999
        → number_from (drop i w) n ≡ number_from (drop (i + 1) w) (10 * n + (get_or w i 0 - 48))
    unfolding number_from
    one-read h e t l = rw (drop-cons w i 0 h, sym e, t, le-leb _ _ l, add-one)

    pub all-read : length w ≤ i → Some n ≡ number_from (drop i w) n
    unfolding number_from
    all-read h = rw (drop_of_length-le w h)
