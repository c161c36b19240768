-- Strings in a store: the part that a span names where it lies inside, and that a longer store changes no text.
use mathlib.Core.Path.{◌≡◌, sym}
use mathlib.Core.Bool.{true}
use mathlib.Core.List.{◌++◌}
use Prim.Native.Nat.{ℕ, ◌+◌, ◌≤◌}
use native.Mathlib.Omega.{arith}
use lib.Dec.{T, leb→le}
use lib.ListN.{length, take, drop, length-append, length-take, length-drop, take-append-drop}
use lib.Seq.{take-append-le, drop-append-le}
use borrow.Author.Tests.{le-leb}
use Rattle.text.specs.Text.{Text, Span, inside, part}

module _ (store : Text) (x : Span) where
  -- What lies inside fits.
  pub inside-fits : T (inside store x) → x.place + x.size ≤ length store
  unfolding inside
  inside-fits t = leb→le _ _ t

  module _ (fits : x.place + x.size ≤ length store) where
    -- What fits lies inside.
    pub fits-inside : inside store x ≡ true
    unfolding inside
    fits-inside = le-leb _ _ fits

    -- Its text is that part of the store.
    pub part-inside : part store x ≡ take x.size (drop x.place store)
    unfolding part
    part-inside = rw fits-inside

    -- The text is as long as the string.
    pub part_length : length (part store x) ≡ x.size
    part_length = rw part-inside (simp (length-take, length-drop) (omega arith))

-- A longer store changes no text.
pub part-longer : (store more : Text) (x : Span) → x.place + x.size ≤ length store
    → part (store ++ more) x ≡ part store x
part-longer store more x fits =
    let at : x.place ≤ length store = omega arith in
    let long : x.place + x.size ≤ length (store ++ more) = simp length-append (omega arith) in
    let left : x.size ≤ length (drop x.place store) = simp length-drop (omega arith) in
    rw (part-inside (store ++ more) x long, part-inside store x fits, drop-append-le x.place store more at)
    (take-append-le x.size (drop x.place store) more left)

-- A string that lies in the first n cells has the same text in them as in the whole store.
pub part-take : (store : Text) (n : ℕ) (x : Span) → x.place + x.size ≤ length (take n store)
    → part (take n store) x ≡ part store x
part-take store n x fits = sym (rw take-append-drop at (part-longer (take n store) (drop n store) x fits))
