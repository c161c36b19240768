-- A text behind the store: laid code point by code point, looked up, and cleared.
use Prim.Native.Nat.{ℕ, suc, ◌+◌, ◌-◌, ◌≤◌, ◌<◌}
use mathlib.Core.Path.{◌≡◌, refl, sym, ◌∙◌, ap}
use mathlib.Core.List.{List, [], ◌∷◌, ◌++◌, append_assoc, append-nil}
use native.Mathlib.Nat.{add-zero}
use native.Mathlib.Omega.{arith}
use lib.ListN.{length, get_or, take, drop, set, replicate, length-append, length-drop, length-replicate, length-set}
use lib.ListN.{take-append-drop, get_or-replicate}
use borrow.Rule.Slice.PartMut.{put_mid, mid_of, mid_len}
use Rattle.std.proofs.lemmas.Slice.{put_mid-paste}
use lib.Seq.{take_all}
use lib.Seq.{append_snoc, drop-cons, set_at, length-take-le, ext_get_or, get_or-drop, drop_at, take_at}
use Rattle.text.specs.Text.{Text, part}
use Rattle.text.proofs.Parts.{part-inside}
use Rattle.read_literal.specs.Literal.{laid_at, ZeroFrom}

-- The zeros from a cell on are a list of zeros.
pub zero-drop : (cells : List ℕ) (at : ℕ) → ZeroFrom cells at → drop at cells ≡ replicate (length cells - at) 0
zero-drop cells at z =
    ext_get_or 0 (drop at cells) (replicate (length cells - at) 0)
    (length-drop at cells ∙ sym (length-replicate (length cells - at) 0))
    (λ i h.
    get_or-drop at cells i 0 ∙ z.zero (at + i) (omega arith)
    ∙ sym (get_or-replicate (length cells - at) i 0 0 (omega (arith, length-drop at cells))))

-- A text laid at the store's end.
module _ (text : List ℕ) (stored : ℕ) (x : Text) (h : stored + length x ≤ length text) where
  laid-front : length (take stored text ++ x) ≡ stored + length x
  laid-front = length-append (take stored text) x ∙ ap (λ n. n + length x) (length-take-le stored text (omega arith))

  pub laid-length : length (take stored text ++ x ++ drop (stored + length x) text) ≡ length text
  laid-length =
      length-append (take stored text ++ x) (drop (stored + length x) text)
      ∙ omega (arith, laid-front, length-drop (stored + length x) text)

  pub laid-take : take (stored + length x) (take stored text ++ x ++ drop (stored + length x) text)
      ≡ take stored text ++ x
  laid-take = take_at (take stored text ++ x) (drop (stored + length x) text) (stored + length x) laid-front

  pub laid-before : take stored (take stored text ++ x ++ drop (stored + length x) text) ≡ take stored text
  laid-before =
      ap (take stored) (append_assoc (take stored text) x (drop (stored + length x) text))
      ∙ take_at (take stored text) (x ++ drop (stored + length x) text) stored
      (length-take-le stored text (omega arith))

pub laid_none : (text : List ℕ) (stored : ℕ) → text ≡ laid_at text stored []
unfolding laid_at
laid_none text stored = rw (append-nil (take stored text), add-zero stored) (sym (take-append-drop stored text))

module _ (text : List ℕ) (stored : ℕ) (x : Text) where
  laid_one : (v : ℕ) → stored + length x < length text
      → set (laid_at text stored x) (stored + length x) v ≡ laid_at text stored (x ++ v ∷ [])
  unfolding laid_at
  laid_one v h =
      let front = take stored text ++ x in
      let at : ℕ = stored + length x in
      let l : length front ≡ at =
      length-append (take stored text) x ∙ ap (λ m. m + length x) (length-take-le stored text (omega arith)) in
      let e : stored + length (x ++ v ∷ []) ≡ suc at = omega (arith, length-append x (v ∷ [])) in
      rw (
        e,
        ← append_assoc (take stored text) x (v ∷ []),
        append_snoc front v (drop (suc at) text),
        drop-cons text at 0 h,
      )
      (set_at front (get_or text at 0) (drop (suc at) text) v at l)

  -- One code point more.
  pub laid_next : {text' : List ℕ} {v w i : ℕ} → text' ≡ laid_at text stored x → w ≡ v → length x ≡ i
      → stored + i < length text
      → set text' (stored + i) v ≡ laid_at text stored (x ++ w ∷ [])
  laid_next {v = v} e f l h = rw (e, f, ← l) (laid_one v (omega arith))

  pub laid-size : stored + length x ≤ length text → length (laid_at text stored x) ≡ length text
  unfolding laid_at
  laid-size h = laid-length text stored x h

  laid-drop : stored + length x ≤ length text
      → drop (stored + length x) (laid_at text stored x) ≡ drop (stored + length x) text
  unfolding laid_at
  laid-drop h =
      let front = take stored text ++ x in
      let l : length front ≡ stored + length x =
      length-append (take stored text) x ∙ ap (λ m. m + length x) (length-take-le stored text (omega arith)) in
      drop_at front (drop (stored + length x) text) (stored + length x) l

  -- Another text of its length in its place.
  pub laid-over : (y : Text) → length y ≡ length x → stored + length x ≤ length text
      → laid_at (laid_at text stored x) stored y ≡ laid_at text stored y
  unfolding laid_at
  laid-over y l h = rw (laid-before text stored x h, l, laid-drop h)

-- n cells that are written over with zeros.
pub cleared-is : (text : List ℕ) (from n : ℕ) {zeros : List ℕ} → from + n ≤ length text
    → zeros ≡ replicate (length (mid_of from (from + n - from) text)) 0
    → put_mid from (from + n - from) text zeros ≡ laid_at text from (replicate n 0)
unfolding laid_at
cleared-is text from n {zeros} h e =
    let k : from + n - from ≡ n = omega arith in
    let m : length (mid_of from (from + n - from) text) ≡ n = mid_len from (from + n) text h ∙ k in
    let y : zeros ≡ replicate n 0 = e ∙ ap (λ j. replicate j 0) m in
    let l : length (replicate {A = ℕ} n 0) ≡ n = length-replicate n 0 in
    put_mid-paste from (from + n - from) text zeros (replicate n 0) n y (sym k) (sym l)
    ∙ rw (take_all n (replicate {A = ℕ} n 0) (omega (arith, l)), l) refl

-- A text behind the store, looked up.
pub laid-part : (text : List ℕ) (stored : ℕ) (x : Text) → stored + length x ≤ length text
    → part (laid_at text stored x) (record { place = stored; size = length x }) ≡ x
unfolding laid_at
laid-part text stored x h =
    let front : length (take stored text) ≡ stored = length-take-le stored text (omega arith) in
    rw (
      part-inside (take stored text ++ x ++ drop (stored + length x) text) (record { place = stored; size = length x })
          (omega (arith, laid-length text stored x h)),
      append_assoc (take stored text) x (drop (stored + length x) text),
      drop_at (take stored text) (x ++ drop (stored + length x) text) stored front,
    )
    (take_at x (drop (stored + length x) text) (length x) refl)
