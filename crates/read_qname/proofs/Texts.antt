-- The text store while the strings of an event are read.
use Prim.Native.Nat.{ℕ, ◌+◌, ◌≤◌, ◌<◌}
use native.Mathlib.Omega.{arith}
use native.Mathlib.Nat.{le_refl}
use mathlib.Core.Path.{◌≡◌, refl, sym, ap, subst, ◌∙◌}
use mathlib.Core.List.{List, [], ◌∷◌, ◌++◌, append_assoc, append-nil}
use lib.ListN.{length, take, drop, replicate, length-append, length-replicate, length-drop}
use lib.ListN.{replicate-append-replicate}
use lib.Seq.{length-take-le, drop-drop, drop_at, take_at}
use Rattle.text.specs.Text.{Text, part}
use Rattle.spec_exi.specs.Sizes.{max_store}
use Rattle.mem_entries.specs.Texts.{Grown}
use Rattle.read_literal.specs.Literal.{laid_at, Cleared}
use Rattle.read_literal.proofs.Store.{laid-before, laid-take, laid-size, laid-over, laid_none}
use Rattle.read_partition.specs.View.{StringRead}
use Rattle.read_partition.specs.Strings.{refused_as, Refused, Laid}
use Rattle.read_qname.specs.Texts.{TextRead}

-- One text after another.
pub laid_both : (text : List ℕ) (stored : ℕ) (x y : Text) → stored + length x ≤ length text
    → laid_at (laid_at text stored x) (stored + length x) y ≡ laid_at text stored (x ++ y)
unfolding laid_at
laid_both text stored x y h =
    let front = take stored text ++ x in
    let l : length front ≡ stored + length x =
    length-append (take stored text) x
    ∙ ap (λ m. m + length x) (length-take-le stored text (omega arith)) in
    let e : stored + length (x ++ y) ≡ (stored + length x) + length y =
    omega (arith, length-append x y) in
    let back : drop (stored + length x + length y) (front ++ drop (stored + length x) text)
    ≡ drop (stored + length (x ++ y)) text =
    sym (drop-drop (length y) (stored + length x) (front ++ drop (stored + length x) text))
    ∙ ap (drop (length y)) (drop_at front (drop (stored + length x) text) (stored + length x) l)
    ∙ drop-drop (length y) (stored + length x) text
    ∙ ap (λ m. drop m text) (sym e) in
    rw (laid-take text stored x h, back, append_assoc (take stored text) x y)

text-fits : {text : List ℕ} {stored : ℕ} {text' : List ℕ} {number stored' : ℕ}
    → max_store ≤ length text → (t : TextRead text stored text' number stored')
    → stored + length (t.x ++ replicate t.cleared 0) ≤ length text
text-fits room t =
    omega (
      arith,
      length-append t.x (replicate t.cleared 0),
      length-replicate {A = ℕ} t.cleared 0,
      t.room,
    )

module _ {text : List ℕ} {stored : ℕ} {text' : List ℕ} {number stored' : ℕ}
    (room : max_store ≤ length text) (t : TextRead text stored text' number stored') where
  pub text-size : length text' ≡ length text
  text-size =
      ap length t.text-is ∙ laid-size text stored _ (text-fits room t)

  -- The store before is as it was.
  pub text-grown : Grown text text' stored stored'
  unfolding laid_at
  text-grown =
      record {
        same = ap (take stored) t.text-is ∙ laid-before text stored _ (text-fits room t);
        longer = omega (arith, t.stored_is);
        inside = omega (arith, text-size, t.stored_is, t.room);
      }

-- ---- what a string function leaves

pub text-refused : {text : List ℕ} {stored : ℕ} {text' : List ℕ} {r : StringRead} → 0 < r.number
    → Refused text stored text' r → stored ≤ max_store
    → TextRead text stored text' r.number r.stored
text-refused {stored = stored} {r = r} h d few =
    record {
      x = [];
      cleared = d.cleared.cells;
      text-is = d.cleared.text-is;
      stored_is = ap (λ (y : StringRead). y.stored) d.is ∙ omega arith;
      room = omega (arith, d.cleared.room);
      whole = λ z. absurd (omega arith);
    }

pub text-laid : {text : List ℕ} {stored : ℕ} {text' : List ℕ} {r : StringRead}
    → r.number ≡ 0 → Laid text stored text' r → TextRead text stored text' r.number r.stored
text-laid {text} {stored} z l =
    record {
      x = l.x;
      cleared = 0;
      text-is = l.text-is ∙ ap (laid_at text stored) (sym (append-nil l.x));
      stored_is = l.stored_is;
      room = omega (arith, l.stored_is, l.room);
      whole = λ _. refl;
    }

-- Nothing is read.
pub text-none : (text : List ℕ) (stored : ℕ) → stored ≤ max_store → (number : ℕ)
    → TextRead text stored text number stored
text-none text stored few number =
    record {
      x = [];
      cleared = 0;
      text-is = laid_none text stored;
      stored_is = omega arith;
      room = omega (arith, few);
      whole = λ _. refl;
    }

-- Another string after one that was read.
pub text-then : {text text₁ text₂ : List ℕ} {stored stored₁ stored₂ n k : ℕ}
    → max_store ≤ length text → n ≡ 0 → TextRead text stored text₁ n stored₁
    → TextRead text₁ stored₁ text₂ k stored₂ → TextRead text stored text₂ k stored₂
text-then {text} {text₁} {text₂} {stored} {stored₁} room z t u =
    let e : text₁ ≡ laid_at text stored t.x =
    t.text-is
    ∙ ap (λ m. laid_at text stored (t.x ++ replicate m 0)) (t.whole z)
    ∙ ap (laid_at text stored) (append-nil t.x) in
    let h : stored + length t.x ≤ length text = omega (arith, t.room) in
    record {
      x = t.x ++ u.x;
      cleared = u.cleared;
      text-is = u.text-is
          ∙ ap (λ y. laid_at y stored₁ (u.x ++ replicate u.cleared 0)) e
          ∙ ap (λ m. laid_at (laid_at text stored t.x) m (u.x ++ replicate u.cleared 0))
          t.stored_is
          ∙ laid_both text stored t.x (u.x ++ replicate u.cleared 0) h
          ∙ ap (laid_at text stored) (sym (append_assoc t.x u.x (replicate u.cleared 0)));
      stored_is = omega (arith, u.stored_is, t.stored_is, length-append t.x u.x);
      room = omega (arith, u.room, t.stored_is, length-append t.x u.x);
      whole = u.whole;
    }

-- A text over the first part of another.
laid-first : (text : List ℕ) (stored : ℕ) (x y z : Text) → length y ≡ length x
    → stored + length x + length z ≤ length text
    → laid_at (laid_at text stored (x ++ z)) stored y ≡ laid_at text stored (y ++ z)
unfolding laid_at
laid-first text stored x y z l h =
    let front = take stored text in
    let rest = drop (stored + length (x ++ z)) text in
    let all : stored + length (x ++ z) ≤ length text = omega (arith, length-append x z) in
    let n : length (front ++ x) ≡ stored + length y =
    length-append front x ∙ ap (λ m. m + length x) (length-take-le stored text (omega arith))
    ∙ omega arith in
    let e : front ++ (x ++ z) ++ rest ≡ (front ++ x) ++ (z ++ rest) =
    ap (λ u. u ++ rest) (sym (append_assoc front x z)) ∙ append_assoc (front ++ x) z rest in
    let m : length (x ++ z) ≡ length (y ++ z) =
    omega (arith, length-append x z, length-append y z) in
    let d : drop (stored + length y) (front ++ (x ++ z) ++ rest) ≡ z ++ rest =
    ap (drop (stored + length y)) e ∙ drop_at (front ++ x) (z ++ rest) (stored + length y) n in
    ap (λ u. u ++ y ++ drop (stored + length y) (front ++ (x ++ z) ++ rest))
    (laid-before text stored (x ++ z) all)
    ∙ ap (λ u. front ++ y ++ u) d
    ∙ sym (append_assoc (front ++ y) z rest)
    ∙ ap (λ u. u ++ rest) (append_assoc front y z)
    ∙ ap (λ k. front ++ (y ++ z) ++ drop (stored + k) text) m

-- All that was laid is cleared.
pub text-cleared : {text text₁ text₂ : List ℕ} {stored stored₁ n : ℕ} (k : ℕ)
    → max_store ≤ length text → TextRead text stored text₁ n stored₁ → stored + k ≡ stored₁
    → text₂ ≡ laid_at text₁ stored (replicate k 0) → Cleared text stored text₂
text-cleared {text} {text₁} {text₂} {stored} {stored₁} k room t e c =
    let some : length (replicate {A = ℕ} k 0) ≡ length t.x =
    omega (arith, length-replicate {A = ℕ} k 0, t.stored_is) in
    record {
      cells = k + t.cleared;
      room = omega (arith, t.room, t.stored_is);
      text-is = c
          ∙ ap (λ y. laid_at y stored (replicate k 0)) t.text-is
          ∙ laid-first text stored t.x (replicate k 0) (replicate t.cleared 0) some
          (omega (arith, t.room, length-replicate {A = ℕ} t.cleared 0))
          ∙ ap (laid_at text stored) (replicate-append-replicate {A = ℕ} k t.cleared 0);
    }
