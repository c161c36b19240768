-- Strings that two cells name: while memory changes elsewhere, the store grows, or they are put
-- there.
use Prim.Native.Nat.{ℕ, ◌+◌, ◌≤◌, ◌<◌}
use native.Mathlib.Omega.{arith}
use mathlib.Core.Path.{◌≡◌, refl, sym, ap, ◌∙◌}
use mathlib.Core.Bool.{Bool, true, false, cond}
use mathlib.Core.Logic.{◌≢◌}
use mathlib.Core.List.{List}
use lib.ListN.{length, get_or, take, length-set, length-take}
use lib.Seq.{lt-length-set, get_or-set_same, get_or-set_other}
use lib.Dec.{T, ltb}
use Rattle.text.specs.Text.{Text, Span, eq_text, part}
use Rattle.text.proofs.Equal.{eq_text-eq, eq_text-refl}
use Rattle.text.proofs.Parts.{part-take, part_length}
use Rattle.spec_exi.specs.Tables.{Placed, span_of}
use Rattle.mem_entries.specs.Texts.{row_has, with_text, Names, Grown, Lies, store_of}

pub text-is : (a b : Text) → eq_text a b ≡ true → a ≡ b
text-is a b e = eq_text-eq a b (rw e tt)

pub is-text : (a b : Text) → a ≡ b → eq_text a b ≡ true
is-text a b e = rw e (is_true (eq_text b b) (eq_text-refl b))
  where
    is_true : (b : Bool) → T b → b ≡ true
    is_true true t = refl
    is_true false t = absurd t

-- Where first rows and others lie in one store.
pub one_store : (first : ℕ) (store : List ℕ) (i : ℕ) → store ≡ store_of first store store i
unfolding store_of
one_store first store i = either (ltb i first)
  where
    either : (b : Bool) → store ≡ cond b store store
    either true = refl
    either false = refl

-- A row has a text if its string has it.
pub row-text : {work store : List ℕ} {stored place size : ℕ} {s : Placed} (x : Text)
    → Names work store stored place size s → row_has work store place size x ≡ eq_text s.text x
unfolding row_has span_of
row-text x l = rw (l.place_is, l.size_is, l.text)

pub names_same : {work after store : List ℕ} {stored place size : ℕ} {s : Placed}
    → get_or after place 0 ≡ get_or work place 0 → get_or after size 0 ≡ get_or work size 0
    → Names work store stored place size s → Names after store stored place size s
names_same p q l =
    record { place_is = p ∙ l.place_is; size_is = q ∙ l.size_is; ends = l.ends; text = l.text }

pub names-grown : {work before after : List ℕ} {stored more place size : ℕ} {s : Placed}
    → Grown before after stored more → stored ≤ length before
    → Names work before stored place size s → Names work after more place size s
unfolding span_of
names-grown {work} {before} {after} {stored} {more} {place} {size} {s} g inside l =
    let x : Span = span_of s in
    let e : s.place + length s.text ≤ stored = l.ends in
    let a : x.place + x.size ≤ length (take stored after) =
    omega (arith, length-take stored after, g.longer, g.inside) in
    let b : x.place + x.size ≤ length (take stored before) =
    omega (arith, length-take stored before) in
    record {
      place_is = l.place_is;
      size_is = l.size_is;
      ends = omega (arith, g.longer);
      text = sym (part-take after stored x a) ∙ ap (λ l. part l x) g.same
          ∙ part-take before stored x b ∙ l.text;
    }

-- ---- a string is put

module _ (work : List ℕ) (place size from long : ℕ) where
  pub put-length : length (with_text work place size from long) ≡ length work
  unfolding with_text
  put-length = simp length-set

  pub put_other : (j : ℕ) → (j ≡ place → ⊥) → (j ≡ size → ⊥)
      → get_or (with_text work place size from long) j 0 ≡ get_or work j 0
  unfolding with_text
  put_other j p q =
      let p' : j ≢ place = p in
      let q' : j ≢ size = q in
      simp get_or-set_other

  module _ (a : place < length work) (b : size < length work) (apart : place ≡ size → ⊥) where
    put-place : get_or (with_text work place size from long) place 0 ≡ from
    unfolding with_text
    put-place = let p : place ≢ size = apart in simp (get_or-set_other, get_or-set_same)

    put-size : get_or (with_text work place size from long) size 0 ≡ long
    unfolding with_text
    put-size = simp (get_or-set_same, lt-length-set)

    pub put-names : (store : List ℕ) (stored : ℕ) (x : Text) → Lies store stored from long x
        → Names (with_text work place size from long) store stored place size
        (record { place = from; text = x })
    unfolding span_of
    put-names store stored x l =
        let z : long ≡ length x =
        sym (ap length (sym l.text) ∙ part_length store (record { place = from; size = long })
        (omega (arith, l.ends, l.inside))) in
        record {
          place_is = put-place;
          size_is = put-size ∙ z;
          ends = omega (arith, l.ends);
          text = rw (← z) l.text;
        }
