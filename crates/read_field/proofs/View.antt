-- A parser's result and what stands at a position: each gives the other; and the refusals' numbers.
use mathlib.Core.Path.{◌≡◌, refl, sym, ap}
use mathlib.Core.List.{List, ◌++◌}
use Prim.Native.Nat.{ℕ, ◌+◌, ◌*◌, ◌-◌, ◌≤◌, ◌<◌}
use native.Mathlib.Omega.{arith}
use lib.ListN.{length, drop, length-drop, length-append}
use lib.Seq.{drop-drop, drop-append_seam}
use Rattle.spec_fields.specs.Bits.{Bits, unpack}
use Rattle.spec_fields.specs.Refusal.{Refusal, number_of}
use Rattle.spec_fields.specs.Parser.{Result, bad, got, Parser}
use Rattle.spec_fields.proofs.Exact.{Reads}
use Rattle.spec_fields.proofs.Pack.{length-unpack}
use Rattle.refusal.specs.declared.Refusal as code
use Rattle.refusal.specs.declared.Refusal.TheVariants.{Room, Settings, Long, Header, Ended, Code}
use Rattle.refusal.specs.declared.Refusal.TheVariants.{Number, Character, Reference, Loose, Name}
use Rattle.refusal.specs.declared.Refusal.TheVariants.{Limit, Tail, Shape, Place, Structure}
use Rattle.refusal.specs.declared.Refusal.TheVariants.{BadStamp, BadMovement, NotLater}
use Rattle.refusal.specs.Numbers.{number_in}
use Rattle.read_field.specs.View.{Value, Refused}
use Rattle.read_field.specs.View.{view_of, field_at}

-- The parser gives v at bit `at`, and leaves the bits from q on.
pub record Found (p : Parser ℕ) (s : List ℕ) (at v q : ℕ) : Type 0 where
  pub result : p (drop at (unpack s)) ≡ got v (drop q (unpack s))
  pub after : at ≤ q
  pub inside : q ≤ 8 * length s

-- The parser refuses at bit `at`, and the refusal has the number k.
pub record Declined (p : Parser ℕ) (s : List ℕ) (at k : ℕ) : Type 0 where
  pub refusal : Refusal
  pub result : p (drop at (unpack s)) ≡ bad refusal
  pub is : k ≡ number_of refusal

-- Two parsers with one result have one view.
pub field-same : (p q : Parser ℕ) (s : List ℕ) (a b : ℕ)
    → p (drop a (unpack s)) ≡ q (drop b (unpack s)) → field_at p s a ≡ field_at q s b
unfolding field_at
field-same p q s a b e = ap (view_of (8 * length s)) e

module _ (p : Parser ℕ) (s : List ℕ) (at : ℕ) where
  behind : (w rest : Bits) → drop at (unpack s) ≡ w ++ rest → rest ≡ drop (at + length w) (unpack s)
  behind w rest e = rw (← drop-drop (length w) at (unpack s), e) (sym (drop-append_seam w rest))

  pub field-got : (v q : ℕ) → q ≤ 8 * length s → p (drop at (unpack s)) ≡ got v (drop q (unpack s))
      → field_at p s at ≡ Value v q
  unfolding field_at view_of
  field-got v q h e =
      let l : 8 * length s - length (drop q (unpack s)) ≡ q =
      omega (arith, length-drop q (unpack s), length-unpack s) in
      rw (e, l)

  pub field-bad : (k : Refusal) → p (drop at (unpack s)) ≡ bad k → field_at p s at ≡ Refused (number_of k)
  unfolding field_at view_of
  field-bad k e = rw e

  pub field-value : {R : ℕ → Bits → Type 0} → Reads p R → at ≤ 8 * length s → {v q : ℕ} → field_at p s at ≡ Value v q
      → Found p s at v q
  unfolding field_at view_of
  field-value h inside {v} {q} e = go (p (drop at (unpack s))) refl e
    where
      go : (x : Result ℕ) → p (drop at (unpack s)) ≡ x → view_of (8 * length s) x ≡ Value v q → Found p s at v q
      go (bad k) j e = let z : ◌≡◌ {A = ℕ} 0 1 = cc in absurd (omega arith)
      go (got a rest) j e =
          let (w, r, i) = h.sound (drop at (unpack s)) a rest j in
          let n : a ≡ v = cc in
          let m : 8 * length s - length rest ≡ q = cc in
          let l : at + length w ≡ q =
          omega (arith, ap length i, length-append w rest, length-drop at (unpack s), length-unpack s) in
          let d : rest ≡ drop q (unpack s) = rw (← l) (behind w rest i) in
          record { result = cc; after = omega arith; inside = omega (arith, length-unpack s) }

  pub field-refused : {k : ℕ} → field_at p s at ≡ Refused k → Declined p s at k
  unfolding field_at view_of
  field-refused {k} e = go (p (drop at (unpack s))) refl e
    where
      go : (x : Result ℕ) → p (drop at (unpack s)) ≡ x → view_of (8 * length s) x ≡ Refused k → Declined p s at k
      go (bad r) j e = record { refusal = r; result = j; is = cc }
      go (got a rest) j e = let z : ◌≡◌ {A = ℕ} 0 1 = cc in absurd (omega arith)

-- The number of a refusal is not 0.
pub refusal-some : (k : code.Refusal) → 0 < number_in k
refusal-some Room = omega arith
refusal-some Settings = omega arith
refusal-some Long = omega arith
refusal-some Header = omega arith
refusal-some Ended = omega arith
refusal-some Code = omega arith
refusal-some Number = omega arith
refusal-some Character = omega arith
refusal-some Reference = omega arith
refusal-some Loose = omega arith
refusal-some Name = omega arith
refusal-some Limit = omega arith
refusal-some Tail = omega arith
refusal-some Shape = omega arith
refusal-some Place = omega arith
refusal-some Structure = omega arith
refusal-some BadStamp = omega arith
refusal-some BadMovement = omega arith
refusal-some NotLater = omega arith
