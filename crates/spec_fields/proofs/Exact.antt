-- What it means that a parser reads exactly: `Reads p R` says that p gives a value a and the rest
-- just where bits w with `R a w` stand before the rest. The laws below put such parsers together.
use mathlib.Core.Path.{◌≡◌, refl, sym, ◌∙◌, ap, subst}
use mathlib.Core.List.{List, [], ◌∷◌, ◌++◌, append_assoc, append-nil}
use mathlib.Core.Bool.{Bool, true, false, cond, not}
use mathlib.Core.Option.{Option, none, some, none-ne-some}
use Prim.Native.Nat.{ℕ, zero, suc}
use lib.ListN.{length}
use native.Mathlib.Omega.{arith}
use lib.Dec.{T}
use Rattle.spec_fields.specs.Bits.{Bits, each}
use Rattle.spec_fields.specs.Refusal.{Refusal}
use Rattle.spec_fields.specs.Parser.{Result, bad, got, Parser, return, fail, present, need}
use Rattle.spec_fields.specs.Parser.{and_then, ◌>>=◌, ◌>>◌, times}

-- The parser reads exactly the values a with bits w of which R a w holds, whatever comes after.
pub record Reads {A : Type 0} (p : Parser A) (R : A → Bits → Type 0) : Type 0 where
  -- what is read stands there
  pub sound : (bs : Bits) (a : A) (rest : Bits) → p bs ≡ got a rest → (w : Bits) × R a w × (bs ≡ w ++ rest)
  -- what stands there is read
  pub complete : (a : A) (w rest : Bits) → R a w → p (w ++ rest) ≡ got a rest

module _ {A : Type 0} where
  -- Results that are the same have one value.
  pub got-value : {a b : A} {r s : Bits} → ◌≡◌ {A = Result A} (got a r) (got b s) → a ≡ b
  got-value e = cc

  -- They leave the same bits.
  pub got-rest : {a b : A} {r s : Bits} → ◌≡◌ {A = Result A} (got a r) (got b s) → r ≡ s
  got-rest e = cc

  -- No refusal is a value.
  pub not-got : {X : Type 0} {k : Refusal} {a : A} {r : Bits} → ◌≡◌ {A = Result A} (bad k) (got a r) → X
  not-got e = let z : ◌≡◌ {A = ℕ} 0 1 = cc in absurd (omega arith)

  -- The same parser, by an equivalent relation.
  pub reads_as : {p : Parser A} {R S : A → Bits → Type 0} → Reads p R → ((a : A) (w : Bits) → R a w → S a w)
      → ((a : A) (w : Bits) → S a w → R a w) → Reads p S
  reads_as h to from =
      record {
        sound = λ bs a rest e. let (w, r, q) = h.sound bs a rest e in (w, to a w r, q);
        complete = λ a w rest x. h.complete a w rest (from a w x);
      }

  -- Reads nothing and gives a.
  pub record Returned (a x : A) (w : Bits) : Type 0 where
    pub is : x ≡ a
    pub empty : w ≡ []

  -- Reads nothing, and gives this.
  pub reads-return : (a : A) → Reads (return a) (Returned a)
  unfolding return
  reads-return a =
      record {
        sound = λ bs x rest e. ([], record { is = sym (got-value e); empty = refl }, got-rest e);
        complete =
            λ x w rest h. let e : ◌≡◌ {A = Result A} (got a (w ++ rest)) (got x rest) = cc (h.is, h.empty) in e;
      }

  -- Reads nothing.
  pub reads-fail : (k : Refusal) → Reads (fail k) (λ (x : A) w. ⊥)
  unfolding fail
  reads-fail k = record { sound = λ bs x rest e. not-got e; complete = λ x w rest h. absurd h }

  -- Gives what is there.
  pub reads-present : (k : Refusal) (o : Option A) → Reads (present k o) (λ x w. (o ≡ some x) × (w ≡ []))
  unfolding present
  reads-present k none = reads_as (reads-fail k) (λ x w h. absurd h) (λ x w h. none-ne-some x h.0)
  reads-present k (some a) =
      reads_as (reads-return a) (λ x w h. (cc, h.empty)) (λ x w h. record { is = cc; empty = h.1 })

  -- By a test.
  pub reads-cond : {p q : Parser A} {R : A → Bits → Type 0} (b : Bool) → (T b → Reads p R)
      → (T (not b) → Reads q R) → Reads (cond b p q) R
  reads-cond true f g = f tt
  reads-cond false f g = g tt

module _ {A B : Type 0} where
  -- A value by R, and after it one by S.
  pub record Then (R : A → Bits → Type 0) (S : A → B → Bits → Type 0) (b : B) (w : Bits) : Type 0 where
    pub first : A
    pub front : Bits
    pub back : Bits
    pub one : R first front
    pub two : S first b back
    pub joined : w ≡ front ++ back

  -- One after the other.
  pub reads_then : {p : Parser A} {f : A → Parser B} {R : A → Bits → Type 0} {S : A → B → Bits → Type 0} → Reads p R
      → ((a : A) (u : Bits) → R a u → Reads (f a) (S a)) → Reads (p >>= f) (Then R S)
  unfolding ◌>>=◌ and_then
  reads_then {p} {f} {R} {S} h k = record { sound = λ bs b rest e. after bs b rest (p bs) refl e; complete = there }
    where
      after : (bs : Bits) (b : B) (rest : Bits) (x : Result A) → p bs ≡ x → and_then x f ≡ got b rest
          → (w : Bits) × Then R S b w × (bs ≡ w ++ rest)
      after bs b rest (bad j) q e = not-got e
      after bs b rest (got a mid) q e =
          let (u, r, eu) = h.sound bs a mid q in
          let (v, t, ev) = (k a u r).sound mid b rest e in (
            u ++ v,
            record { first = a; front = u; back = v; one = r; two = t; joined = refl },
            eu ∙ ap (λ m. u ++ m) ev
                ∙ sym (append_assoc u v rest),
          )

      there : (b : B) (w rest : Bits) → Then R S b w → and_then (p (w ++ rest)) f ≡ got b rest
      there b w rest x =
          let u = x.front in
          let v = x.back in
          ap (λ bs. and_then (p (bs ++ rest)) f) x.joined
          ∙ ap (λ bs. and_then (p bs) f) (append_assoc u v rest)
          ∙ ap (λ y. and_then y f) (h.complete x.first u (v ++ rest) x.one)
          ∙ (k x.first u x.one).complete b v rest x.two

  -- A value by R, changed by g.
  pub record Mapped (R : A → Bits → Type 0) (g : A → B) (b : B) (w : Bits) : Type 0 where
    pub from : A
    pub by : R from w
    pub is : b ≡ g from

  -- Another value for what is read.
  pub reads-map : {p : Parser A} {R : A → Bits → Type 0} → Reads p R → (g : A → B)
      → Reads (p >>= λ a. return (g a)) (Mapped R g)
  reads-map {p} {R} h g =
      reads_as (reads_then h (λ a u r. reads-return (g a)))
      (λ b w x. record {
        from = x.first;
        by = subst (R x.first) (sym (x.joined ∙ ap (λ v. x.front ++ v) x.two.empty ∙ append-nil x.front))
            x.one;
        is = x.two.is;
      })
      (λ b w x. record {
        first = x.from;
        front = w;
        back = [];
        one = x.by;
        two = record { is = x.is; empty = refl };
        joined = sym (append-nil w);
      })

-- A test before a parser.
pub reads-guard : {A : Type 0} {p : Parser A} {R : A → Bits → Type 0} (b : Bool) (k : Refusal) → (T b → Reads p R)
    → Reads (need b k >> p) (λ a w. T b × R a w)
unfolding need ◌>>◌ ◌>>=◌ and_then return fail
reads-guard true k h = reads_as (h tt) (λ a w r. (tt, r)) (λ a w r. r.1)
reads-guard false k h = record { sound = λ bs a rest e. not-got e; complete = λ a w rest r. absurd r.0 }

-- A value by R that passes a test.
pub reads-checked : {A : Type 0} {p : Parser A} {R : A → Bits → Type 0} → Reads p R → (f : A → Bool) (k : Refusal)
    → Reads (p >>= λ a. need (f a) k >> return a) (λ a w. R a w × T (f a))
reads-checked {p} {R} h f k =
    reads_as (reads_then h (λ a u r. reads-guard (f a) k (λ t. reads-return a)))
    (λ a w x.
    let i : x.first ≡ a = sym x.two.1.is in
    let j : x.front ≡ w = sym (x.joined ∙ ap (λ v. x.front ++ v) x.two.1.empty ∙ append-nil x.front) in
    (subst (λ b. R b w) i (subst (R x.first) j x.one), subst (λ b. T (f b)) i x.two.0))
    (λ a w x.
    record {
      first = a;
      front = w;
      back = [];
      one = x.0;
      two = (x.1, record { is = refl; empty = refl });
      joined = sym (append-nil w);
    })

-- ---- n values, each with its own bits

module _ {A : Type 0} where
  -- Each member is as Ok says.
  abbrev pub Every : (A → Type 0) → List A → Type 0
  Every Ok [] = Unit {0}
  Every Ok (a ∷ l) = Ok a × Every Ok l

  -- n times.
  pub reads_times : {p : Parser A} {Ok : A → Type 0} {bits : A → Bits} (n : ℕ) → Reads p (λ a w. Ok a × (w ≡ bits a))
      → Reads (times n p) (λ l w. (length l ≡ n) × Every Ok l × (w ≡ each bits l))
  unfolding times each
  reads_times {p} {Ok} {bits} zero h = reads_as (reads-return []) (λ l w x. rw x.is (refl, tt, x.empty)) from
    where
      from : (l : List A) (w : Bits) → (length l ≡ 0) × Every Ok l × (w ≡ each bits l) → Returned [] l w
      from [] w x = record { is = refl; empty = x.2 }
      from (a ∷ l) w x = absurd (omega arith)
  reads_times {p} {Ok} {bits} (suc n) h =
      reads_as (reads_then h (λ a u r. reads-map (reads_times n h) (λ l. a ∷ l)))
      (λ l w x. rw x.two.is (
        ap suc x.two.by.0,
        (x.one.0, x.two.by.1),
        cc (x.joined, x.one.1, x.two.by.2),
      ))
      from
    where
      from : (l : List A) (w : Bits) → (length l ≡ suc n) × Every Ok l × (w ≡ each bits l)
          → Then (λ a v. Ok a × (v ≡ bits a)) (λ a. Mapped (λ m v. (length m ≡ n) × Every Ok m × (v ≡ each bits m))
          (λ m. a ∷ m)) l w
      from [] w x = absurd (omega arith)
      from (a ∷ l) w x =
          record {
            first = a;
            front = bits a;
            back = each bits l;
            one = (x.1.0, refl);
            two = record { from = l; by = (omega arith, x.1.1, refl); is = refl };
            joined = x.2;
          }
