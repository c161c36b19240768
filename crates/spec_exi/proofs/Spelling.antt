-- A string that is spelled out has the bits of its form, and the strict form of a text spells it
-- out.
use Prim.Native.Nat.{ℕ, zero, suc, ◌+◌, ◌≤◌}
use native.Mathlib.Omega.{arith}
use mathlib.Core.Path.{◌≡◌, refl, sym, ◌∙◌, ap, subst}
use mathlib.Core.List.{List, [], ◌∷◌}
use mathlib.Core.Option.{Option, none, some, none-ne-some, some-injective, map}
use lib.ListN.{length, get_or, get_elem?}
use lib.Dec.{T, eqb, eqb→eq, eqb_refl}
use Rattle.spec_fields.specs.Bits.{Bits, each}
use Rattle.spec_fields.specs.Field.{unsigned_bits, max_unsigned}
use Rattle.spec_fields.proofs.Tests.{split, is_t, both, left, right}
use Rattle.spec_fields.proofs.Number.{unsigned-bits, bits-unsigned, member_below}
use Rattle.text.specs.Text.{Text, is_char, all_chars}
use Rattle.text.proofs.Char.{char-bound}
use Rattle.text.proofs.Equal.{eq_text-eq}
use Rattle.spec_exi.specs.Sizes.{max_string}
use Rattle.spec_exi.specs.Settings.{Settings}
use Rattle.spec_exi.specs.Tables.{Placed, Slot, Tables, has_text, index_of, Role, uri, local}
use Rattle.spec_exi.specs.Tables.{value, target, comment_text, instruction_text, plain}
use Rattle.spec_exi.specs.Tables.{Partitions, compact, literals}
use Rattle.spec_exi.specs.Tables.{partitions_of, Form, hit, literal, eq_form, hit_or, first_hit}
use Rattle.spec_exi.specs.Tables.{form_of, string_bits, form_bits, laid}
use Rattle.spec_exi.proofs.Derivation.{Characters, nothing, more, Literal, a_literal, Spelled}
use Rattle.spec_exi.proofs.Derivation.{compact_hit, compact_miss, literal_hit, literal_miss}

-- ---- forms

-- Forms that the test finds the same are equal.
pub same-form : (f g : Form) → T (eq_form f g) → f ≡ g
unfolding eq_form
same-form (hit j i) (hit l k) t =
    cc (eqb→eq j l (left (eqb j l) (eqb i k) t), eqb→eq i k (right (eqb j l) (eqb i k) t))
same-form (hit j i) literal t = absurd t
same-form literal (hit l k) t = absurd t
same-form literal literal t = refl

-- A form is the same as itself.
pub form-same : (f : Form) → T (eq_form f f)
unfolding eq_form
form-same (hit j i) = both (eqb j j) (eqb i i) (eqb_refl j) (eqb_refl i)
form-same literal = tt

-- The partitions that a hit counts.
abbrev parts_of : Partitions → List (List Slot)
parts_of (compact es) = es ∷ []
parts_of (literals ess) = ess

few-partitions : (t : Tables) (r : Role) → length (parts_of (partitions_of t r)) ≤ 2
unfolding partitions_of
few-partitions t uri = omega arith
few-partitions t (local attr u) = omega arith
few-partitions t (value q) = omega arith
few-partitions t target = omega arith
few-partitions t comment_text = omega arith
few-partitions t instruction_text = omega arith
few-partitions t plain = omega arith

-- ---- what is spelled out has the form's bits

member-default : {A : Type 0} (l : List A) (i : ℕ) (x d : A) → get_elem? l i ≡ some x → get_or l i d ≡ x
member-default [] i x d e = absurd (none-ne-some x e)
member-default (a ∷ l) zero x d e = cc
member-default (a ∷ l) (suc i) x d e = member-default l i x d e

module _ {s : Settings} where
  characters-bits : {x : Text} {w : Bits} → Characters s x w → w ≡ each unsigned_bits x
  unfolding each
  characters-bits nothing = refl
  characters-bits (more n h) = cc (unsigned-bits n, characters-bits h)

  literal-bits : {k : ℕ} {x : Text} {w : Bits} → Literal s k x w → w ≡ string_bits k x
  unfolding string_bits
  literal-bits (a_literal n h) = cc (unsigned-bits n, characters-bits h)

  -- A spelled string has the bits of its form, Unsigned Integers being in fewest octets.
  pub spelled-bits : {t : Tables} {ps : Partitions} {f : Form} {x : Placed} {w : Bits}
      → Spelled s t ps f x w → w ≡ form_bits s.alignment ps f x.text
  unfolding form_bits laid
  spelled-bits (compact_hit e) = refl
  spelled-bits (compact_miss h) = cc (literal-bits h)
  spelled-bits (literal_hit {ess = ess} {es = es} {j = j} e i n) =
      rw (member-default ess j es [] e) (cc (unsigned-bits n))
  spelled-bits (literal_miss h) = literal-bits h

-- ---- the strict form spells the text out

module _ (s : Settings) where
  bits-characters : (x : Text) → T (all_chars x) → Characters s x (each unsigned_bits x)
  unfolding all_chars each max_unsigned
  bits-characters [] t = nothing
  bits-characters (p ∷ x) t =
      let c = char-bound p (left (is_char p) (all_chars x) t) in
      more (bits-unsigned p (omega arith)) (bits-characters x (right (is_char p) (all_chars x) t))

  bits-literal : (k : ℕ) (x : Text) → k ≤ 2 → T (all_chars x) → length x ≤ max_string
      → Literal s k x (string_bits k x)
  unfolding string_bits max_unsigned max_string
  bits-literal k x l t h = a_literal (bits-unsigned (length x + k) (omega arith)) (bits-characters x t)

-- The number that a text has in a partition is that of an entry with the text.
record Found (es : List Slot) (y : Text) (i : ℕ) : Type 0 where
  entry : Placed
  at : get_elem? es i ≡ some (some entry)
  is : entry.text ≡ y

has-text : (x : Slot) (y : Text) → T (has_text x y) → (e : Placed) × (x ≡ some e) × (e.text ≡ y)
unfolding has_text
has-text none y t = absurd t
has-text (some e) y t = (e, refl, eq_text-eq e.text y t)

index-means : (es : List Slot) (y : Text) (i : ℕ) → index_of es y ≡ some i → Found es y i
unfolding index_of
index-means [] y i e = absurd (none-ne-some i e)
index-means (x ∷ es) y i e =
    split (has_text x y)
    (λ t.
    let (z, same, is) = has-text x y (is_t (has_text x y) t) in
    let n : 0 ≡ i = some-injective 0 i (rw t at e) in
    subst (Found (x ∷ es) y) n (record { entry = z; at = ap some same; is = is }))
    (λ t. later (λ k. index-means es y k) (index_of es y) refl (rw t at e))
  where
    later : ((k : ℕ) → index_of es y ≡ some k → Found es y k) → (o : Option ℕ) → index_of es y ≡ o
        → map suc o ≡ some i → Found (x ∷ es) y i
    later f none q e = absurd (none-ne-some i e)
    later f (some k) q e =
        let m = f k q in
        subst (Found (x ∷ es) y) (some-injective (suc k) i e)
        (record { entry = m.entry; at = m.at; is = m.is })

-- A hit in partition k + number.
record HitFor (k : ℕ) (ess : List (List Slot)) (y : Text) (j i : ℕ) : Type 0 where
  number : ℕ
  counted : j ≡ k + number
  table : List Slot
  there : get_elem? ess number ≡ some table
  found : Found table y i

no-literal-hit : {X : Type 0} {j i : ℕ} → literal ≡ hit j i → X
no-literal-hit e = let z : ◌≡◌ {A = ℕ} 0 1 = cc in absurd (omega arith)

first-means : (k : ℕ) (ess : List (List Slot)) (y : Text) (j i : ℕ) → first_hit k ess y ≡ hit j i
    → HitFor k ess y j i
unfolding first_hit hit_or
first-means k [] y j i e = no-literal-hit e
first-means k (es ∷ ess) y j i e = by (first-means (suc k) ess y j i) (index_of es y) refl e
  where
    by : (first_hit (suc k) ess y ≡ hit j i → HitFor (suc k) ess y j i) → (o : Option ℕ)
        → index_of es y ≡ o → hit_or k o (first_hit (suc k) ess y) ≡ hit j i → HitFor k (es ∷ ess) y j i
    by f none q e =
        let m = f e in
        record {
          number = suc m.number;
          counted = omega (arith, m.counted);
          table = m.table;
          there = m.there;
          found = m.found;
        }
    by f (some n) q e =
        let z : n ≡ i = cc in
        let l : k ≡ j = cc in
        record {
          number = 0;
          counted = omega arith;
          table = es;
          there = refl;
          found = subst (Found es y) z (index-means es y n q);
        }

module _ (s : Settings) (t : Tables) where
  -- The string that the strict form of a text means, spelled out.
  pub record Spelling (ps : Partitions) (y : Text) : Type 0 where
    pub string : Placed
    pub is : string.text ≡ y
    pub spelled : Spelled s t ps (form_of ps y) string (form_bits s.alignment ps (form_of ps y) y)

  hit-spelled : (ps : Partitions) (y : Text) (j i : ℕ) → length (parts_of ps) ≤ 2 → form_of ps y ≡ hit j i
      → (x : Placed) × (x.text ≡ y) × Spelled s t ps (hit j i) x (form_bits s.alignment ps (hit j i) y)
  unfolding form_of form_bits max_unsigned
  hit-spelled (compact es) y j i few e = go (first-means 0 (es ∷ []) y j i e)
    where
      go : HitFor 0 (es ∷ []) y j i → (x : Placed) × (x.text ≡ y)
          × Spelled s t (compact es) (hit j i) x (form_bits s.alignment (compact es) (hit j i) y)
      go m =
          let f = m.found in
          let below = member_below (es ∷ []) m.number m.there in
          let zeroth : m.number ≡ 0 = omega arith in
          let j0 : 0 ≡ j = omega (arith, m.counted) in
          let same : m.table ≡ es = some-injective m.table es (sym m.there ∙ rw zeroth) in
          let spelled = compact_hit {i = i} (subst (λ b. get_elem? b i ≡ some (some f.entry)) same f.at) in
          (f.entry, f.is, rw (← j0) spelled)
  hit-spelled (literals ess) y j i few e = go (first-means 0 ess y j i e)
    where
      go : HitFor 0 ess y j i → (x : Placed) × (x.text ≡ y)
          × Spelled s t (literals ess) (hit j i) x (form_bits s.alignment (literals ess) (hit j i) y)
      go m =
          let f = m.found in
          let n : m.number ≡ j = omega (arith, m.counted) in
          let there : get_elem? ess j ≡ some m.table = rw n at m.there in
          let below = member_below ess j there in (
            f.entry,
            f.is,
            rw (member-default ess j m.table [] there)
                (literal_hit there f.at (bits-unsigned j (omega arith))),
          )

  -- A literal's length, raised, is far below the largest Unsigned Integer.
  literal-spelled : (ps : Partitions) (y : Text) → length (parts_of ps) ≤ 2 → T (all_chars y)
      → length y ≤ max_string → Spelled s t ps literal (laid t y) (form_bits s.alignment ps literal y)
  unfolding form_bits
  literal-spelled (compact es) y few c l = compact_miss (bits-literal s 0 y (omega arith) c l)
  literal-spelled (literals ess) y few c l = literal_miss (bits-literal s (length ess) y few c l)

  -- The strict form spells every string of Chars that is short.
  pub strict-spelling : (r : Role) (y : Text) → T (all_chars y) → length y ≤ max_string
      → Spelling (partitions_of t r) y
  unfolding laid
  strict-spelling r y c l = go (form_of ps y) refl
    where
      ps : Partitions
      ps = partitions_of t r

      go : (f : Form) → form_of ps y ≡ f → Spelling ps y
      go (hit j i) e = let (x, is, h) = hit-spelled ps y j i (few-partitions t r) e in
          record { string = x; is = is; spelled = rw e h }
      go literal e =
          record { string = laid t y; is = refl; spelled = rw e (literal-spelled ps y (few-partitions t r) c l) }
