-- A code, part by part: each is a value among those that its level has.
use Prim.Native.Nat.{ℕ, zero, suc, ◌+◌, ◌-◌, ◌≤◌, ◌<◌}
use native.Mathlib.Omega.{arith}
use native.Mathlib.Nat.{zero-add}
use mathlib.Core.Path.{◌≡◌, refl, sym, ap, subst, ◌∙◌}
use mathlib.Core.Bool.{Bool, true, false}
use mathlib.Core.List.{List, [], ◌∷◌, ◌++◌}
use lib.ListN.{length, get_or, drop}
use lib.Seq.{get_or-drop}
use lib.Dec.{eqb}
use borrow.Author.Tests.{eqb-true, eqb-false}
use Rattle.spec_fields.specs.Field.{choice_bits}
use Rattle.spec_fields.proofs.Tests.{split}
use Rattle.spec_exi.specs.Event.{Kind}
use Rattle.spec_exi.specs.Settings.{Settings}
use Rattle.mem_chain.specs.Chain.{below}
use Rattle.mem_chain.proofs.Last.{below_less}
use Rattle.grammar_codes.specs.declared.Place.{Place}
use Rattle.grammar_codes.specs.Table.{table_of, level_at, no_kinds, values_at, fixed_bits}
use Rattle.grammar_codes.proofs.Table.{few-kinds}
use Rattle.grammar_codes.proofs.Bits.{bits-here, bits-on, level-there}
use Rattle.write_field.specs.Written.{Put, PutChoicePre}
use Rattle.write_field.proofs.Written.{put-blank, put_then}
use Rattle.write_field.proofs.Lengths.{choice-length}
use Rattle.write_production.specs.declared.Code.{Code}
use Rattle.write_production.specs.Codes.{placed_bits, lower_bits, code_bits_as, FixedPre}
use Rattle.write_production.specs.Codes.{LowerPre, CodePre}

-- ---- how many values a part has

some-kind : (t : List (List Kind)) (j : ℕ) {v : ℕ} → v < length (get_or t j []) → no_kinds t ≡ false
unfolding no_kinds
some-kind [] j h = absurd (omega arith)
some-kind ([] ∷ t) zero h = absurd (omega arith)
some-kind ([] ∷ t) (suc j) h = some-kind t j h
some-kind ((k ∷ ks) ∷ t) j h = refl

module _ (c i : Bool) (mode : ℕ) where
  pub few-values : (j : ℕ) → values_at c i mode j ≤ 5
  few-values j =
      split (no_kinds (drop (suc j) (table_of c i mode)))
      (λ t. rw t (omega (arith, few-kinds c i mode j)))
      (λ t. rw t (omega (arith, few-kinds c i mode j)))

  -- One leads on, where a later level has a production.
  value_on : (j level : ℕ) {v : ℕ} → j < level → v < length (level_at c i mode level)
      → length (level_at c i mode j) < values_at c i mode j
  unfolding level_at
  value_on j level {v} l h =
      let t = table_of c i mode in
      let z : suc j + (level - suc j) ≡ level = omega arith in
      let e : get_or (drop (suc j) t) (level - suc j) [] ≡ get_or t level [] =
      subst (λ n. get_or (drop (suc j) t) (level - suc j) [] ≡ get_or t n []) z
      (get_or-drop (suc j) t (level - suc j) []) in
      let x : v < length (get_or (drop (suc j) t) (level - suc j) []) = rw e h in
      rw (some-kind (drop (suc j) t) (level - suc j) x) (omega arith)

  some-value : (level : ℕ) {v : ℕ} → v < length (level_at c i mode level) → 0 < values_at c i mode 0
  some-value level {v} h =
      split (eqb level 0)
      (λ t.
      let z : level ≡ 0 = eqb-true level 0 t in
      let x : v < length (level_at c i mode 0) = rw z at h in
      omega arith)
      (λ t.
      let z : 0 < level = omega (arith, eqb-false level 0 t) in
      omega (arith, value_on 0 level z h))

-- ---- the parts below the first

module _ (s : Settings) {stream : List ℕ} {at mode : ℕ} {p : Place} (h : LowerPre s stream at mode p)
  where
    abbrev values : ℕ → ℕ
    values j = values_at s.comments s.instructions mode j

    abbrev count : ℕ → ℕ
    count j = length (level_at s.comments s.instructions mode j)

    there : p.level < length (table_of s.comments s.instructions mode)
    there = level-there s.comments s.instructions mode p.level h.place.value

    module _ {n : ℕ} (e : n ≡ values 1) where
      -- The second part is the last.
      pub second-asks : p.level ≡ 1 → PutChoicePre stream at n p.value
      second-asks z =
          let v : p.value < count 1 = rw z at h.place.value in
          record {
            blank = h.blank;
            near = omega (arith, h.near);
            few = omega (arith, few-values s.comments s.instructions mode 1);
            one = omega arith;
          }

      pub second-put : p.level ≡ 1 → {after : List ℕ} {r : ℕ}
          → Put stream at (choice_bits s.alignment n p.value) after r
          → Put stream at (lower_bits s mode p) after r
      unfolding lower_bits
      second-put z q =
          let y : p.level - 1 ≡ 0 = omega arith in
          rw (
            y,
            bits-here s.alignment s.comments s.instructions mode 1 (omega (arith, there)) 0
                p.value,
            zero-add (values 1),
            zero-add p.value,
            ← e,
          ) q

      -- It leads on.
      module _ (ne : p.level ≡ 1 → ⊥) {on : ℕ} (f : on ≡ count 1) where
        third : p.level ≡ 2
        third = omega (arith, h.place.level, h.under, ne)

        pub on-asks : PutChoicePre stream at n on
        on-asks =
            record {
              blank = h.blank;
              near = omega (arith, h.near);
              few = omega (arith, few-values s.comments s.instructions mode 1);
              one = omega (
                arith,
                value_on s.comments s.instructions mode 1 p.level (omega (arith, third))
                    h.place.value,
              );
            }

        module _ {mid : List ℕ} {next : ℕ}
            (q : Put stream at (choice_bits s.alignment n on) mid next) {m : ℕ} (g : m ≡ values 2)
          where
            pub third-asks : PutChoicePre mid next m p.value
            third-asks =
                let v : p.value < count 2 = rw third at h.place.value in
                record {
                  blank = put-blank q;
                  near = omega (arith, h.near, q.next, choice-length s.alignment n on on-asks.few);
                  few = omega (arith, few-values s.comments s.instructions mode 2);
                  one = omega arith;
                }

            pub third-put : {after : List ℕ} {r : ℕ}
                → Put mid next (choice_bits s.alignment m p.value) after r
                → Put stream at (lower_bits s mode p) after r
            unfolding lower_bits
            third-put u =
                let y : p.level - 1 ≡ 1 = omega (arith, third) in
                rw (
                  y,
                  bits-on s.alignment s.comments s.instructions mode 1 (omega (arith, there)) 0
                      p.value 0,
                  bits-here s.alignment s.comments s.instructions mode 2
                      (omega (arith, there, third)) 0 p.value,
                  zero-add (values 1),
                  zero-add (count 1),
                  zero-add (values 2),
                  zero-add p.value,
                  ← e,
                  ← f,
                  ← g,
                ) (put_then q u)

-- ---- a production that is not learned

module _ (s : Settings) {stream : List ℕ} {at mode : ℕ} {p : Place} {count : ℕ}
    (h : FixedPre s stream at mode p count) where
  abbrev values₀ : ℕ
  values₀ = values_at s.comments s.instructions mode 0

  there₀ : 0 < length (table_of s.comments s.instructions mode)
  there₀ = omega (
    arith,
    level-there s.comments s.instructions mode p.level h.place.value,
  )

  module _ {n : ℕ} (e : n ≡ values₀) where
    pub first-few : n ≤ 5
    first-few = omega (arith, few-values s.comments s.instructions mode 0)

    pub first-asks : p.level ≡ 0 → PutChoicePre stream at (count + n) (count + p.value)
    first-asks z =
        let v : p.value < length (level_at s.comments s.instructions mode 0) =
        rw z at h.place.value in
        record {
          blank = h.blank;
          near = omega (arith, h.near);
          few = omega (arith, h.few, first-few);
          one = omega arith;
        }

    pub first-put : p.level ≡ 0 → {after : List ℕ} {r : ℕ}
        → Put stream at (choice_bits s.alignment (count + n) (count + p.value)) after r
        → Put stream at (placed_bits s mode p count) after r
    unfolding placed_bits
    first-put z q =
        rw (
          z,
          bits-here s.alignment s.comments s.instructions mode 0 there₀ count p.value,
          ← e,
        ) q

    module _ (ne : p.level ≡ 0 → ⊥) {on : ℕ}
        (f : on ≡ length (level_at s.comments s.instructions mode 0)) where
      pub more-asks : PutChoicePre stream at (count + n) (count + on)
      more-asks =
          record {
            blank = h.blank;
            near = omega (arith, h.near);
            few = omega (arith, h.few, first-few);
            one = omega (
              arith,
              value_on s.comments s.instructions mode 0 p.level (omega (arith, ne))
                  h.place.value,
            );
          }

      module _ {mid : List ℕ} {next : ℕ}
          (q : Put stream at (choice_bits s.alignment (count + n) (count + on)) mid next) where
        pub lower-asks : LowerPre s mid next mode p
        lower-asks =
            record {
              blank = put-blank q;
              near = omega (
                arith,
                h.near,
                q.next,
                choice-length s.alignment (count + n) (count + on) more-asks.few,
              );
              place = h.place;
              under = omega (arith, ne);
            }

        pub lower-put : {after : List ℕ} {r : ℕ} → Put mid next (lower_bits s mode p) after r
            → Put stream at (placed_bits s mode p count) after r
        unfolding placed_bits lower_bits
        lower-put {after} {r} u =
            let y : p.level ≡ suc (p.level - 1) = omega (arith, ne) in
            let t = table_of s.comments s.instructions mode in
            let b : fixed_bits s.alignment t count p.level p.value
            ≡ choice_bits s.alignment (count + n) (count + on)
            ++ fixed_bits s.alignment (drop 1 t) 0 (p.level - 1) p.value =
            ap (λ l. fixed_bits s.alignment t count l p.value) y
            ∙ bits-on s.alignment s.comments s.instructions mode 0 there₀ count p.value
            (p.level - 1)
            ∙ rw (e, f) in
            subst (λ w. Put stream at w after r) (sym b) (put_then q u)

-- ---- any

module _ (s : Settings) {stream : List ℕ} {at mode : ℕ} {p : Place} {code : Code}
    (h : CodePre s stream at mode p code) where
  pub fixed-asks : FixedPre s stream at mode p code.count
  fixed-asks = record { blank = h.blank; near = h.near; few = h.few; place = h.place }

  pub fixed-put : code.learned ≡ false → {after : List ℕ} {r : ℕ}
      → Put stream at (placed_bits s mode p code.count) after r
      → Put stream at (code_bits_as s mode p code) after r
  unfolding code_bits_as
  fixed-put z q = rw z q

  module _ {n : ℕ} (e : n ≡ values_at s.comments s.instructions mode 0) {v : ℕ}
      (f : v ≡ below (code.count + n) code.part) where
    pub learned-asks : PutChoicePre stream at (code.count + n) v
    learned-asks =
        record {
          blank = h.blank;
          near = omega (arith, h.near);
          few = omega (arith, h.few, first-few s fixed-asks e);
          one = rw f (omega (
            arith,
            below_less (code.count + n) code.part (omega (
              arith,
              some-value s.comments s.instructions mode p.level h.place.value,
            )),
          ));
        }

    pub learned-put : code.learned ≡ true → {after : List ℕ} {r : ℕ}
        → Put stream at (choice_bits s.alignment (code.count + n) v) after r
        → Put stream at (code_bits_as s mode p code) after r
    unfolding code_bits_as
    learned-put z q = rw (z, ← e, ← f) q
