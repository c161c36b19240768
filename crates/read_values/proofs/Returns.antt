-- What the functions that read a value answer, return by return.
use Prim.Native.Nat.{ℕ, suc, ◌-◌, ◌≤◌, ◌<◌}
use native.Mathlib.Omega.{arith}
use mathlib.Core.Path.{◌≡◌, refl, sym, subst, ◌∙◌}
use mathlib.Core.List.{List, [], ◌∷◌}
use mathlib.Core.Option.{some}
use lib.ListN.{length, get_elem?}
use Rattle.spec_fields.specs.Refusal.{number_of, reference, loose}
use Rattle.spec_fields.specs.Field.{Alignment, number_field, width, unsigned}
use Rattle.text.specs.Text.{Text}
use Rattle.spec_exi.specs.Tables.{Slot, values_of, all_values, partitions_of}
use Rattle.mem_entries.proofs.Slots.{at_none}
use Rattle.mem_values.specs.declared.Value as table
use Rattle.mem_values.specs.Window.{Replaced, Newest}
use Rattle.mem_values.specs.Hold.{FoundLocal, CountedLocal, ValueAt}
use Rattle.mem_values.specs.Forms.{nth_of}
use Rattle.mem_rows.specs.Rows.{Rows, name_at, tables_of}
use Rattle.read_field.specs.View.{Seen, Value, Refused, field_at}
use Rattle.read_partition.specs.View.{StringRead}
use Rattle.read_partition.specs.Strings.{refused_as, found_as, Tabled, as_hit}
use Rattle.read_partition.proofs.Hits.{post-choice, post-missing, post-loose, post-chosen}
use Rattle.read_partition.proofs.Numbers.{Parted, post-number, post-number-hit, post-number-literal}
use Rattle.read_values.specs.Values.{HitPre, ValuePre, ValueRows, value_role, as_value, as_own}
use Rattle.read_values.specs.Values.{as_any}
use Rattle.read_values.specs.Values.{as_new, ValuePost}
use Rattle.read_values.proofs.Meaning.{own-count, any-count, own-missing, own-chosen}
use Rattle.read_values.proofs.Meaning.{any-loose, any-chosen, nth-some, nth-none}

abbrev own_list : ℕ → Rows → Text → List Slot
own_list owner w store = values_of (tables_of w store) (name_at w owner)

abbrev any_list : Rows → Text → List Slot
any_list w store = all_values (tables_of w store)

-- ---- among the name's own

counted : {work : List ℕ} {values longest capacity owner among : ℕ} → CountedLocal work owner among
    → {text : List ℕ} {stored : ℕ} (w : Rows)
    (store : Text) → Tabled text stored w store
    → ValueRows work text stored values longest capacity owner w
    → length (own_list owner w store) ≡ among
counted {values = values} c {text} {stored} w store t p =
    own-count t p ∙ sym (c.count text stored values w.values p.stand.holds)

module _ {a : Alignment} {stream : List ℕ} {at stored : ℕ} {work : List ℕ} {values owner : ℕ}
    (fit : HitPre stream at stored work values owner) {among : ℕ}
    (c : CountedLocal work owner among) {f : Seen}
    (answer : f ≡ field_at (number_field a (width among)) stream at) (text : List ℕ)
    {longest capacity : ℕ} where
  pub own-refused : {k : ℕ} → f ≡ Refused k
      → ValuePost a as_own stream at text stored work values longest capacity owner text (refused_as k at 0 stored)
  own-refused z = post-choice (value_role owner) 0 (own_list owner) text fit.place
      fit.store answer (counted c) z

  module _ {i q : ℕ} (z : f ≡ Value i q) {low : ℕ} (gone : Replaced values capacity low) {r : ℕ}
      (n : FoundLocal work owner i values low r) where
    pub own-absent : r ≡ 0
        → ValuePost a as_own stream at text stored work values longest capacity owner text
        (refused_as (number_of reference) at 0 stored)
    own-absent e =
        post-missing (value_role owner) 0 (own_list owner) text fit.place fit.store answer
        (counted c) z
        (λ w store t p x s. own-missing t p gone n e x s)

    pub own-found : {row : ℕ} → r ≡ suc row → {v : table.Value} → ValueAt work row v
        → ValuePost a as_own stream at text stored work values longest capacity owner text
        (found_as q v.place v.size row stored)
    own-found {row} e {v} h =
        post-chosen (value_role owner) 0 (own_list owner) text fit.place fit.store answer
        (counted c) z v.place v.size row
        (λ w store t p. own-chosen t p gone n e h)

-- ---- among all values

-- A row by its number and 1.
at_row : {work : List ℕ} {r row : ℕ} {v : table.Value} → r ≡ suc row → ValueAt work row v
    → ValueAt work (r - 1) v
at_row {work} {r} {row} {v} e h =
    let same : r - 1 ≡ row = omega (arith, e) in subst (λ n. ValueAt work n v) (sym same) h

module _ {a : Alignment} {stream : List ℕ} {at stored : ℕ} {work : List ℕ} {values owner : ℕ}
    (fit : HitPre stream at stored work values owner) {capacity low : ℕ}
    (gone : Replaced values capacity low) {f : Seen}
    (answer : f ≡ field_at (number_field a (width (values - low))) stream at) (text : List ℕ)
    {longest : ℕ} where
  pub any-refused : {k : ℕ} → f ≡ Refused k
      → ValuePost a as_any stream at text stored work values longest capacity owner text
      (refused_as k at 0 stored)
  any-refused z = post-choice (value_role owner) 1 any_list text fit.place fit.store answer
      (λ w store t p. any-count t p gone) z

  module _ {i q : ℕ} (z : f ≡ Value i q) {newer : ℕ} (new : Newest values capacity newer) {r : ℕ}
      (n : r ≡ nth_of values low newer i) where
    pub any-absent : r ≡ 0
        → ValuePost a as_any stream at text stored work values longest capacity owner text
        (refused_as (number_of reference) at 0 stored)
    any-absent e =
        post-missing (value_role owner) 1 any_list text fit.place fit.store answer
        (λ w store t p. any-count t p gone) z
        (λ w store t p x s.
        let y = at_none (any_list w store) i
        (omega (arith, any-count t p gone, nth-none values low newer i n e)) in
        let w : ◌≡◌ {A = ℕ} 0 1 = cc in omega arith)

    module _ {row : ℕ} (found : r ≡ suc row) {v : table.Value} (h : ValueAt work row v) where
      pub any-own : v.owner ≡ owner
          → ValuePost a as_any stream at text stored work values longest capacity owner text
          (refused_as (number_of loose) q 0 stored)
      any-own e =
          post-loose (value_role owner) 1 any_list text fit.place fit.store answer
          (λ w store t p. any-count t p gone) z
          (λ w store t p.
          any-loose t p gone new (nth-some values low newer i n (omega (arith, found)))
          (at_row found h) e)

      pub any_found : (v.owner ≡ owner → ⊥)
          → ValuePost a as_any stream at text stored work values longest capacity owner text
          (found_as q v.place v.size row stored)
      any_found e =
          post-chosen (value_role owner) 1 any_list text fit.place fit.store answer
          (λ w store t p. any-count t p gone) z
          v.place v.size row
          (λ w store t p.
          any-chosen t p gone new (nth-some values low newer i n (omega (arith, found)))
          (at_row found h) e)

-- ---- from the number on

parted : (owner : ℕ) → Parted (value_role owner)
    (λ w store. own_list owner w store ∷ any_list w store ∷ [])
unfolding partitions_of
parted owner = record { are = λ w store. refl }

module _ {a : Alignment} {stream : List ℕ} {at : ℕ} {text : List ℕ} {stored : ℕ} {work : List ℕ}
    {values owner : ℕ}
    (fit : ValuePre stream at text stored work values owner) {longest capacity : ℕ} {f : Seen}
    (answer : f ≡ field_at unsigned stream at) where
  pub value-refused : {k : ℕ} → f ≡ Refused k
      → ValuePost a as_value stream at text stored work values longest capacity owner text (refused_as k at 0 stored)
  value-refused z = post-number (parted owner) fit.literal.place answer
      fit.literal.few z

  module _ {v q : ℕ} (z : f ≡ Value v q) {text' : List ℕ} {r : StringRead} where
    value-hit : (j : ℕ) → v ≡ j → (es : Rows → Text → List Slot)
        → ((w : Rows) (store : Text)
        → get_elem? (own_list owner w store ∷ any_list w store ∷ []) j ≡ some (es w store))
        → ValuePost a (λ owner w store. as_hit (value_role owner w) j (es w store)) stream q text
        stored work values longest capacity owner text' r
        → ValuePost a as_value stream at text stored work values longest capacity owner text' r
    value-hit j e es o p =
        post-number-hit (parted owner) fit.literal.place answer (z ∙ same) es o p
      where
        same : Value v q ≡ Value j q
        same = cc

    pub value-own : v ≡ 0 → ValuePost a as_own stream q text stored work values longest capacity owner text' r
        → ValuePost a as_value stream at text stored work values longest capacity owner text' r
    value-own e p = value-hit 0 e (own_list owner) (λ w store. refl) p

    pub value-any : v ≡ 1 → ValuePost a as_any stream q text stored work values longest capacity owner text' r
        → ValuePost a as_value stream at text stored work values longest capacity owner text' r
    value-any e p = value-hit 1 e any_list (λ w store. refl) p

    pub value-new : (v ≡ 0 → ⊥) → (v ≡ 1 → ⊥)
        → ValuePost a (as_new (v - 2)) stream q text stored work values longest capacity owner text' r
        → ValuePost a as_value stream at text stored work values longest capacity owner text' r
    value-new e d p =
        post-number-literal (parted owner) fit.literal.place answer z 2 (λ w store. refl)
        (λ w store. at_none (own_list owner w store ∷ any_list w store ∷ []) v (omega arith)) p
