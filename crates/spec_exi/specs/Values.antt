-- A value that is added, in EXI 7.3.3's words (P5): Tables.antt has the value partitions by the
-- list of all values that were ever added, and this is what adding one more comes to.
use Rattle.std.specs.Prelude.{◌≡◌, ◌∷◌, ◌++◌}
use Rattle.spec_fields.specs.Prelude.{ℕ, suc, false, cond, List, [], Option, none}
use Rattle.spec_fields.specs.Prelude.{some, length, take, drop, get_or, eqb, T}
use Rattle.text.specs.Text.{Text}
use Rattle.spec_exi.specs.Event.{QName, eq_name}
use Rattle.spec_exi.specs.Tables.{Entry, Tables, Slot, partition, global_id, values_of}
use Rattle.spec_exi.specs.Tables.{all_values, value, joins, laid, added}

-- EXI's exi_global_id: the compact identifier of the next value in the global partition (EXI 7.3.1).
abbrev pub exi_global_id : Tables → ℕ
exi_global_id t = global_id t.values.capacity (length t.values.added)

-- "Incremented by one (1). If the resulting value of exi_global_id is equal to valuePartitionCapacity,
-- its value is reset to zero (0)" (EXI 7.3.3).
abbrev pub next_id : Option ℕ → ℕ → ℕ
next_id none i = suc i
next_id (some c) i = cond (eqb (suc i) c) 0 (suc i)

-- What a compact identifier stands for.
abbrev pub slot_at : List Slot → ℕ → Slot
slot_at es i = get_or es i none

-- The partition with another slot at i; all others stay. Behind the last one it is one more.
abbrev pub put_at : ℕ → Slot → List Slot → List Slot
put_at i s es = take i es ++ (s ∷ drop (suc i) es)

-- How many of these are values of a name: the compact identifier of its next one, as none is given
-- twice.
abbrev pub given : QName Text → List (Entry (QName Text)) → ℕ
given p es = length (partition (eq_name p) es)

module _ (t : Tables) (q : QName Text) (x : Text) where
  -- S is "added to the associated local value partition using the next available compact
  -- identifier": one more slot, of its own name alone.
  abbrev pub with_own : QName Text → List Slot → List Slot
  with_own p es = es ++ cond (eq_name p q) (some (laid t x) ∷ []) []

  -- The local partitions: no value has exi_global_id, and all their numbers stay; or V has it, and its
  -- local number, and no other, is unassigned.
  pub data Removes : Type 0 where
    nothing : slot_at (all_values t) (exi_global_id t) ≡ none
        → ((p : QName Text) → values_of (added t (value q) x) p ≡ with_own p (values_of t p)) → Removes
    removes : (before after : List (Entry (QName Text))) (v : Entry (QName Text))
        → t.values.added ≡ before ++ (v ∷ after)
        → slot_at (all_values t) (exi_global_id t) ≡ some v.string
        → slot_at (values_of t v.key) (given v.key before) ≡ some v.string
        → ((p : QName Text) → values_of (added t (value q) x) p
        ≡ with_own p (cond (eq_name p v.key) (put_at (given p before) none (values_of t p))
        (values_of t p))) → Removes

  -- What adding S comes to (EXI 7.3.3).
  pub record AddsValue : Type 0 where
    -- S is "added to the global value partition using the compact identifier exi_global_id", and
    -- "replaces the string V", if one has it
    pub global : all_values (added t (value q) x)
        ≡ put_at (exi_global_id t) (some (laid t x)) (all_values t)
    pub next : exi_global_id (added t (value q) x) ≡ next_id t.values.capacity (exi_global_id t)
    -- V is "removed from its associated local value partition by rendering its compact identifier
    -- permanently unassigned"
    pub local : Removes

-- "If valuePartitionCapacity is not zero, and L is greater than zero and no more than
-- valueMaxLength": else all partitions stay.
pub record ValueRules : Type 0 where
  pub adds : (t : Tables) (q : QName Text) (x : Text) → T (joins t.values x)
      → AddsValue t q x
  pub stays : (t : Tables) (q : QName Text) (x : Text) → joins t.values x ≡ false
      → (added t (value q) x).values ≡ t.values
