-- How a string may stand in a stream: every form that means it, with the bits that EXI gives the
-- form. That a form is the strict one is no part of this (Strings.antt has it as a condition of its
-- own).
use Prim.Native.Nat.{ℕ, suc, ◌+◌}
use mathlib.Core.Path.{◌≡◌}
use mathlib.Core.List.{List, [], ◌∷◌, ◌++◌}
use mathlib.Core.Option.{some}
use lib.ListN.{length, get_elem?}
use Rattle.spec_fields.specs.Bits.{Bits}
use Rattle.spec_fields.specs.Field.{choice_bits}
use Rattle.spec_fields.proofs.Number.{Unsigned}
use Rattle.text.specs.Text.{Text}
use Rattle.spec_exi.specs.Settings.{Settings}
use Rattle.spec_exi.specs.Tables.{Placed, Slot, Tables, Partitions, compact, literals, Form}
use Rattle.spec_exi.specs.Tables.{hit, literal, laid}

module _ (s : Settings) where
  -- The code points of a text, each as an Unsigned Integer (EXI 7.1.10).
  pub data Characters : Text → Bits → Type 0 where
    nothing : Characters [] []
    more : {p : ℕ} {x : Text} {u w : Bits} → Unsigned p u → Characters x w
        → Characters (p ∷ x) (u ++ w)

  -- A String (EXI 7.1.10), its length raised by k.
  pub data Literal (k : ℕ) : Text → Bits → Type 0 where
    a_literal : {x : Text} {u w : Bits} → Unsigned (length x + k) u → Characters x w
        → Literal k x (u ++ w)

  -- The form, and where the string then lies (EXI 7.3.2, 7.3.3).
  pub data Spelled (t : Tables) : Partitions → Form → Placed → Bits → Type 0 where
    compact_hit : {es : List Slot} {i : ℕ} {x : Placed} → get_elem? es i ≡ some (some x)
        → Spelled t (compact es) (hit 0 i) x (choice_bits s.alignment (suc (length es)) (suc i))
    compact_miss : {es : List Slot} {x : Text} {w : Bits} → Literal 0 x w
        → Spelled t (compact es) literal (laid t x)
        (choice_bits s.alignment (suc (length es)) 0 ++ w)
    literal_hit : {ess : List (List Slot)} {es : List Slot} {j i : ℕ} {x : Placed} {u : Bits}
        → get_elem? ess j ≡ some es → get_elem? es i ≡ some (some x) → Unsigned j u
        → Spelled t (literals ess) (hit j i) x (u ++ choice_bits s.alignment (length es) i)
    literal_miss : {ess : List (List Slot)} {x : Text} {w : Bits} → Literal (length ess) x w
        → Spelled t (literals ess) literal (laid t x) w
