-- Lists with one entry more, and the entries of a key among them.
use Prim.Native.Nat.{ℕ, suc, ◌≤◌, ◌<◌}
use native.Mathlib.Omega.{arith}
use mathlib.Core.Path.{◌≡◌, ap}
use mathlib.Core.List.{List, [], ◌∷◌, ◌++◌}
use lib.ListN.{length, length-append}
use lib.Dec.{eqb}
use borrow.Author.Tests.{eqb-true, eqb-false}
use Rattle.spec_fields.proofs.Tests.{split}
use Rattle.spec_exi.specs.Tables.{Entry}
use Rattle.mem_entries.specs.Entries.{entry_at}
use Rattle.mem_entries.proofs.Entries.{entry_old, entry_new}
use Rattle.mem_rows.specs.Valid.{KeysBelow}

-- A number below the length of a list with one more is below the old length, or is that length.
pub last_or : {A : Type 0} {P : ℕ → Type 0} (l : List A) (x : A) → ((i : ℕ) → i < length l → P i)
    → P (length l) → (i : ℕ) → i < length (l ++ (x ∷ [])) → P i
last_or {P = P} l x old new i h =
    split (eqb i (length l))
    (λ e. let z : i ≡ length l = eqb-true i (length l) e in rw z new)
    (λ e. old i (omega (arith, eqb-false i (length l) e, length-append l (x ∷ []), h)))

module _ (es : List (Entry ℕ)) (e : Entry ℕ) where
  pub keys-more : {most : ℕ} → KeysBelow most es → e.key < most → KeysBelow most (es ++ (e ∷ []))
  keys-more {most} k h =
      record {
        below = last_or {P = λ i. (entry_at (es ++ (e ∷ [])) i).key < most} es e
            (λ i l. let z = ap (λ (x : Entry ℕ). x.key) (entry_old es e i l) in omega (arith, z, k.below i l))
            (let z = ap (λ (x : Entry ℕ). x.key) (entry_new es e) in omega (arith, z, h));
      }

pub keys-head : {most : ℕ} {e : Entry ℕ} {es : List (Entry ℕ)} → KeysBelow most (e ∷ es) → e.key < most
unfolding entry_at
keys-head k = k.below 0 (omega arith)

pub keys-tail : {most : ℕ} {e : Entry ℕ} {es : List (Entry ℕ)} → KeysBelow most (e ∷ es) → KeysBelow most es
unfolding entry_at
keys-tail k = record { below = λ i h. k.below (suc i) (omega arith) }

pub keys-up : {most more : ℕ} {es : List (Entry ℕ)} → most ≤ more → KeysBelow most es → KeysBelow more es
keys-up l k = record { below = λ i h. omega (arith, k.below i h, l) }
