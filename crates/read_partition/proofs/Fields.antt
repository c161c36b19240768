-- A field's refusal that is told as a string's.
use mathlib.Core.Path.{◌≡◌, refl, sym, ap, ◌∙◌}
use Prim.Native.Nat.{ℕ}
use native.Mathlib.Omega.{arith}
use Rattle.std.specs.Prelude.{Result, Ok, Err, MatchResult, IsErrAnd}
use Rattle.std.proofs.lemmas.Result.{err_from_is_err_and}
use Rattle.refusal.specs.declared.Refusal.{Refusal}
use Rattle.refusal.specs.Numbers.{number_in}
use Rattle.read_field.specs.declared.Field.{Field}
use Rattle.read_field.specs.View.{Seen, Value, Refused, view}
use Rattle.read_literal.specs.declared.Stopped.{Stopped}
use Rattle.read_partition.specs.View.{stopped_at}

module _ {m : Result Field Stopped} (Q : Refusal → Stopped → Type 0) where
  -- What was read.
  pub field-kept : (r : Result Field Refusal)
      → MatchResult r (λ x. m ≡ Ok x) (λ e. IsErrAnd m (Q e))
      → {f : Field} → m ≡ Ok f → {y : Seen} → view r ≡ y → Value f.value f.next ≡ y
  field-kept (Ok x) h {f} e v = let same : f ≡ x = cc in rw same v
  field-kept (Err k) h {f} e v =
      let (s, is, q) = err_from_is_err_and m h in
      let no : ◌≡◌ {A = ℕ} 0 1 = cc in absurd (omega arith)

  -- What was refused.
  pub field-told : (r : Result Field Refusal)
      → MatchResult r (λ x. m ≡ Ok x) (λ e. IsErrAnd m (Q e))
      → {s : Stopped} → m ≡ Err s → {y : Seen} → view r ≡ y → {next stored : ℕ}
      → ((k : Refusal) → Q k s → s ≡ stopped_at k next stored)
      → (k : Refusal) × (Refused (number_in k) ≡ y) × (s ≡ stopped_at k next stored)
  field-told (Ok x) h {s} e v t = let no : ◌≡◌ {A = ℕ} 0 1 = cc in absurd (omega arith)
  field-told (Err k) h {s} e v t =
      let (s', is, q) = err_from_is_err_and m h in
      let same : s' ≡ s = cc in (k, v, t k (rw same at q))

-- A refusal that is passed on.
pub passed-on : {T E : Type 0} {r : Result T E} {x : E} → IsErrAnd r (λ y. y ≡ x) → r ≡ Err x
passed-on {r = r} h = let (y, is, e) = err_from_is_err_and r h in is ∙ ap Err e
