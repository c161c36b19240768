-- The settings that the numbers mean are the settings that the definitions give those numbers.
use Prim.Native.Nat.{suc, ◌+◌, ◌≤◌}
use native.Mathlib.Omega.{arith}
use mathlib.Core.Path.{◌≡◌, refl, sym}
use mathlib.Core.Bool.{Bool, true, false, ◌&&◌, true≢false}
use lib.Dec.{eqb, leb}
use borrow.Author.Tests.{leb-true}
use Rattle.spec_fields.proofs.Tests.{split}
use Rattle.read_field.specs.View.{alignment_of}
use Rattle.spec_exi.specs.Settings.{settings_of, meaningful}
use Rattle.spec_exi.specs.Sizes.{max_values}
use Rattle.settings.specs.Meant.{numbers_of, settings_meant, settings_from}
use Rattle.settings.specs.declared.SettingNumbers.{SettingNumbers}

pub settings-from : (s : SettingNumbers) → settings_from (settings_meant s) ≡ settings_of (numbers_of s)
unfolding settings_from settings_meant settings_of numbers_of alignment_of
settings-from s = split (eqb s.alignment 1) (λ e. rw e) (λ e. rw e)

-- ---- a capacity that has a meaning

record Both (a b : Bool) : Type 0 where
  one : a ≡ true
  other : b ≡ true

both : (a b : Bool) → (a && b) ≡ true → Both a b
both true b e = record { one = refl; other = e }
both false b e = absurd (true≢false (sym e))

-- It is within its size.
pub capacity-few : (s : SettingNumbers) → meaningful (numbers_of s) ≡ true
    → s.value_capacity ≤ max_values + 1
unfolding meaningful numbers_of
capacity-few s e =
    let flags : Bool =
    leb s.alignment 1 && leb s.cookie 1 && leb s.comments 1 && leb s.instructions 1
    && leb s.fragment 1 in
    let c₁ = both _ (eqb s.grammar_cap 0) e in
    let c₂ = both _ (eqb s.prefixes 0) c₁.one in
    let c₃ = both _ (eqb s.loose 0) c₂.one in
    let c₄ = both flags (leb s.value_capacity (suc max_values)) c₃.one in
    let l : s.value_capacity ≤ suc max_values =
    leb-true s.value_capacity (suc max_values) c₄.other in
    omega arith
