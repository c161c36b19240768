-- Strings by no table: their roles, and what refuses them.
use native.Mathlib.Omega.{arith}
use mathlib.Core.Path.{◌≡◌, refl}
use mathlib.Core.Bool.{true, false}
use mathlib.Core.List.{[]}
use Rattle.spec_fields.specs.Refusal.{number_of, character, name}
use Rattle.spec_fields.proofs.Tests.{split}
use Rattle.text.specs.Text.{Text}
use Rattle.spec_exi.specs.Tables.{Placed, Values, Tables, Role}
use Rattle.spec_exi.specs.Tables.{literals, partitions_of, new_uri, new_name, new_value, name_allowed}
use Rattle.spec_exi.specs.Tables.{text_allowed}
use Rattle.name_rules.specs.declared.Role as declared
use Rattle.name_rules.specs.declared.Role.TheVariants.{Target, Comment, Instruction}
use Rattle.name_rules.specs.Texts.{role_in, fault_of}

-- ---- the roles

-- A string of this role is by no table, and joins none.
pub record Alone (role : Role) : Type 0 where
  pub parts : (t : Tables) → partitions_of t role ≡ literals []
  pub uris : (x : Placed) → new_uri role x ≡ []
  pub names : (x : Placed) → new_name role x ≡ []
  pub values : (v : Values) (x : Placed) → new_value v role x ≡ []

pub alone-in : (r : declared.Role) → Alone (role_in r)
unfolding role_in partitions_of new_uri new_name new_value
alone-in Target = record { parts = λ _. refl; uris = λ _. refl; names = λ _. refl; values = λ _ _. refl }
alone-in Comment = record { parts = λ _. refl; uris = λ _. refl; names = λ _. refl; values = λ _ _. refl }
alone-in Instruction = record { parts = λ _. refl; uris = λ _. refl; names = λ _. refl; values = λ _ _. refl }

-- ---- what refuses them

module _ (r : Role) (x : Text) where
  pub fault-none : text_allowed r x ≡ true → name_allowed r x ≡ true → fault_of r x ≡ 0
  unfolding fault_of
  fault-none a b = rw (a, b)

  pub fault-text : text_allowed r x ≡ false → fault_of r x ≡ number_of character
  unfolding fault_of
  fault-text a = rw a

  pub fault-name : text_allowed r x ≡ true → name_allowed r x ≡ false → fault_of r x ≡ number_of name
  unfolding fault_of
  fault-name a b = rw (a, b)

  -- Without a fault it has passed both tests.
  pub record Passed : Type 0 where
    pub text : text_allowed r x ≡ true
    pub name : name_allowed r x ≡ true

  pub fault-passed : fault_of r x ≡ 0 → Passed
  unfolding number_of
  fault-passed z =
      split (text_allowed r x)
      (λ a. split (name_allowed r x)
      (λ b. record { text = a; name = b })
      (λ b. absurd (omega (arith, fault-name a b))))
      (λ a. absurd (omega (arith, fault-text a)))
