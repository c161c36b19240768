-- Strings by no table (EXI 7.1.10; scope, "String tables"): a target, a comment and an
-- instruction's text.
use Rattle.std.specs.Prelude.{ℕ, cond, Result, Ok, Err}
use Rattle.spec_fields.specs.Refusal.{number_of, character, name}
use Rattle.refusal.specs.declared.Refusal.{Refusal}
use Rattle.refusal.specs.Numbers.{number_in}
use Rattle.text.specs.Text.{Text}
use Rattle.spec_exi.specs.Tables.{Role, target, comment_text, instruction_text, name_allowed}
use Rattle.spec_exi.specs.Tables.{text_allowed}
use Rattle.name_rules.specs.declared.Role as declared
use Rattle.name_rules.specs.declared.Role.TheVariants.{Target, Comment, Instruction}

-- Their roles.
unfoldable pub role_in : declared.Role → Role
role_in Target = target
role_in Comment = comment_text
role_in Instruction = instruction_text

-- What refuses one whose code points are Chars, or 0: CHARACTER, then NAME (scope, "Refusal
-- numbers", "Order"; P6).
unfoldable pub fault_of : Role → Text → ℕ
fault_of r x =
    cond (text_allowed r x) (cond (name_allowed r x) 0 (number_of name)) (number_of character)

-- The number of a judgement: that of its refusal, or 0.
unfoldable pub fault_in : Result (Unit {0}) Refusal → ℕ
fault_in (Ok x) = 0
fault_in (Err k) = number_in k
