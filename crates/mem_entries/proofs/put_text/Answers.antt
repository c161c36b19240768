use Rattle.mem_entries.specs.Texts.{with_text}
use mathlib.Core.Path.{refl}
use borrow.Author.Rules.{rules}
use Rattle.mem_entries.proofs.put_text.Goals as goal

-- `put_text` meets its contract.
pub returns : goal.returns
unfolding with_text
returns c = refl
