use native.Mathlib.Omega.{arith}
use Rattle.text.specs.Text.{text}
use Rattle.spec_exi.specs.Tables.{xml_uri, xsi_uri}
use Rattle.mem_initial.specs.Initial.{initial_uris, initial_names, together, uris_text}
use Rattle.mem_initial.specs.Initial.{names_text, initial_text}
use Rattle.mem_initial.proofs.Turn.{none-copied, one-copied, all-copied}
use Rattle.mem_initial.proofs.lay_text.Goals as goal

-- `lay_text` meets its contract. Its table is the definition's text, by computation.
pub loop-i-init : goal.loop-i-init
loop-i-init c = none-copied _ _ c.requires

pub loop-i-preserved : goal.loop-i-preserved
unfolding initial_text uris_text names_text together initial_uris initial_names xml_uri xsi_uri text
loop-i-preserved c =
    one-copied _ _ c.loop-i.invariant (omega arith) c.from.ensures

pub returns : goal.returns
returns c = all-copied _ _ c.loop-i.invariant (omega arith)
