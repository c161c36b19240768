-- The test for equal attributes (P3): the mark's is the definitions'.
use Prim.Native.Nat.{ℕ, ◌<◌}
use native.Mathlib.Omega.{arith}
use mathlib.Core.Path.{◌≡◌, sym, ap, ◌∙◌}
use mathlib.Core.Bool.{not}
use mathlib.Core.List.{List}
use lib.Dec.{eqb}
use borrow.Author.Tests.{eqb-true, eqb-false}
use Rattle.spec_fields.proofs.Tests.{split}
use Rattle.text.specs.Text.{Text}
use Rattle.spec_exi.specs.Event.{Event}
use Rattle.spec_exi.specs.Grammar.{kind_number, has_name, Tag, tag_allows}
use Rattle.spec_exi.proofs.Attributes.{tag-attribute, tag-other}
use Rattle.mem_layout.specs.Layout.{name_rows}
use Rattle.mem_rows.specs.Rows.{Rows, name_at, tag_in, is_among, context_of}
use Rattle.mem_rows.specs.Valid.{Valid}
use Rattle.mem_rows.proofs.Kept.{tag-kept}
use Rattle.mem_rows.proofs.Grammars.{has-attribute}
use Rattle.mem_state.specs.declared.Core.{Core}
use Rattle.mem_state.specs.declared.Strings.{Strings}
use Rattle.mem_state.specs.Holds.{Stores, Ahead, Represents}
use Rattle.mem_state.proofs.Taught.{ahead-kept}
use Rattle.event_code.specs.Numbers.{number_of_at}
use Rattle.grammar_update.specs.Growth.{allowed_in}
use Rattle.grammar_update.proofs.Events.{EventNamed, named-low, named-as}

-- The strings of the event are ahead of memory: its name may be a new row, which has no mark.
pub allows-is : {work : List ℕ} {from : Stores} {c : Core} {w v : Rows} {opened : List ℕ}
    {s : Strings} {kind : ℕ} {e : Event Text} → Represents work from c w opened → Ahead w v
    → Valid v → EventNamed v c.mode s kind e → s.name_row < name_rows → (store : Text)
    → tag_allows (context_of w store c.mode opened).tag e
    ≡ allowed_in work c.tag kind s.name_row
unfolding context_of allowed_in kind_number
allows-is {w = w} {v} {s = s} {kind} {e} rep ahead valid known low store =
    let row = s.name_row in
    let r = rep.valid.refers in
    split (eqb kind number_of_at)
    (λ t.
    let k : kind ≡ number_of_at = eqb-true kind number_of_at t in
    (tag-attribute (tag_in w) e (known.kind-is ∙ k) (name_at v row)
    (named-as known (omega arith) (omega arith))).1
    ∙ ap not (ap (λ (z : Tag). has_name z.attributes (name_at v row))
    (sym (tag-kept (ahead-kept ahead r) r ahead.attributes))
    ∙ has-attribute valid row (named-low known (omega arith) (omega arith))
    ∙ ap (is_among row) ahead.attributes ∙ sym (rep.marks.are row low))
    ∙ rw t)
    (λ t.
    (tag-other (tag_in w) e (λ z. eqb-false kind number_of_at t (sym known.kind-is ∙ z))).1 ∙ rw t)
