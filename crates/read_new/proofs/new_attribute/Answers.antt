use mathlib.Core.Path.{refl, sym, ap}
use Rattle.spec_exi.specs.Event.{AT}
use Rattle.spec_exi.specs.Grammar.{kind_number}
use Rattle.settings.specs.Meant.{settings_from}
use Rattle.mem_state.specs.declared.Growth.{Growth}
use Rattle.read_field.specs.View.{alignment_of}
use Rattle.read_field.proofs.View.{refusal-some}
use Rattle.grammar_update.specs.Growth.{growth_of}
use Rattle.read_qname.proofs.Returns.{as-pair}
use Rattle.read_content.proofs.Contents.{kind-is}
use Rattle.read_content.proofs.Returns.{attribute-refused, attribute-asks, attribute-stops, attribute-read}
use Rattle.read_event.proofs.Steps.{numbered}
use Rattle.read_first.proofs.First.{content-pre, drop-asks, first_stops, judge-asks}
use Rattle.read_first.proofs.First.{first-refused, add-asks, first_read}
use Rattle.read_new.proofs.new_attribute.Goals as goal

as-clauses : {A0 A1 : Type 0} → A0 × A1
    → record { stored_le_stored : A0; stored_in_bounds : A1 }
as-clauses p = record { stored_le_stored = p.0; stored_in_bounds = p.1 }

pub read_name-requires : goal.read_name-requires
read_name-requires c = (content-pre c.requires.step_pre c.requires.first_pre).pair

pub dropped-requires : goal.dropped-requires
unfolding settings_from alignment_of
dropped-requires c =
    let pre = c.requires.step_pre in
    let first = c.requires.first_pre in
    as-clauses (drop-asks pre first
    (attribute-refused (content-pre pre first) (as-pair first.fixed c.in-Err.ensures)
    (kind-is AT first.kind) (refusal-some c.in-Err.y.refusal)))

pub returns-in-Err : goal.returns-in-Err
unfolding settings_from alignment_of
returns-in-Err c =
    let pre = c.requires.step_pre in
    let first = c.requires.first_pre in
    let some = refusal-some c.in-Err.y.refusal in
    λ n early. first_stops (numbered pre early) first
    (attribute-refused (content-pre pre first) (as-pair first.fixed c.in-Err.ensures)
    (kind-is AT first.kind) some) some c.dropped.ensures

pub read_value-valued-requires : goal.read_value-valued-requires
read_value-valued-requires c =
    let pre = c.requires.step_pre in
    let first = c.requires.first_pre in
    attribute-asks (content-pre pre first) (as-pair first.fixed c.in-Ok.ensures)
    (kind-is AT first.kind) refl

pub dropped-requires-in-Err-valued : goal.dropped-requires-in-Err-valued
unfolding settings_from alignment_of
dropped-requires-in-Err-valued c =
    let pre = c.requires.step_pre in
    let first = c.requires.first_pre in
    as-clauses (drop-asks pre first
    (attribute-stops (content-pre pre first) (as-pair first.fixed c.in-Ok.ensures)
    (kind-is AT first.kind) refl c.in-Err-valued.ensures.value_post c.in-Err-valued.ensures.joins_within
    (refusal-some c.in-Err-valued.y.refusal)))

pub returns-in-Err-valued : goal.returns-in-Err-valued
unfolding settings_from alignment_of
returns-in-Err-valued c =
    let pre = c.requires.step_pre in
    let first = c.requires.first_pre in
    let some = refusal-some c.in-Err-valued.y.refusal in
    λ n early. first_stops (numbered pre early) first
    (attribute-stops (content-pre pre first) (as-pair first.fixed c.in-Ok.ensures)
    (kind-is AT first.kind) refl c.in-Err-valued.ensures.value_post c.in-Err-valued.ensures.joins_within some)
    some c.dropped-in-Err-valued.ensures

pub growth-g-requires : goal.growth-g-requires
growth-g-requires c =
    let pre = c.requires.step_pre in
    let first = c.requires.first_pre in
    let reads = attribute-read (content-pre pre first) (as-pair first.fixed c.in-Ok.ensures)
    (kind-is AT first.kind) refl c.in-Ok-valued.ensures.value_post c.in-Ok-valued.ensures.joins_within
    refl in
    record {
      room = pre.rows;
      name = (reads.bounds refl).name;
      top = pre.bounded.top;
      few = pre.bounded.learned;
    }

pub judge-requires : goal.judge-requires
unfolding growth_of kind_number settings_from alignment_of
judge-requires c =
    let pre = c.requires.step_pre in
    let first = c.requires.first_pre in
    let reads = attribute-read (content-pre pre first) (as-pair first.fixed c.in-Ok.ensures)
    (kind-is AT first.kind) refl c.in-Ok-valued.ensures.value_post c.in-Ok-valued.ensures.joins_within
    refl in
    judge-asks pre first reads refl (sym c.growth-g.ensures)

pub dropped-requires-in-Err-judge : goal.dropped-requires-in-Err-judge
unfolding settings_from alignment_of
dropped-requires-in-Err-judge c =
    let pre = c.requires.step_pre in
    let first = c.requires.first_pre in
    as-clauses (drop-asks pre first
    (attribute-read (content-pre pre first) (as-pair first.fixed c.in-Ok.ensures)
    (kind-is AT first.kind) refl c.in-Ok-valued.ensures.value_post c.in-Ok-valued.ensures.joins_within refl))

pub returns-in-Err-judge : goal.returns-in-Err-judge
unfolding growth_of kind_number settings_from alignment_of
returns-in-Err-judge c =
    let pre = c.requires.step_pre in
    let first = c.requires.first_pre in
    let reads = attribute-read (content-pre pre first) (as-pair first.fixed c.in-Ok.ensures)
    (kind-is AT first.kind) refl c.in-Ok-valued.ensures.value_post c.in-Ok-valued.ensures.joins_within
    refl in
    λ n early. first-refused (numbered pre early) first reads refl (sym c.growth-g.ensures)
    c.in-Err-judge.ensures (refusal-some c.in-Err-judge.refusal) c.dropped-in-Err-judge.ensures

pub add_attribute-requires : goal.add_attribute-requires
unfolding growth_of kind_number settings_from alignment_of
add_attribute-requires c =
    let pre = c.requires.step_pre in
    let first = c.requires.first_pre in
    let g = c.growth-g.ensures in
    let reads = attribute-read (content-pre pre first) (as-pair first.fixed c.in-Ok.ensures)
    (kind-is AT first.kind) refl c.in-Ok-valued.ensures.value_post c.in-Ok-valued.ensures.joins_within
    refl in
    record {
      kind_value = ap (λ (h : Growth). h.kind) g;
      add_pre = add-asks pre first reads refl (sym g) c.in_default.ensures refl;
    }

pub returns : goal.returns
unfolding growth_of kind_number settings_from alignment_of
returns c =
    let pre = c.requires.step_pre in
    let first = c.requires.first_pre in
    let reads = attribute-read (content-pre pre first) (as-pair first.fixed c.in-Ok.ensures)
    (kind-is AT first.kind) refl c.in-Ok-valued.ensures.value_post c.in-Ok-valued.ensures.joins_within
    refl in
    λ n early. first_read (numbered pre early) first reads refl (sym c.growth-g.ensures)
    c.in_default.ensures refl (c.add_attribute.ensures n early _)
