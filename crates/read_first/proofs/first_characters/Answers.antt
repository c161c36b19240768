use mathlib.Core.Path.{refl, sym, ap}
use Rattle.spec_exi.specs.Event.{CH}
use Rattle.spec_exi.specs.Grammar.{kind_number}
use Rattle.settings.specs.Meant.{settings_from}
use Rattle.read_field.specs.View.{alignment_of}
use Rattle.mem_state.specs.declared.Growth.{Growth}
use Rattle.grammar_update.specs.Growth.{growth_of}
use Rattle.read_content.proofs.Contents.{kind-is}
use Rattle.read_content.proofs.Returns.{characters-asks, characters-refused, characters-read}
use Rattle.read_first.proofs.First.{content-pre, drop-asks, first_stops, judge-asks}
use Rattle.read_first.proofs.First.{first-refused, add-asks, first_read}
use Rattle.read_first.proofs.Unnamed.{bare-growth}
use native.Mathlib.Omega.{arith}
use Rattle.read_field.proofs.View.{refusal-some}
use Rattle.read_first.proofs.first_characters.Goals as goal

as-clauses : {A0 A1 : Type 0} → A0 × A1
    → record { stored_le_stored : A0; stored_in_bounds : A1 }
as-clauses p = record {
  stored_le_stored = p.0;
  stored_in_bounds = p.1;
}

pub read_value-read-requires : goal.read_value-read-requires
read_value-read-requires c =
    let pre = c.requires.step_pre in
    let first = c.requires.first_pre in
    characters-asks (content-pre pre first)

pub dropped-requires : goal.dropped-requires
unfolding settings_from alignment_of
dropped-requires c =
    let pre = c.requires.step_pre in
    let first = c.requires.first_pre in
    let kind = kind-is CH first.kind in
    let some = refusal-some c.in-Err.y.refusal in
    let stops = characters-refused (content-pre pre first) c.in-Err.ensures.value_post
    c.in-Err.ensures.joins_within kind first.kind some in as-clauses (drop-asks pre first (stops))

pub returns-in-Err : goal.returns-in-Err
unfolding settings_from alignment_of
returns-in-Err c =
    let pre = c.requires.step_pre in
    let first = c.requires.first_pre in
    let kind = kind-is CH first.kind in
    let some = refusal-some c.in-Err.y.refusal in
    let stops = characters-refused (content-pre pre first) c.in-Err.ensures.value_post
    c.in-Err.ensures.joins_within kind first.kind some in
    first_stops pre first (stops) some c.dropped.ensures

pub growth-g-requires : goal.growth-g-requires
growth-g-requires c =
    let pre = c.requires.step_pre in
    bare-growth _ pre.rows pre.bounded

pub judge-requires : goal.judge-requires
unfolding growth_of kind_number settings_from alignment_of
judge-requires c =
    let pre = c.requires.step_pre in
    let first = c.requires.first_pre in
    let kind = kind-is CH first.kind in
    let reads = characters-read (content-pre pre first) c.in-Ok.ensures.value_post
    c.in-Ok.ensures.joins_within kind first.kind refl in
    let g = c.growth-g.ensures in
    judge-asks pre first (reads) refl (sym g)

pub dropped-requires-in-Err-judge : goal.dropped-requires-in-Err-judge
unfolding settings_from alignment_of
dropped-requires-in-Err-judge c =
    let pre = c.requires.step_pre in
    let first = c.requires.first_pre in
    let kind = kind-is CH first.kind in
    let reads = characters-read (content-pre pre first) c.in-Ok.ensures.value_post
    c.in-Ok.ensures.joins_within kind first.kind refl in as-clauses (drop-asks pre first (reads))

pub returns-in-Err-judge : goal.returns-in-Err-judge
unfolding growth_of kind_number settings_from alignment_of
returns-in-Err-judge c =
    let pre = c.requires.step_pre in
    let first = c.requires.first_pre in
    let kind = kind-is CH first.kind in
    let reads = characters-read (content-pre pre first) c.in-Ok.ensures.value_post
    c.in-Ok.ensures.joins_within kind first.kind refl in
    let g = c.growth-g.ensures in
    first-refused pre first (reads) refl (sym g) c.in-Err-judge.ensures
    (refusal-some c.in-Err-judge.refusal) c.dropped-in-Err-judge.ensures

pub add_characters-requires : goal.add_characters-requires
unfolding growth_of kind_number settings_from alignment_of
add_characters-requires c =
    let g = c.growth-g.ensures in
    let pre = c.requires.step_pre in
    let first = c.requires.first_pre in
    let kind = kind-is CH first.kind in
    let reads = characters-read (content-pre pre first) c.in-Ok.ensures.value_post
    c.in-Ok.ensures.joins_within kind first.kind refl in
    record {
      kind_value = ap (λ (h : Growth). h.kind) g;
      add_pre = add-asks pre first (reads) refl (sym g) c.in_default.ensures refl;
    }

pub returns : goal.returns
unfolding growth_of kind_number settings_from alignment_of
returns c =
    let pre = c.requires.step_pre in
    let first = c.requires.first_pre in
    let kind = kind-is CH first.kind in
    let reads = characters-read (content-pre pre first) c.in-Ok.ensures.value_post
    c.in-Ok.ensures.joins_within kind first.kind refl in
    let g = c.growth-g.ensures in
    first_read pre first (reads) refl (sym g) c.in_default.ensures refl (c.add_characters.ensures _)
