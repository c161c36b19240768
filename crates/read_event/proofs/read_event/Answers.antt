use mathlib.Core.Path.{refl, ◌∙◌}
use Rattle.settings.specs.Meant.{settings_from}
use Rattle.read_field.proofs.View.{refusal-some}
use Rattle.read_event.proofs.Returns.{judge-asks, judge-stops, event-read}
use Rattle.read_event.proofs.Returns.{content-asks, clear_room, stored_grows, content-stops}
use Rattle.read_event.proofs.read_event.Goals as goal

pub read_content-requires : goal.read_content-requires
unfolding settings_from
read_content-requires c =
    let pre = c.requires in
    record {
      content_pre = content-asks pre.event_pre pre.code_read.post pre.code_read.good;
      learned_value = pre.learned_value;
    }

pub overflow_sub-laid : goal.overflow_sub-laid
unfolding settings_from
overflow_sub-laid c =
    let pre = c.requires in
    stored_grows pre.event_pre pre.code_read.post pre.code_read.good c.in-Err.ensures

pub clear_cells-requires : goal.clear_cells-requires
unfolding settings_from
clear_cells-requires c =
    let pre = c.requires in
    clear_room pre.event_pre pre.code_read.post pre.code_read.good c.in-Err.ensures

pub returns-in-Err : goal.returns-in-Err
unfolding settings_from
returns-in-Err c =
    let pre = c.requires in
    content-stops pre.event_pre pre.code_read.post pre.code_read.good c.in-Err.ensures
    (refusal-some c.in-Err.y.refusal) c.clear_cells.ensures

pub judge-judged-requires : goal.judge-judged-requires
unfolding settings_from
judge-judged-requires c =
    let pre = c.requires in
    record {
      growth_pre =
          judge-asks pre.event_pre pre.code_read.post pre.code_read.good c.in-Ok.ensures refl;
      learned_value = pre.learned_value;
    }

pub overflow_sub-laid-in-Err-judged : goal.overflow_sub-laid-in-Err-judged
unfolding settings_from
overflow_sub-laid-in-Err-judged c =
    let pre = c.requires in
    stored_grows pre.event_pre pre.code_read.post pre.code_read.good c.in-Ok.ensures

pub clear_cells-requires-in-Err-judged : goal.clear_cells-requires-in-Err-judged
unfolding settings_from
clear_cells-requires-in-Err-judged c =
    let pre = c.requires in
    clear_room pre.event_pre pre.code_read.post pre.code_read.good c.in-Ok.ensures

pub shape_of-text-in-Err-judged : goal.shape_of-text-in-Err-judged
shape_of-text-in-Err-judged c = c.text-in-Err-judged-1.given ∙ c.text-1.given

pub returns-in-Err-judged : goal.returns-in-Err-judged
unfolding settings_from
returns-in-Err-judged c =
    let pre = c.requires in
    judge-stops pre.event_pre pre.code_read.post pre.code_read.good c.in-Ok.ensures refl
    c.in-Err-judged.ensures (refusal-some c.in-Err-judged.refusal) c.clear_cells-in-Err-judged.ensures

pub returns : goal.returns
unfolding settings_from
returns c =
    let pre = c.requires in
    event-read pre.event_pre pre.code_read.post pre.code_read.good c.in-Ok.ensures refl
    c.in-Ok-judged.ensures refl
