use Rattle.spec_exi.specs.Grammar.{kind_number}
use Rattle.spec_exi.specs.Event.{EE}
use Rattle.read_tags.proofs.Plain.{some-open}
use Rattle.read_first.proofs.Unnamed.{bare-growth, bare-judge, end_refused, end-grows, end_read}
use mathlib.Core.Path.{refl}
use Rattle.read_field.proofs.View.{refusal-some}
use Rattle.read_first.proofs.first_end.Goals as goal

pub growth-g-requires : goal.growth-g-requires
growth-g-requires c =
    let room = c.requires.work_cells_in_bounds in
    let tag = c.requires.tag_pre in
    bare-growth _ room tag.bounded

pub judge-requires : goal.judge-requires
unfolding kind_number
judge-requires c =
    let room = c.requires.work_cells_in_bounds in
    let tag = c.requires.tag_pre in
    let g = c.growth-g.ensures in
    bare-judge _ room tag.bounded (kind_number EE) g

pub returns-in-Err : goal.returns-in-Err
unfolding kind_number
returns-in-Err c =
    let tag = c.requires.tag_pre in
    let room = c.requires.work_cells_in_bounds in
    let fixed = c.requires.learned_value in
    rw (c.answer.ensures, c.number.ensures)
    (end_refused tag room fixed c.growth-g.ensures c.in-Err.ensures
    c.args.fragment (refusal-some c.in-Err.refusal))

pub store-requires : goal.store-requires
store-requires c =
    let tag = c.requires.tag_pre in
    tag.cells

pub grow-requires : goal.grow-requires
unfolding kind_number
grow-requires c =
    let tag = c.requires.tag_pre in
    let room = c.requires.work_cells_in_bounds in
    let fixed = c.requires.learned_value in
    let g = c.growth-g.ensures in
    let j = c.in_default.ensures in
    end-grows tag room fixed g j refl

pub next_tag-tag-requires : goal.next_tag-tag-requires
next_tag-tag-requires c =
    let tag = c.requires.tag_pre in
    tag.early

pub overflow_sub-c : goal.overflow_sub-c
overflow_sub-c c =
    let tag = c.requires.tag_pre in
    some-open tag

pub moved-requires : goal.moved-requires
moved-requires c =
    let tag = c.requires.tag_pre in
    tag.bounded

pub returns : goal.returns
unfolding kind_number
returns c =
    let tag = c.requires.tag_pre in
    let room = c.requires.work_cells_in_bounds in
    let fixed = c.requires.learned_value in
    let g = c.growth-g.ensures in
    let j = c.in_default.ensures in
    end_read tag room fixed g j c.args.fragment refl c.store.ensures c.grow.ensures
    c.mode_after-mode.ensures
    c.next_tag-tag.ensures c.moved.ensures
