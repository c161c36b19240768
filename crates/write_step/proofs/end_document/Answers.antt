use Rattle.write_step.proofs.end_document.Goals as goal

pub returns : goal.returns
returns c = c.end_document.ensures.steps _ _
