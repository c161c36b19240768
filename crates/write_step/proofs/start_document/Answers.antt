use Rattle.write_step.proofs.start_document.Goals as goal

pub returns : goal.returns
returns c = c.start_document.ensures.steps _ _
