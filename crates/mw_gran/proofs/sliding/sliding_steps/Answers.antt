use Rattle.mw_gran.proofs.sliding.sliding_steps.Goals as goal

pub returns : goal.returns
returns c = record { erodes = c.in_ok-slide.ensures.acts; dilates = c.in_ok-slide_turned.ensures.acts }
