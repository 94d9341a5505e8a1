use Rattle.std.proofs.Common.{subst, sym}
use Rattle.mw_model.specs.Pictures.{IsImage, Picture}
use Rattle.mw_c_strips.proofs.Refilled.{pixels_like}
use Rattle.mw_c_strips.proofs.samples.U8Sample.like.Goals as goal

pub returns-in-Pixels-clause-sound : goal.returns-in-Pixels-clause-sound
returns-in-Pixels-clause-sound c = subst (λ (p : Picture). IsImage p) (sym (pixels_like c.args.f c.in-Pixels.f c.args.samples.now c.in-Pixels.is c.requires.image)) c.requires.image

pub returns-in-Pixels-clause-image : goal.returns-in-Pixels-clause-image
returns-in-Pixels-clause-image c = pixels_like c.args.f c.in-Pixels.f c.args.samples.now c.in-Pixels.is c.requires.image
