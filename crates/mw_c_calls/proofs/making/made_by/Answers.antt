use Rattle.std.proofs.Common.{ap}
use Rattle.mw_model.specs.Pictures.{Picture}
use Rattle.mw_model.specs.Values.{shape_of_picture}
use Rattle.mw_c_arrays.specs.Sources.{picture_in}
use Rattle.mw_c_direct.specs.declared.applying.Made.{Made}
use Rattle.mw_c_calls.proofs.Asked.{asked_told}
use Rattle.mw_c_calls.proofs.making.made_by.Goals as goal

pub returns-clause-told : goal.returns-clause-told
returns-clause-told c =
    asked_told Made Made c.args.op.now (shape_of_picture c.in-Ok.image) (picture_in c.args.f) _ c.args.b.now c.in-Err.fault c.code.result
    c.requires.one (ap (λ (p : Picture). shape_of_picture p) c.in-Ok.ensures) c.in-Ok-element.ensures c.code.ensures c.in-Err.ensures.refused
