use Rattle.std.specs.Arc.{arc_value}
use Rattle.mw_c_arrays.specs.Sources.{picture_in}
use Rattle.mw_c_calls.proofs.Meant.{hits_made}
use Rattle.mw_c_calls.proofs.making.hits_of.Goals as goal

pub returns-in-Ok-Image-clause-value : goal.returns-in-Ok-Image-clause-value
returns-in-Ok-Image-clause-value c =
    let value = rw c.in-Ok-Image.field-0-is at c.in-Ok-Image.ensures.value in
    hits_made c.args.hit.now c.args.miss.now c.in-Ok.image (picture_in c.args.f) c.in-Ok-Image.hits (arc_value c.in-Ok-element.hit) (arc_value c.in-Ok-element-2.miss)
    c.in-Ok.ensures c.in-Ok-element.ensures c.in-Ok-element-2.ensures value
