use Rattle.std.proofs.Common.{◌∙◌, length, ap, sym, arith}
use Rattle.mw_model.specs.Pictures.{Picture}
use Rattle.mw_c_arrays.specs.Arrays.{set_picture}
use Rattle.mw_c_arrays.proofs.SourceImages.{set_fills}
use Rattle.mw_c_geodesic.proofs.Shapes.{large_size}
use Rattle.mw_c_geodesic.proofs.area.large_far.Goals as goal

pub put_bytes-requires-clause-size : goal.put_bytes-requires-clause-size
put_bytes-requires-clause-size c =
    ap (λ (t : Picture). length t.samples) c.in_ok-made.ensures
    ∙ large_size c.args.least c.args.around.now (set_picture c.args.f)
    ∙ sym (set_fills c.args.f c.requires.image)
    ∙ sym c.requires.room

pub put_bytes-requires-clause-small : goal.put_bytes-requires-clause-small
put_bytes-requires-clause-small c = omega (arith, ap (λ (t : Picture). t.maxval) c.in_ok-made.ensures)

pub returns-clause-made : goal.returns-clause-made
returns-clause-made c = c.put_bytes.ensures ∙ ap (λ (t : Picture). t.samples) c.in_ok-made.ensures
