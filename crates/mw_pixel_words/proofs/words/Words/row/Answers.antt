use Rattle.std.proofs.Common.{◌≡◌, ◌+◌, ◌*◌, ℕ, get_or, ◌-◌, ap, sym, ◌∙◌, arith}
use Rattle.mw_model.specs.Rasters.{Raster}
use Rattle.mw_pixel_words.specs.Packed.{samples_of}
use Rattle.mw_pixel_words.proofs.Bits.{row_sample, row_clean}
use Rattle.mw_pixel_words.proofs.words.Words.row.Goals as goal

pub returns-clause-samples : goal.returns-clause-samples
returns-clause-samples c = λ x lt.
    let stride = c.stride-stride.result in
    let inside = c.self.inside in
    let y = c.args.y in
    let width-is : inside.width ≡ c.args.self.now.width = ap (λ (v : Raster ℕ). v.width) c.self.view_is in
    let height-is : inside.height ≡ c.args.self.now.height = ap (λ (v : Raster ℕ). v.height) c.self.view_is in
    let cells-is : samples_of inside.width inside.height inside.words.items ≡ c.args.self.now.cells = ap (λ (v : Raster ℕ). v.cells) c.self.view_is in
    row_sample inside.width inside.height stride (y * stride + stride - y * stride) c.deref.result.now c.args.self.now.cells y x c.stride-stride.ensures.value (omega arith)
    (sym cells-is ∙ ap (samples_of inside.width inside.height) (sym c.deref.ensures.value)) (omega arith) (omega arith)
    ∙ ap (λ (t : ℕ). get_or c.args.self.now.cells (y * t + x) 0) width-is

pub returns-clause-clean : goal.returns-clause-clean
returns-clause-clean c = λ x past.
    let stride = c.stride-stride.result in
    let inside = c.self.inside in
    let y = c.args.y in
    let width-is : inside.width ≡ c.args.self.now.width = ap (λ (v : Raster ℕ). v.width) c.self.view_is in
    let height-is : inside.height ≡ c.args.self.now.height = ap (λ (v : Raster ℕ). v.height) c.self.view_is in
    row_clean inside.width inside.height stride (y * stride + stride - y * stride) c.deref.result.now y x c.stride-stride.ensures.value (omega arith) (rw c.deref.ensures.value c.self.invariant) (omega arith) (omega arith)
