use Rattle.std.proofs.Common.{◌≡◌, ℕ, ◌+◌, ◌*◌, List, length, get_or, ap, sym, ◌∙◌, arith}
use Rattle.mw_model.specs.Rasters.{Raster}
use Rattle.mw_offset.specs.mw_pixel_words.Packed.{stride_of}
use Rattle.mw_bits.proofs.held.row_of.Goals as goal

pub row-requires : goal.row-requires
row-requires c =
    let high = ap (λ (r : Raster ℕ). r.height) c.words-words.ensures.value ∙ c.plane.ensures.height in
    let lt = c.requires in
    omega arith

pub returns-clause-length : goal.returns-clause-length
returns-clause-length c = c.row.ensures.length ∙ ap stride_of (ap (λ (r : Raster ℕ). r.width) c.words-words.ensures.value ∙ c.plane.ensures.width)

pub returns-clause-samples : goal.returns-clause-samples
returns-clause-samples c = λ x lt.
    let held = c.words-words.result.now in
    let set = c.args.set.now in
    let y = c.args.y in
    let wide : held.width ≡ set.place.width = ap (λ (r : Raster ℕ). r.width) c.words-words.ensures.value ∙ c.plane.ensures.width in
    let cells : held.cells ≡ set.cells = ap (λ (r : Raster ℕ). r.cells) c.words-words.ensures.value ∙ c.plane.ensures.cells in
    c.row.ensures.samples x (omega arith)
    ∙ ap (λ (t : List ℕ). get_or t (y * held.width + x) 0) cells
    ∙ ap (λ (w : ℕ). get_or set.cells (y * w + x) 0) wide

pub returns-clause-clean : goal.returns-clause-clean
returns-clause-clean c = λ x past.
    let wide = ap (λ (r : Raster ℕ). r.width) c.words-words.ensures.value ∙ c.plane.ensures.width in
    c.row.ensures.clean x (omega arith)

pub returns-clause-size : goal.returns-clause-size
returns-clause-size c =
    let held = c.words-words.result.now in
    let place = c.args.set.now.place in
    let wide : held.width ≡ place.width = ap (λ (r : Raster ℕ). r.width) c.words-words.ensures.value ∙ c.plane.ensures.width in
    let high : held.height ≡ place.height = ap (λ (r : Raster ℕ). r.height) c.words-words.ensures.value ∙ c.plane.ensures.height in
    sym (ap (λ (r : Raster ℕ). length r.cells) c.words-words.ensures.value ∙ ap length c.plane.ensures.cells)
    ∙ c.width-width.ensures.size
    ∙ ap (λ (h : ℕ). h * held.width) high
    ∙ ap (λ (w : ℕ). place.height * w) wide
