use Rattle.std.proofs.Common.{◌≡◌, ℕ, ◌*◌, List, map, refl, ap, arith, ◌∙◌}
use Rattle.std.proofs.lemmas.List.{length-map}
use Rattle.mw_model.specs.declared.offsets.Rect.{Rect}
use Rattle.mw_offset.specs.mw_pixel_words.Packed.{stride_of}
use Rattle.mw_bits_rows.proofs.Packs.{samples_packed}
use Rattle.mw_bits.proofs.NarrowRows.{narrow_cell, narrow_done}
use Rattle.mw_bits.proofs.compared.compare_narrow_rows.Goals as goal

pub returns-then-width-eq0-clause-samples : goal.returns-then-width-eq0-clause-samples
returns-then-width-eq0-clause-samples g c =
    let window = c.args.window.now in
    let f : g.row.P.Denot → ℕ = λ (s : g.row.P.Denot). g.T.LevelTest.is_in c.args.k (g.P.Pixel.level s) in
    let cells = map f window.cells in
    let w = window.place.width in
    let h = window.place.height in
    let width-is = ap (λ (t : Rect). t.width) c.place-width.ensures.value in
    samples_packed w h h cells c.args.out.now c.args.out.now (length-map window.cells f ∙ c.samples-samples.ensures.size) (omega arith)
    (narrow_done w h cells c.args.out.now c.args.out.now c.requires.narrow c.requires.room refl
    (λ q lt.
    let none : stride_of w ≡ 0 = omega (arith, width-is) in
    absurd (omega (arith, c.requires.room, ap (λ (t : ℕ). h * t) none))))

pub returns-then-samples-lt64-clause-samples : goal.returns-then-samples-lt64-clause-samples
returns-then-samples-lt64-clause-samples g c =
    let window = c.args.window.now in
    let f : g.row.P.Denot → ℕ = λ (s : g.row.P.Denot). g.T.LevelTest.is_in c.args.k (g.P.Pixel.level s) in
    let cells = map f window.cells in
    let w = window.place.width in
    let h = window.place.height in
    let width-is = ap (λ (t : Rect). t.width) c.place-width.ensures.value in
    samples_packed w h h cells c.args.out.now c.compare_few.new.out (length-map window.cells f ∙ c.samples-samples.ensures.size) (omega arith)
    (narrow_done w h cells c.args.out.now c.compare_few.new.out c.requires.narrow c.requires.room c.compare_few.auto.out
    (λ q lt.
    c.compare_few.ensures q lt
    ∙ ap (λ (t : List g.row.P.Denot). narrow_cell (map f t) c.place-width.result.width q) c.samples-samples.ensures.value
    ∙ ap (λ (t : ℕ). narrow_cell cells t q) width-is))

pub returns-else-samples-lt64-clause-samples : goal.returns-else-samples-lt64-clause-samples
returns-else-samples-lt64-clause-samples g c =
    let window = c.args.window.now in
    let f : g.row.P.Denot → ℕ = λ (s : g.row.P.Denot). g.T.LevelTest.is_in c.args.k (g.P.Pixel.level s) in
    let cells = map f window.cells in
    let w = window.place.width in
    let h = window.place.height in
    let width-is = ap (λ (t : Rect). t.width) c.place-width.ensures.value in
    samples_packed w h h cells c.args.out.now c.compare_narrow.new.out (length-map window.cells f ∙ c.samples-samples.ensures.size) (omega arith)
    (narrow_done w h cells c.args.out.now c.compare_narrow.new.out c.requires.narrow c.requires.room c.compare_narrow.auto.out
    (λ q lt.
    c.compare_narrow.ensures q lt
    ∙ ap (λ (t : List g.row.P.Denot). narrow_cell (map f t) c.place-width.result.width q) c.samples-samples.ensures.value
    ∙ ap (λ (t : ℕ). narrow_cell cells t q) width-is))
