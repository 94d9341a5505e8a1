use Rattle.std.proofs.Common.{◌≡◌, ◌≤◌, ◌∙◌, ℕ, ap, rules, sym, subst}
use Rattle.std.specs.Prelude.{All}
use Rattle.std.specs.Arc.{arc_value}
use Rattle.mw_model.specs.declared.shapes.Kind.TheVariants as kind
use Rattle.mw_model.specs.Pictures.{picture}
use Rattle.mw_model.specs.Rasters.{Raster}
use Rattle.mw_pixel.specs.Images.{grey_of}
use Rattle.mw_geodesic.specs.Neighbours.{neighbours_of}
use Rattle.mw_geodesic_levels.specs.Pictures.{picture_by}
use Rattle.mw_c_arrays.specs.Arrays.{grey16_picture}
use Rattle.mw_c_geodesic.specs.Methods.{rebuilt_by}
use Rattle.mw_c_geodesic.proofs.RebuiltImages.{array_plane, cells_within, level_itself, method_picture, rebuilt_of_planes}
use Rattle.mw_c_geodesic.proofs.rebuilding.rebuilt_words.Goals as goal

pub rebuilt_planes-requires-clause-marker : goal.rebuilt_planes-requires-clause-marker
rebuilt_planes-requires-clause-marker c =
    let marker = c.args.marker in
    let is = array_plane c.args.mask.maxval marker.width marker.height c.new-below.result c.in_ok-marker_samples.marker_samples.items marker.samples.now c.new-below.ensures c.in_ok-marker_samples.ensures.items in
    cells_within c.args.mask.maxval c.new-below.result (grey16_picture marker) (is ∙ ap (λ (n : ℕ). picture kind.Grey marker.width marker.height n marker.samples.now) (sym c.requires.shape.maxval)) c.requires.marker.image.picture

pub rebuilt_planes-requires-clause-mask : goal.rebuilt_planes-requires-clause-mask
rebuilt_planes-requires-clause-mask c =
    let mask = c.args.mask in
    cells_within mask.maxval c.new-within.result (grey16_picture mask) (array_plane mask.maxval mask.width mask.height c.new-within.result c.in_ok-mask_samples.mask_samples.items mask.samples.now c.new-within.ensures c.in_ok-mask_samples.ensures.items) c.requires.mask.image.picture

pub grey16-requires-clause-within : goal.grey16-requires-clause-within
grey16-requires-clause-within c =
    let mask = c.args.mask in
    let marker = c.args.marker in
    let m = mask.maxval in
    let mask_is = array_plane m mask.width mask.height c.new-within.result c.in_ok-mask_samples.mask_samples.items mask.samples.now c.new-within.ensures c.in_ok-mask_samples.ensures.items in
    let marker_is : picture_by (λ s. s) m c.new-below.result ≡ grey16_picture marker =
    array_plane m marker.width marker.height c.new-below.result c.in_ok-marker_samples.marker_samples.items marker.samples.now c.new-below.ensures c.in_ok-marker_samples.ensures.items
    ∙ ap (λ (n : ℕ). picture kind.Grey marker.width marker.height n marker.samples.now) (sym c.requires.shape.maxval) in
    let is = rebuilt_of_planes c.args.method (neighbours_of c.args.neighbours) (grey16_picture mask) (grey16_picture marker) m c.new-within.result c.new-below.result c.in_ok-made.made mask_is marker_is c.in_ok-made.ensures in
    let held : arc_value c.in_ok-new.field-0 ≡ c.in_ok-made.made = search rules in
    subst (λ (t : Raster ℕ). All (λ s. s ≤ m) t.cells) (sym held)
    (cells_within m c.in_ok-made.made (rebuilt_by c.args.method (neighbours_of c.args.neighbours) (grey16_picture mask) (grey16_picture marker)) is
    (method_picture c.args.method (neighbours_of c.args.neighbours) (grey16_picture mask) (grey16_picture marker) c.requires.marker.image.picture c.requires.mask.image.picture c.requires.shape))

pub returns : goal.returns
returns c =
    let mask = c.args.mask in
    let marker = c.args.marker in
    let m = mask.maxval in
    let mask_is = array_plane m mask.width mask.height c.new-within.result c.in_ok-mask_samples.mask_samples.items mask.samples.now c.new-within.ensures c.in_ok-mask_samples.ensures.items in
    let marker_is : picture_by (λ s. s) m c.new-below.result ≡ grey16_picture marker =
    array_plane m marker.width marker.height c.new-below.result c.in_ok-marker_samples.marker_samples.items marker.samples.now c.new-below.ensures c.in_ok-marker_samples.ensures.items
    ∙ ap (λ (n : ℕ). picture kind.Grey marker.width marker.height n marker.samples.now) (sym c.requires.shape.maxval) in
    let is = rebuilt_of_planes c.args.method (neighbours_of c.args.neighbours) (grey16_picture mask) (grey16_picture marker) m c.new-within.result c.new-below.result c.in_ok-made.made mask_is marker_is c.in_ok-made.ensures in
    let held : arc_value c.in_ok-new.field-0 ≡ c.in_ok-made.made = search rules in
    c.grey16.ensures ∙ ap (λ (t : Raster ℕ). grey_of t m) held ∙ sym (level_itself c.in_ok-made.made m) ∙ is
