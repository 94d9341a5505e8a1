use Rattle.std.proofs.Common.{◌≡◌, ◌*◌, sym, subst, arith, length, ◌∙◌, rules}
use Rattle.std.specs.Prelude.{IfOk}
use Rattle.std.proofs.lemmas.Result.{IfOk-weaker}
use Rattle.mw_model.specs.declared.shapes.Kind.TheVariants as kind
use Rattle.mw_model.specs.Pictures.{Picture, picture}
use Rattle.mw_c_arrays.specs.Arrays.{grey16_picture, grey8_picture, set_in_bytes, set_picture}
use Rattle.mw_c_arrays.specs.declared.sources.ArrayImage.TheVariants as source
use Rattle.mw_c_arrays.specs.Sources.{IsArrayImage, picture_in}
use Rattle.mw_c_arrays.proofs.SourceImages.{source_image, source_samples}
use Rattle.mw_c_layers.specs.Parts.{IsStrip, part_of}
use Rattle.mw_c_lent.proofs.Rows.{strip_within}
use Rattle.mw_c_layers.proofs.RowCells.{grey_rows, set_rows}
use Rattle.mw_c_layers.proofs.rows.rows.Goals as goal

pub in_strip-requires : goal.in_strip-requires
in_strip-requires c =
    let f = c.in-Grey8.f in
    let is = subst IsArrayImage c.in-Grey8.is c.requires.sound in
    let strip = subst (λ (s : _). IsStrip c.args.strip (picture_in s)) c.in-Grey8.is c.requires.strip in
    omega (arith, strip_within c.args.strip (grey8_picture f) strip, is.image.picture.size)

pub in_strip-requires-in-Grey16 : goal.in_strip-requires-in-Grey16
in_strip-requires-in-Grey16 c =
    let f = c.in-Grey16.f in
    let is = subst IsArrayImage c.in-Grey16.is c.requires.sound in
    let strip = subst (λ (s : _). IsStrip c.args.strip (picture_in s)) c.in-Grey16.is c.requires.strip in
    omega (arith, strip_within c.args.strip (grey16_picture f) strip, is.image.picture.size)

pub in_strip-pixels-requires : goal.in_strip-pixels-requires
in_strip-pixels-requires c =
    let f = c.in-Pixels.f in
    let strip = subst (λ (s : _). IsStrip c.args.strip (picture_in s)) c.in-Pixels.is c.requires.strip in
    let size : length f.pixels.now ≡ f.height * f.width = sym (source_samples (source.Pixels f)) ∙ (source_image (source.Pixels f) (subst IsArrayImage c.in-Pixels.is c.requires.sound)).picture.size in
    omega (arith, strip_within c.args.strip (set_picture f) strip, size)

pub returns-in_ok-new-in-Grey8 : goal.returns-in_ok-new-in-Grey8
returns-in_ok-new-in-Grey8 c =
    let f = c.in-Grey8.f in
    let is = subst IsArrayImage c.in-Grey8.is c.requires.sound in
    let strip = subst (λ (s : _). IsStrip c.args.strip (picture_in s)) c.in-Grey8.is c.requires.strip in
    let items = c.in_ok-samples-in-Grey8.samples.items in
    let part : picture kind.Grey c.args.strip.width c.args.strip.height f.maxval items ≡ part_of (grey8_picture f) c.args.strip
    = grey_rows (grey8_picture f) c.args.strip items strip is.image.picture.size (c.in_ok-samples-in-Grey8.ensures.items ∙ c.in_strip.ensures.value) in
    subst (λ (s : _). c.grey8.result ≡ part_of (picture_in s) c.args.strip) (sym c.in-Grey8.is) (search (rules, part))

pub returns-in_ok-new-in-Grey16 : goal.returns-in_ok-new-in-Grey16
returns-in_ok-new-in-Grey16 c =
    let f = c.in-Grey16.f in
    let is = subst IsArrayImage c.in-Grey16.is c.requires.sound in
    let strip = subst (λ (s : _). IsStrip c.args.strip (picture_in s)) c.in-Grey16.is c.requires.strip in
    let items = c.in_ok-samples-in-Grey16.samples.items in
    let part : picture kind.Grey c.args.strip.width c.args.strip.height f.maxval items ≡ part_of (grey16_picture f) c.args.strip
    = grey_rows (grey16_picture f) c.args.strip items strip is.image.picture.size (c.in_ok-samples-in-Grey16.ensures.items ∙ c.in_strip-in-Grey16.ensures.value) in
    subst (λ (s : _). c.grey16.result ≡ part_of (picture_in s) c.args.strip) (sym c.in-Grey16.is) (search (rules, part))

pub returns-in-Pixels : goal.returns-in-Pixels
returns-in-Pixels c =
    let f = c.in-Pixels.f in
    let strip = subst (λ (s : _). IsStrip c.args.strip (picture_in s)) c.in-Pixels.is c.requires.strip in
    let size : length f.pixels.now ≡ f.height * f.width = sym (source_samples (source.Pixels f)) ∙ (source_image (source.Pixels f) (subst IsArrayImage c.in-Pixels.is c.requires.sound)).picture.size in
    let cells = c.in_strip-pixels.result.now in
    let part : set_in_bytes c.args.strip.width c.args.strip.height cells ≡ part_of (set_picture f) c.args.strip
    = set_rows f.width f.height f.pixels.now cells c.args.strip strip size c.in_strip-pixels.ensures.value in
    subst (λ (s : _). IfOk c.image.result (λ g. g ≡ part_of (picture_in s) c.args.strip)) (sym c.in-Pixels.is)
    (IfOk-weaker c.image.result (λ (g : Picture). g ≡ set_in_bytes c.args.strip.width c.args.strip.height cells) (λ (g : Picture). g ≡ part_of (set_picture f) c.args.strip) (λ g e. e ∙ part) c.image.ensures)
