use Rattle.std.proofs.Common.{◌≡◌, ℕ, IsTrue, refl, ap, sym, ◌∙◌, rules}
use Rattle.mw_model.specs.declared.shapes.Kind.TheVariants as kind
use Rattle.mw_tile.specs.mw_pixel.Images.{grey_of, set_of}
use Rattle.mw_tile_pieces.specs.Shared.{grey_joint}
use Rattle.mw_tile_pieces.proofs.Windows.{window_matches}
use Rattle.mw_tile_pieces.proofs.shared.SharedWindow.is_of_image.Goals as goal

pub returns-in-Bits-Bits : goal.returns-in-Bits-Bits
returns-in-Bits-Bits c =
    let arm = c.in-Bits-Bits in
    let place : c.place.result ≡ c.args.rect = search rules in
    window_matches kind.Bit 1 arm.a.now c.args.rect c.args.image.now (set_of arm.p.now) c.args.self.now (IsTrue c.are_of.result) arm.ensures.1 arm.ensures'.shows arm.ensures'.picture.size c.requires refl refl arm.ensures.0 (sym c.place.ensures ∙ place) c.are_of.ensures

pub returns-then-m-n : goal.returns-then-m-n
returns-then-m-n c =
    let arm = c.in-Grey8-Grey8 in
    let place : c.place.result ≡ c.args.rect = search rules in
    window_matches kind.Grey arm.n arm.a.now c.args.rect c.args.image.now (grey_of arm.p.now arm.n) c.args.self.now (IsTrue c.are_of-then-m-n.result) arm.ensures.1 arm.ensures'.shows.0 arm.ensures'.picture.size c.requires refl refl
    (arm.ensures.0 ∙ ap (λ (k : ℕ). grey_joint arm.a.now k) c.if-m-n.true) (sym c.place.ensures ∙ place) c.are_of-then-m-n.ensures

pub returns-then-m-n-2 : goal.returns-then-m-n-2
returns-then-m-n-2 c =
    let arm = c.in-Grey16-Grey16 in
    let place : c.place.result ≡ c.args.rect = search rules in
    window_matches kind.Grey arm.n arm.a.now c.args.rect c.args.image.now (grey_of arm.p.now arm.n) c.args.self.now (IsTrue c.are_of-then-m-n-2.result) arm.ensures.1 arm.ensures'.shows.0 arm.ensures'.picture.size c.requires refl refl
    (arm.ensures.0 ∙ ap (λ (k : ℕ). grey_joint arm.a.now k) c.if-m-n-2.true) (sym c.place.ensures ∙ place) c.are_of-then-m-n-2.ensures
