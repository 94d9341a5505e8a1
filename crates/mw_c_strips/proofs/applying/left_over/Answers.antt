use Rattle.std.proofs.Common.{ℕ, ◌*◌, ap, sym, ◌∙◌}
use Rattle.mw_c_arrays.specs.Sources.{picture_in}
use Rattle.mw_c_layers.specs.Layers.{layer_picture}
use Rattle.mw_c_strips.proofs.Filtered.{fills}
use Rattle.mw_c_strips.proofs.applying.left_over.Goals as goal

pub write_all-requires-in-Added-clause-size : goal.write_all-requires-in-Added-clause-size
write_all-requires-in-Added-clause-size g c =
    let f = picture_in c.args.f in
    let h = layer_picture c.args.layer in
    c.requires.room ∙ fills c.args.f c.requires.sound ∙ ap (λ (n : ℕ). n * f.width) (sym c.requires.alike.height) ∙ ap (λ (m : ℕ). h.height * m) (sym c.requires.alike.width)
