use Rattle.std.proofs.Common.{◌≡◌, map, subst, sym}
use Rattle.std.specs.Prelude.{IfOk}
use Rattle.mw_c_arrays.specs.Sources.{picture_in}
use Rattle.mw_c_forms.specs.declared.forms.Form.{Form}
use Rattle.mw_c_forms.specs.Forms.{form_picture}
use Rattle.mw_c_strips.proofs.applying.write_form.Goals as goal

pub returns-in-Residue-clause-made : goal.returns-in-Residue-clause-made
returns-in-Residue-clause-made g c =
    subst (λ (s : Form). IfOk c.residue.result (λ _. map g.P.Pixel.level c.residue.new.out ≡ (form_picture s (picture_in c.args.f)).samples)) (sym c.in-Residue.is) c.residue.ensures.made

pub returns-in-Less-clause-made : goal.returns-in-Less-clause-made
returns-in-Less-clause-made g c =
    subst (λ (s : Form). IfOk c.difference.result (λ _. map g.P.Pixel.level c.difference.new.out ≡ (form_picture s (picture_in c.args.f)).samples)) (sym c.in-Less.is) c.difference.ensures.made
