use Rattle.std.proofs.Common.{ap, sym}
use Rattle.mw_c_arrays.specs.Sources.{picture_in}
use Rattle.mw_c_forms.specs.declared.forms.Form.{Form}
use Rattle.mw_c_forms.specs.Forms.{form_picture}
use Rattle.mw_c_strips.proofs.applying_rows.formula_of.Goals as goal

pub returns-in-Less-clause-picture : goal.returns-in-Less-clause-picture
returns-in-Less-clause-picture c = ap (λ (s : Form). form_picture s (picture_in c.args.f)) (sym c.in-Less.is)
