use Rattle.std.proofs.Common.{ap, sym}
use Rattle.mw_c_forms.specs.declared.forms.Form.{Form}
use Rattle.mw_c_forms.specs.Forms.{form_picture}
use Rattle.mw_c_strips.proofs.applying_rows.composite_of.Goals as goal

pub returns-in-Less : goal.returns-in-Less
returns-in-Less c = λ f. ap (λ (s : Form). form_picture s f) (sym c.in-Less.is)
