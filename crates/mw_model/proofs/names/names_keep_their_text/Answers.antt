use Rattle.mw_model.proofs.Spellings.{spelling_of, name_of_injective}
use Rattle.mw_model.proofs.names.names_keep_their_text.Goals as goal

pub returns-clause-spelled : goal.returns-clause-spelled
returns-clause-spelled c = λ text h. spelling_of text h

pub returns-clause-apart : goal.returns-clause-apart
returns-clause-apart c = λ a b h k e. name_of_injective a b h k e
