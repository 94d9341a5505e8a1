use Rattle.mw_element.proofs.Exclusive.{one_element, one_refusal, refusal_or_element}
use Rattle.mw_element.proofs.laws.one_element.Goals as goal

pub returns-clause-element : goal.returns-clause-element
returns-clause-element c = λ bytes ox oy first second a b. one_element bytes ox oy first second a b

pub returns-clause-refusal : goal.returns-clause-refusal
returns-clause-refusal c = λ bytes ox oy x y a b. one_refusal bytes ox oy x y a b

pub returns-clause-either : goal.returns-clause-either
returns-clause-either c = λ bytes ox oy x figure r is. refusal_or_element bytes ox oy x figure r is
