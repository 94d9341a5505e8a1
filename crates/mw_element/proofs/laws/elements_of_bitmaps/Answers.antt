use Rattle.mw_element.proofs.OfBitmaps.{element_to_bitmap, element_from_bitmap, refusal_to_bitmap, refusal_from_bitmap}
use Rattle.mw_element.proofs.laws.elements_of_bitmaps.Goals as goal

pub returns-clause-elements : goal.returns-clause-elements
returns-clause-elements c = λ bytes f ox oy figure is. (λ e. element_to_bitmap bytes f ox oy figure is e, λ e. element_from_bitmap bytes f ox oy figure is e)

pub returns-clause-refusals : goal.returns-clause-refusals
returns-clause-refusals c = λ bytes f ox oy x is. (λ r. refusal_to_bitmap bytes f ox oy x is r, λ r. refusal_from_bitmap bytes f ox oy x is r)
