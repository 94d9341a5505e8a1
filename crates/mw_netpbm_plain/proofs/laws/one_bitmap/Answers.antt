use Rattle.mw_netpbm_plain.proofs.Bitmaps.{one_bitmap, one_bitmap_refusal, refusal_or_bitmap}
use Rattle.mw_netpbm_plain.proofs.laws.one_bitmap.Goals as goal

pub returns-clause-bitmap : goal.returns-clause-bitmap
returns-clause-bitmap c = λ bytes side f g lt a b. one_bitmap bytes side f g lt a b

pub returns-clause-refusal : goal.returns-clause-refusal
returns-clause-refusal c = λ bytes side d e lt p q. one_bitmap_refusal bytes side d e lt p q

pub returns-clause-either : goal.returns-clause-either
returns-clause-either c = λ bytes side d f lt r is. refusal_or_bitmap bytes side d f lt r is
