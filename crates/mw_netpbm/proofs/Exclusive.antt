-- Bytes have one refusal, and none where they are an image.
use Rattle.std.proofs.Common.{◌≡◌, ℕ, List}
use Rattle.mw_model.specs.Pictures.{Picture}
use Rattle.mw_model.specs.NetpbmGrammar.{IsFile}
use Rattle.mw_model.specs.NetpbmRefusals.{Refuses}
use Rattle.mw_model.specs.declared.codes.Code.{Code}
use Rattle.mw_netpbm_plain.specs.Faults.{code_of}
use Rattle.mw_netpbm.specs.Whole.{reading}
use Rattle.mw_netpbm.proofs.Files.{file_read}
use Rattle.mw_netpbm_plain.proofs.Outcomes.{one_code, code_or_value}
use Rattle.mw_netpbm.proofs.Refused.{file_refuses}

pub one_refusal : (bytes : List ℕ) (c d : Code) → Refuses bytes c → Refuses bytes d → c ≡ d
one_refusal bytes c d p q = one_code code_of (reading bytes) (Refuses bytes) (file_refuses bytes) c d p q

pub refusal_or_image : (bytes : List ℕ) (c : Code) (i : Picture) → Refuses bytes c → IsFile bytes i → ⊥
refusal_or_image bytes c i r is = code_or_value code_of (reading bytes) (Refuses bytes) (file_refuses bytes) c i r (file_read bytes i is)
