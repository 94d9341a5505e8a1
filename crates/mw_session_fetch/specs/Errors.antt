-- Which texts are the line of a refusal, and a mark that tells whether one was written (own).
use Rattle.std.specs.Prelude.{◌≡◌, ◌||◌, ℕ, Bool, true, false, List, take, codes, bytes_eq, Result, Ok, Err}
use Rattle.mw_model.specs.declared.calls.Reply.{Reply}
use Rattle.mw_model.specs.declared.calls.Reply.TheVariants as reply

-- the text begins as the line of a refusal does
abbrev pub is_error_line : List ℕ → Bool
is_error_line text = bytes_eq (take 4 text) (codes "ERR ")

-- the mark was set where the text begins so, and else stayed as it was
abbrev pub Marks : Bool → List ℕ → Bool → Type 0
Marks old text new = new ≡ (is_error_line text || old)

-- what is told is a refusal, or that the call found no memory
abbrev pub is_error : {E : Type 0} → Result Reply E → Bool
is_error (Ok (reply.Refused c)) = true
is_error (Ok r) = false
is_error (Err e) = true
