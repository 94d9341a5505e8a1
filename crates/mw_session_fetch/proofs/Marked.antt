-- Which texts set the mark of a refusal.
use Rattle.std.proofs.Common.{◌≡◌, ◌||◌, ℕ, Bool, List, Result, Ok, Err, refl, sym, ap, ◌∙◌}
use Rattle.mw_model.specs.declared.calls.Reply.{Reply}
use Rattle.mw_model.specs.declared.calls.Reply.TheVariants as reply
use Rattle.mw_model.specs.Replies.{handed_text, ImageBytes, CurveText}
use Rattle.mw_wire.specs.Writes.{told_text}
use Rattle.mw_session_fetch.specs.Errors.{Marks, is_error, is_error_line}

-- what is told is the line of a refusal exactly where it is a refusal
pub told_error : {E : Type 0} (told : Result Reply E) → is_error_line (told_text told) ≡ is_error told
told_error (Ok (reply.Accepted t)) = refl
told_error (Ok (reply.Refused c)) = refl
told_error (Ok (reply.Pending t)) = refl
told_error (Ok (reply.Done t s)) = refl
told_error (Ok (reply.Cancelled t)) = refl
told_error (Ok (reply.OutOfMemory t)) = refl
told_error (Ok (reply.BadInput t s)) = refl
told_error (Ok (reply.Released t)) = refl
told_error (Ok (reply.Shown t)) = refl
told_error (Err e) = refl

-- the mark that was set by what is told
pub told_marks : {E : Type 0} (told : Result Reply E) (old new : Bool) → new ≡ (is_error told || old) → Marks old (told_text told) new
told_marks told old new is = is ∙ ap (λ b. b || old) (sym (told_error told))

-- the mark stays where an image is handed out
pub image_marks : (t : ℕ) (bytes : List ℕ) (old : Bool) → Marks old (handed_text t (ImageBytes bytes)) old
image_marks t bytes old = refl

-- or a curve
pub curve_marks : (t : ℕ) (text : List ℕ) (old : Bool) → Marks old (handed_text t (CurveText text)) old
curve_marks t text old = refl
