-- The texts of replies (own).
use Rattle.std.specs.Prelude.{ℕ, List, [], ◌∷◌, ◌++◌, length, decimal, codes}
use Rattle.mw_model.specs.declared.codes.Code.{Code}
use Rattle.mw_model.specs.declared.shapes.Kind.{Kind}
use Rattle.mw_model.specs.declared.shapes.Kind.TheVariants.{Bit, Grey}
use Rattle.mw_model.specs.declared.shapes.Shape.{Shape}
use Rattle.mw_model.specs.declared.shapes.Shape.TheVariants as shape
use Rattle.mw_model.specs.declared.calls.Reply.{Reply}
use Rattle.mw_model.specs.declared.calls.Reply.TheVariants as reply
use Rattle.mw_model.specs.Codes.{number_and_word}

-- the bytes that a FETCH hands out: nothing, a written image or the text of a curve
pub data Handed : Type 0 where
  NoValue : Handed
  ImageBytes : List ℕ → Handed
  CurveText : List ℕ → Handed

-- a blank and a number
abbrev pub and_number : ℕ → List ℕ
and_number n = 32 ∷ decimal n

-- a word, a ticket and what is told of it, ended by LF
abbrev pub ticket_line : List ℕ → ℕ → List ℕ → List ℕ
ticket_line word t more = word ++ and_number t ++ more ++ 10 ∷ []

-- how a kind is told
abbrev pub kind_text : Kind → List ℕ
kind_text Bit = codes " BIT"
kind_text Grey = codes " GREY"

-- what is told of a done entry
abbrev pub shape_text : Shape → List ℕ
shape_text (shape.Image kind width height maxval) = kind_text kind ++ and_number width ++ and_number height ++ and_number maxval
shape_text (shape.Element width height) = codes " ELEMENT" ++ and_number width ++ and_number height
shape_text (shape.Curve count) = codes " CURVE" ++ and_number count

-- the line of a refusal
abbrev pub refusal_text : Code → List ℕ
refusal_text c = codes "ERR" ++ and_number (number_and_word c).0 ++ 32 ∷ (number_and_word c).1 ++ 10 ∷ []

-- how many bytes follow, and the bytes
abbrev pub handed_text : ℕ → Handed → List ℕ
handed_text t NoValue = []
handed_text t (ImageBytes bytes) = ticket_line (codes "IMAGE") t (and_number (length bytes)) ++ bytes
handed_text t (CurveText bytes) = ticket_line (codes "CURVE") t (and_number (length bytes)) ++ bytes

-- what is written of a reply, and of the value that it hands out
abbrev pub reply_text : Reply → Handed → List ℕ
reply_text (reply.Accepted t) value = ticket_line (codes "OK") t []
reply_text (reply.Refused c) value = refusal_text c
reply_text (reply.Pending t) value = ticket_line (codes "PENDING") t []
reply_text (reply.Done t shape) value = ticket_line (codes "DONE") t (shape_text shape)
reply_text (reply.Cancelled t) value = ticket_line (codes "CANCELLED") t []
reply_text (reply.OutOfMemory t) value = ticket_line (codes "FAILED") t (codes " MEMORY")
reply_text (reply.BadInput t s) value = ticket_line (codes "FAILED") t (codes " INPUT" ++ and_number s)
reply_text (reply.Released t) value = ticket_line (codes "RELEASED") t []
reply_text (reply.Shown t) value = handed_text t value
