-- The line that tells which request ended a session, and why (own).
use Rattle.std.specs.Prelude.{ℕ, List, [], ◌∷◌, ◌++◌, ◌==◌, if◌then◌else◌, codes}
use Rattle.mw_model.specs.declared.codes.Code.{Code}
use Rattle.mw_model.specs.declared.codes.Code.TheVariants as code
use Rattle.mw_model.specs.Replies.{and_number}

-- Why the request in this line ended the session. The first line may be that of a picture that came without a request.
abbrev pub end_reason : ℕ → Code → List ℕ
end_reason line code.Line = if line == 1 then codes "no request (a picture, as PGM or PBM, comes behind LOAD)" else codes "no request"
end_reason line code.Length = codes "a payload of more than 134217728 bytes"
end_reason line code.Cut = codes "the input ends inside it"
end_reason line code.Memory = codes "no memory for it"
end_reason line c = codes "it ends the session"

-- the line that tells it
abbrev pub end_line : ℕ → Code → List ℕ
end_line line c = codes "error: line" ++ and_number line ++ codes ": " ++ end_reason line c ++ 10 ∷ []
