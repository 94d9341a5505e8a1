-- What a server tells when connections can be made (own).
use Rattle.std.specs.Prelude.{ℕ, List, [], ◌∷◌, ◌++◌, codes}
use Rattle.mw_model.specs.Replies.{and_number}

-- the line that names this port
abbrev pub announcement : ℕ → List ℕ
announcement port = codes "LISTENING 127.0.0.1" ++ and_number port ++ 10 ∷ []
