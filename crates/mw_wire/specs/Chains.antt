-- Requests that a desk answers, one after another.
use Rattle.std.specs.Prelude.{◌≡◌, ◌≢◌, ℕ, List, [], ◌∷◌, ◌++◌}
use Rattle.mw_model.specs.declared.requests.Ask.TheVariants.{Quit}
use Rattle.mw_model.specs.Lines.{Asked, AskAlone, Begins}

-- none of them asks to quit
abbrev pub NoneQuits : List Asked → Type 0
NoneQuits [] = Unit {0}
NoneQuits (r ∷ rs) = (r ≢ AskAlone Quit) × NoneQuits rs

-- A desk is known by a relation: in this state it answers this request by this text, and then is in that state.
module _ {S : Type 0} (Answer : S → Asked → List ℕ → S → Type 0) where
  -- it answers these requests, one after another, by these texts together
  abbrev pub AreAnswered : S → List Asked → List ℕ → S → Type 0
  AreAnswered s [] text t = (text ≡ []) × (t ≡ s)
  AreAnswered s (r ∷ rs) text t = (mid : S) × (front rest : List ℕ) × Answer s r front mid × AreAnswered mid rs rest t × (text ≡ front ++ rest)

  -- The bytes are these requests, none of which is QUIT, and then this rest. They were answered so.
  pub record HasAnswered (bytes : List ℕ) (asked : List Asked) (rest : List ℕ) (s : S) (text : List ℕ) (t : S) : Type 0 where
    pub cut : Begins bytes asked rest
    pub open_still : NoneQuits asked
    pub answered : AreAnswered s asked text t
