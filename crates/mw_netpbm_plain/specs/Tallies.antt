-- How many places a plain raster can have, by its bytes alone.
use Rattle.std.specs.Prelude.{ℕ, ◌+◌, Bool, true, false, not, ◌&&◌, ◌||◌, List, [], ◌∷◌, ◌==◌, if◌then◌else◌, count_by}
use Rattle.mw_model.specs.NetpbmGrammar.{is_white}
use Rattle.mw_netpbm_plain.specs.declared.plain.Places.{Places}
use Rattle.mw_netpbm_plain.specs.declared.plain.Places.TheVariants.{Pixels, Samples}

-- signs: bytes that are no white space
abbrev pub signs_in : List ℕ → ℕ
signs_in bytes = count_by (λ b. not (is_white b)) bytes

-- words: signs before which white space stands; the flag says whether it stands before the first byte
abbrev pub words_in : Bool → List ℕ → ℕ
words_in white [] = 0
words_in white (b ∷ bs) = (if white && not (is_white b) then 1 else 0) + words_in (is_white b) bs

-- whether white space comes last
abbrev pub ends_white : Bool → List ℕ → Bool
ends_white white [] = white
ends_white white (b ∷ bs) = ends_white (is_white b) bs

-- whether a # stands in them, which begins a comment
abbrev pub has_hash : List ℕ → Bool
has_hash [] = false
has_hash (b ∷ bs) = (b == 35) || has_hash bs

-- each pixel takes a sign, each sample a word
abbrev pub room_for : Places → List ℕ → ℕ
room_for Pixels bytes = signs_in bytes
room_for (Samples maxval) bytes = words_in true bytes
