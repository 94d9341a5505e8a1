-- What is gathered at places.
use Rattle.std.proofs.Common.{◌≡◌, ℕ, ◌+◌, ◌<◌, List, [], ◌∷◌, length, take, get_or, fold, ap, sym, ◌∙◌}
use Rattle.std.proofs.lemmas.List.{take_more}
use Rattle.std.proofs.lemmas.List.Sums.{fold-append}
use Rattle.mw_chord_lent.specs.Placed.{gathered_at}

-- one place more
pub gathered_more : {A : Type 0} (f : A → A → A) (cells : List A) (d : A) (q j place : ℕ) (places : List ℕ) (best found made : A) → j < length places → place ≡ get_or places j 0 → found ≡ gathered_at f cells d q best (take j places)
    → made ≡ f found (get_or cells (place + q) d) → made ≡ gathered_at f cells d q best (take (j + 1) places)
gathered_more f cells d q j place places best found made lt place-is found-is made-is =
    let step = λ (b : _) (p : ℕ). f b (get_or cells (p + q) d) in
    made-is
    ∙ ap (λ (t : _). f t (get_or cells (place + q) d)) found-is
    ∙ ap (λ (t : ℕ). f (gathered_at f cells d q best (take j places)) (get_or cells (t + q) d)) place-is
    ∙ sym (ap (fold step best) (take_more places j 0 lt) ∙ fold-append step best (take j places) (get_or places j 0 ∷ []))
