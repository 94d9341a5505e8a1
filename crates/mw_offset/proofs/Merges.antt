-- One offset after another.
use Rattle.std.proofs.Common.{◌≡◌, ℕ, ◌+◌, ◌<◌, List, [], ◌∷◌, ◌++◌, length, take, get_or, fold, Option, Some, None, refl, ap, sym, ◌∙◌}
use Rattle.std.specs.List.{filter_map}
use Rattle.std.proofs.lemmas.List.{take_more}
use Rattle.std.proofs.lemmas.List.Elements.{filter_map-append}
use Rattle.std.proofs.lemmas.List.Sums.{fold-append}
use Rattle.mw_line.specs.mw_lane.Shifted.{merge_at}

fold_one : {A B : Type 0} (f : A → A → A) (g : B → Option A) (n : A) (b : B) → fold f n (filter_map g (b ∷ [])) ≡ merge_at f n (g b)
fold_one f g n b = go f n (g b)
  where
    go : {A : Type 0} (f : A → A → A) (n : A) (o : Option A) → fold f n (filter_map (λ (x : Option A). x) (o ∷ [])) ≡ merge_at f n o
    go f n None = refl
    go f n (Some x) = refl

-- a step of a loop that merges what g gives of each b
pub fold_more_given : {A B : Type 0} (f : A → A → A) (g : B → Option A) (n : A) (bs : List B) (i : ℕ) (b : B) (best x : A) → i < length bs → b ≡ get_or bs i b
    → best ≡ fold f n (filter_map g (take i bs)) → x ≡ merge_at f best (g b) → x ≡ fold f n (filter_map g (take (i + 1) bs))
fold_more_given f g n bs i b best x lt b-is best-is x-is =
    x-is
    ∙ ap (λ (t : _). merge_at f t (g b)) best-is
    ∙ sym (fold_one f g (fold f n (filter_map g (take i bs))) b)
    ∙ sym (fold-append f n (filter_map g (take i bs)) (filter_map g (b ∷ [])))
    ∙ ap (fold f n) (sym (filter_map-append g (take i bs) (b ∷ [])))
    ∙ ap (λ (t : _). fold f n (filter_map g (take i bs ++ t ∷ []))) b-is
    ∙ ap (λ (t : List _). fold f n (filter_map g t)) (sym (take_more bs i b lt))
