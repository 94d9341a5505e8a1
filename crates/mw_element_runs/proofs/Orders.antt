-- Folds of what is seen under an element: by a merge that takes no notice of the order, its offsets may stand in any way.
use Rattle.std.proofs.Common.{◌≡◌, ℕ, pos, ◌+ℤ◌, List, [], ◌∷◌, fold, reverse, flat_map, Option, Some, None, refl, ap, sym, inl, inr, ◌∙◌}
use Rattle.std.specs.List.{filter_map, cons_option}
use Rattle.std.proofs.lemmas.List.{reverse-append}
use Rattle.std.proofs.lemmas.List.Elements.{filter_map-append}
use Rattle.std.proofs.lemmas.List.Sums.{fold-append}
use Rattle.mw_model.specs.declared.offsets.Offset.{Offset}
use Rattle.mw_model.specs.Rasters.{Sight, seen_under}
use Rattle.mw_element_runs.specs.declared.runs.Run.{Run}
use Rattle.mw_element_runs.specs.Runs.{run_offsets, AreEitherWay}

-- what is merged in last can be merged in first
fold_last : {A : Type 0} (f : A → A → A) → ((a b : A) → f a b ≡ f b a) → ((a b c : A) → f (f a b) c ≡ f a (f b c)) → (n a : A) (xs : List A) → f (fold f n xs) a ≡ fold f (f n a) xs
fold_last f commutes associates n a [] = refl
fold_last f commutes associates n a (x ∷ xs) =
    fold_last f commutes associates (f n x) a xs ∙ ap (λ (t : _). fold f t xs) (associates n x a ∙ ap (f n) (commutes x a) ∙ sym (associates n a x))

pub fold_reversed : {A B : Type 0} (f : A → A → A) → ((a b : A) → f a b ≡ f b a) → ((a b c : A) → f (f a b) c ≡ f a (f b c)) → (n : A) (look : B → Option A) (bs : List B)
    → fold f n (filter_map look (reverse bs)) ≡ fold f n (filter_map look bs)
fold_reversed f commutes associates n look [] = refl
fold_reversed f commutes associates n look (b ∷ bs) =
    ap (λ (t : List _). fold f n (filter_map look t)) (reverse-append (b ∷ []) bs)
    ∙ ap (fold f n) (filter_map-append look (reverse bs) (b ∷ []))
    ∙ fold-append f n (filter_map look (reverse bs)) (filter_map look (b ∷ []))
    ∙ ap (λ (t : _). fold f t (filter_map look (b ∷ []))) (fold_reversed f commutes associates n look bs)
    ∙ first (look b) (filter_map look bs)
  where
    first : (o : Option _) (xs : List _) → fold f (fold f n xs) (cons_option o []) ≡ fold f n (cons_option o xs)
    first None xs = refl
    first (Some a) xs = fold_last f commutes associates n a xs

-- what is seen under runs that have the offsets of an element in either order
pub fold_either_way : {A : Type 0} (f : A → A → A) → ((a b : A) → f a b ≡ f b a) → ((a b c : A) → f (f a b) c ≡ f a (f b c)) → (n : A) (sight : Sight A) (element : List Offset) (runs : List Run) (x y : ℕ)
    → AreEitherWay element runs → fold f n (seen_under sight (flat_map run_offsets runs) x y) ≡ fold f n (seen_under sight element x y)
fold_either_way f commutes associates n sight element runs x y (inl same) = ap (λ (t : List Offset). fold f n (seen_under sight t x y)) same
fold_either_way f commutes associates n sight element runs x y (inr opposite) =
    ap (λ (t : List Offset). fold f n (seen_under sight t x y)) opposite ∙ fold_reversed f commutes associates n (λ (b : Offset). sight (pos x +ℤ b.dx) (pos y +ℤ b.dy)) element
