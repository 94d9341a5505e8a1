-- Extrema of lists with the same members, and what is seen under elements with the same offsets.
use Rattle.std.proofs.Common.{◌≡◌, ℕ, ◌+◌, pos, ◌+ℤ◌, List, [], ◌∷◌, Option, Some, None, IfSome, fold, refl, ap, sym, ◌∙◌}
use Rattle.std.specs.List.{AllByRecursion, filter_map, cons_option}
use Rattle.mw_model.proofs.mw_facts.Alls.{all-each_contained, all-contains}
use Rattle.mw_model.specs.declared.offsets.Offset.{Offset}
use Rattle.mw_model.specs.declared.offsets.OffsetBox.{OffsetBox}
use Rattle.mw_model.specs.declared.offsets.Rect.{Rect}
use Rattle.mw_model.specs.Rectangles.{box_offsets}
use Rattle.mw_step_task.specs.mw_element.Figures.{FillsBox}
use Rattle.mw_model.specs.Rasters.{Raster, Sight, seen_under}
use Rattle.mw_rank_bits.specs.mw_line.Extrema.{IsSlidingExtremum}
use Rattle.mw_rank_bits.proofs.mw_line.Folds.{IsExtremum}
use Rattle.mw_step_task.proofs.Boxes.{box_all, box_at}

-- a value that is merged before the list may be merged after it
merged_late : {A : Type 0} (f : A → A → A) → IsExtremum f → (a b : A) (xs : List A) → fold f (f a b) xs ≡ f (fold f a xs) b
merged_late f laws a b [] = refl
merged_late f laws a b (x ∷ xs) =
    ap (λ (t : _). fold f t xs) (laws.associates a b x ∙ ap (f a) (laws.commutes b x) ∙ sym (laws.associates a x b))
    ∙ merged_late f laws (f a x) b xs

-- an extremum takes in none of its members again
takes_in : {A : Type 0} (f : A → A → A) → IsExtremum f → (d : A) (xs : List A) → AllByRecursion (λ x. f (fold f d xs) x ≡ fold f d xs) xs
takes_in f laws d [] = tt
takes_in f laws d (x ∷ xs) = (own, takes_in f laws (f d x) xs)
  where
    own : f (fold f (f d x) xs) x ≡ fold f (f d x) xs
    own =
        ap (λ (t : _). f t x) (merged_late f laws d x xs)
        ∙ laws.associates (fold f d xs) x x
        ∙ ap (f (fold f d xs)) (laws.is_idempotent x)
        ∙ sym (merged_late f laws d x xs)

takes_start : {A : Type 0} (f : A → A → A) → IsExtremum f → (d : A) (xs : List A) → f (fold f d xs) d ≡ fold f d xs
takes_start f laws d xs = sym (merged_late f laws d d xs) ∙ ap (λ (t : _). fold f t xs) (laws.is_idempotent d)

fold-stays : {A : Type 0} (f : A → A → A) (a : A) (ys : List A) → AllByRecursion (λ y. f a y ≡ a) ys → fold f a ys ≡ a
fold-stays f a [] all = refl
fold-stays f a (y ∷ ys) all = ap (λ (t : _). fold f t ys) all.0 ∙ fold-stays f a ys all.1

-- an extremum that takes in no member of another list is not changed by that list's extremum
fold-above : {A : Type 0} (f : A → A → A) → IsExtremum f → (d : A) (xs ys : List A) → AllByRecursion (λ y. f (fold f d xs) y ≡ fold f d xs) ys → f (fold f d xs) (fold f d ys) ≡ fold f d xs
fold-above f laws d xs ys all =
    laws.commutes (fold f d xs) (fold f d ys)
    ∙ sym (merged_late f laws d (fold f d xs) ys)
    ∙ ap (λ (t : _). fold f t ys) (laws.commutes d (fold f d xs) ∙ takes_start f laws d xs)
    ∙ fold-stays f (fold f d xs) ys all

same_extremum : {A : Type 0} (f : A → A → A) → IsExtremum f → (d : A) (xs ys : List A) → AllByRecursion (λ y. f (fold f d xs) y ≡ fold f d xs) ys → AllByRecursion (λ x. f (fold f d ys) x ≡ fold f d ys) xs → fold f d xs ≡ fold f d ys
same_extremum f laws d xs ys over under = sym (fold-above f laws d xs ys over) ∙ laws.commutes (fold f d xs) (fold f d ys) ∙ fold-above f laws d ys xs under

-- what holds of all that is seen, and of what is seen at each offset
seen_of : {A : Type 0} (P : A → Type 0) (look : Offset → Option A) (bs : List Offset) → AllByRecursion P (filter_map look bs) → AllByRecursion (λ b. IfSome (look b) P) bs
seen_of P look [] all = tt
seen_of P look (b ∷ bs) all = go (look b) all (λ rest. seen_of P look bs rest)
  where
    go : (o : Option _) → AllByRecursion P (cons_option o (filter_map look bs)) → (AllByRecursion P (filter_map look bs) → AllByRecursion (λ b. IfSome (look b) P) bs) → IfSome o P × AllByRecursion (λ b. IfSome (look b) P) bs
    go (Some v) all rest = (all.0, rest all.1)
    go None all rest = (tt, rest all)

pub of_seen : {A : Type 0} (P : A → Type 0) (look : Offset → Option A) (bs : List Offset) → AllByRecursion (λ b. IfSome (look b) P) bs → AllByRecursion P (filter_map look bs)
of_seen P look [] all = tt
of_seen P look (b ∷ bs) all = go (look b) all.0 (of_seen P look bs all.1)
  where
    go : (o : Option _) → IfSome o P → AllByRecursion P (filter_map look bs) → AllByRecursion P (cons_option o (filter_map look bs))
    go (Some v) p rest = (p, rest)
    go None p rest = rest

-- a full rectangle is seen as its box
pub box_seen : {A : Type 0} (f : A → A → A) → IsExtremum f → (d : A) (sight : Sight A) (box : OffsetBox) (offsets : List Offset) → FillsBox box offsets → (x y : ℕ)
    → fold f d (seen_under sight (box_offsets box) x y) ≡ fold f d (seen_under sight offsets x y)
box_seen f laws d sight box offsets fills x y =
    let look : Offset → Option _ = λ (b : Offset). sight (pos x +ℤ b.dx) (pos y +ℤ b.dy) in
    let boxed = filter_map look (box_offsets box) in
    let own = filter_map look offsets in
    let P : _ → Type 0 = λ v. f (fold f d boxed) v ≡ fold f d boxed in
    let Q : _ → Type 0 = λ v. f (fold f d own) v ≡ fold f d own in
    let box_takes = seen_of P look (box_offsets box) (takes_in f laws d boxed) in
    let own_takes = seen_of Q look offsets (takes_in f laws d own) in
    same_extremum f laws d boxed own
    (of_seen P look offsets (all-each_contained (λ b. IfSome (look b) P) offsets (λ b has. box_at (λ b. IfSome (look b) P) box box_takes b ((fills b).0 has))))
    (of_seen Q look (box_offsets box) (box_all (λ b. IfSome (look b) Q) box (λ b inside. all-contains (λ b. IfSome (look b) Q) offsets b own_takes ((fills b).1 inside))))

pub box_slides : {A : Type 0} (f : A → A → A) → IsExtremum f → (d : A) (sight : Sight A) (box : OffsetBox) (offsets : List Offset) (tile : Rect) (r : Raster A) → FillsBox box offsets
    → IsSlidingExtremum f d sight (box_offsets box) tile r → IsSlidingExtremum f d sight offsets tile r
box_slides f laws d sight box offsets tile r fills slides = record {
  width = slides.width;
  height = slides.height;
  size = slides.size;
  cells = λ x y across down. slides.cells x y across down ∙ ap (λ (t : _). Some t) (box_seen f laws d sight box offsets fills (tile.x + x) (tile.y + y));
}
