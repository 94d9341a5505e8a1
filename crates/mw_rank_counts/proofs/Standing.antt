-- The places of offsets in a window.
use Rattle.std.proofs.Common.{◌≡◌, ℕ, ℤ, pos, ◌+ℤ◌, ◌-ℤ◌, zero, suc, ◌+◌, ◌-◌, ◌*◌, ◌<◌, ◌≤◌, List, [], ◌∷◌, ◌++◌, map, length, get_or, take, None, refl, ap, sym, arith, ◌∙◌, length-append, inl, inr, subst, append-nil}
use Rattle.std.specs.Option.{option_to_list}
use Rattle.std.proofs.lemmas.Bool.{cases_lt}
use Rattle.std.proofs.lemmas.Int.{ints}
use Rattle.std.proofs.lemmas.Nat.{mul-add-lt}
use Rattle.std.proofs.lemmas.List.{take_more, map-append, get_or_append_left, get_or-append_right, get_or_default}
use Rattle.mw_model.specs.declared.offsets.Offset.{Offset}
use Rattle.mw_model.specs.Rasters.{Sight, raster, cell_at}
use Rattle.mw_model.specs.Windows.{View, seen_at}
use Rattle.mw_rank_counts.specs.Counting.{levels_on, HasPlaces, ArePlaces, AddsPlace}
use Rattle.mw_rank.specs.Ranks.{levels_under, levels_at}
use Rattle.mw_rank.proofs.Sights.{levels-append, levels-cons, seen_inside}

has_places_none : {A : Type 0} (samples : List A) (n : ℕ) → HasPlaces samples n []
has_places_none samples n = λ q lt. absurd (omega arith)

has_places_more : {A : Type 0} (samples : List A) (n : ℕ) (places added : List ℕ) → HasPlaces samples n places → HasPlaces samples n added → HasPlaces samples n (places ++ added)
has_places_more samples n places added before more = λ q lt. elim (cases_lt q (length places)) [
  | inl early ↦ rw (get_or_append_left places added 0 q early) (before q early)
  | inr late ↦ rw (get_or-append_right places added (length places) q 0 refl late) (more (q - length places) (omega (arith, length-append places added)))
]

pub are_places_none : {A : Type 0} (level : A → ℕ) (d : A) (sight : Sight A) (samples : List A) (x y n : ℕ) → ArePlaces level d sight samples [] x y n []
are_places_none level d sight samples x y n = record { inside = has_places_none samples n; seen = λ i lt. refl; few = omega arith }

-- the place of one offset more
pub are_places_more : {A : Type 0} (level : A → ℕ) (d : A) (sight : Sight A) (samples : List A) (offsets : List Offset) (b : Offset) (j x y n : ℕ) (old new : List ℕ) → j < length offsets → get_or offsets j b ≡ b
    → AddsPlace level d sight samples b x y n old new → ArePlaces level d sight samples (take j offsets) x y n old → ArePlaces level d sight samples (take (j + 1) offsets) x y n new
are_places_more level d sight samples offsets b j x y n old new lt is more before =
    let taken : take (j + 1) offsets ≡ take j offsets ++ b ∷ [] = take_more offsets j b lt ∙ ap (λ (t : Offset). take j offsets ++ t ∷ []) is in
    let all : ArePlaces level d sight samples (take j offsets ++ b ∷ []) x y n (old ++ more.added) = record {
      inside = has_places_more samples n old more.added before.inside more.are.inside;
      seen = λ i less.
          map-append (λ (p : ℕ). level (get_or samples (p + i) d)) old more.added
          ∙ ap (λ (t : List ℕ). t ++ levels_on level d samples more.added i) (before.seen i less)
          ∙ ap (λ (t : List ℕ). levels_under level sight (take j offsets) (x + i) y ++ t) (more.are.seen i less)
          ∙ sym (levels-append level sight (take j offsets) (b ∷ []) (x + i) y);
      few = omega (arith, length-append old more.added, length-append (take j offsets) (b ∷ []), before.few, more.are.few);
    } in
    subst (λ (t : List ℕ). ArePlaces level d sight samples (take (j + 1) offsets) x y n t) (sym more.is) (subst (λ (t : List Offset). ArePlaces level d sight samples t x y n (old ++ more.added)) (sym taken) all)

-- what is seen of one offset
levels_of_one : {A : Type 0} (level : A → ℕ) (sight : Sight A) (b : Offset) (x y : ℕ) → levels_under level sight (b ∷ []) x y ≡ levels_at level sight b x y
levels_of_one level sight b x y = levels-cons level sight b [] x y ∙ append-nil (levels_at level sight b x y)

-- an offset in a row that the window lacks has no place there
pub no_place : {A : Type 0} (level : A → ℕ) (d : A) (w : View A) (b : Offset) (x y n : ℕ) (old : List ℕ) → ((column : ℤ) → cell_at (raster w.place.width w.place.height w.cells) column (pos y +ℤ b.dy -ℤ pos w.place.y) ≡ None)
    → AddsPlace level d (seen_at w) w.cells b x y n old old
no_place level d w b x y n old none = record {
  added = [];
  is = sym (append-nil old);
  are = record {
    inside = has_places_none w.cells n;
    seen = λ i lt. sym (levels_of_one level (seen_at w) b (x + i) y ∙ ap (λ (t : _). map level (option_to_list t)) (none (pos (x + i) +ℤ b.dx -ℤ pos w.place.x)));
    few = omega arith;
  };
}

-- a row stands among the samples of all rows
pub rows_fit : (row height width cells : ℕ) → row < height → cells ≡ height * width → row * width + width ≤ cells
rows_fit row height width cells lt is = grind arith

-- an offset in columns and a row that the window has
pub one_place : {A : Type 0} (level : A → ℕ) (d : A) (w : View A) (b : Offset) (x y n column row p : ℕ) (old new : List ℕ) → length w.cells ≡ w.place.height * w.place.width → row < w.place.height → column + n ≤ w.place.width → pos x +ℤ b.dx -ℤ pos w.place.x ≡ pos column
    → pos y +ℤ b.dy -ℤ pos w.place.y ≡ pos row → p ≡ row * w.place.width + column → new ≡ old ++ p ∷ [] → AddsPlace level d (seen_at w) w.cells b x y n old new
one_place level d w b x y n column row p old new size down across column-is row-is p-is new-is =
    let fits : row * w.place.width + w.place.width ≤ length w.cells = rows_fit row w.place.height w.place.width (length w.cells) down size in
    record {
      added = p ∷ [];
      is = new-is;
      are = record {
        inside = λ q lt. rw (only q p lt) (omega arith);
        seen = λ i lt.
            ap (λ (t : ℕ). level (get_or w.cells t d) ∷ []) (let at : p + i ≡ row * w.place.width + (column + i) = omega arith in at)
            ∙ seen_inside level w.place.width w.place.height w.cells (pos (x + i) +ℤ b.dx -ℤ pos w.place.x) (pos y +ℤ b.dy -ℤ pos w.place.y) (column + i) row _ (get_or w.cells (row * w.place.width + (column + i)) d) (omega (arith, ints)) row-is (omega arith) down size
            (get_or_default w.cells (row * w.place.width + (column + i)) d _ (omega (arith, size, mul-add-lt row w.place.width (column + i) w.place.height down (omega arith)))) refl
            ∙ sym (levels_of_one level (seen_at w) b (x + i) y);
        few = omega arith;
      };
    }
  where
    only : (q p : ℕ) → q < length (p ∷ []) → get_or (p ∷ []) q 0 ≡ p
    only zero p lt = refl
    only (suc q) p lt = absurd (omega arith)
