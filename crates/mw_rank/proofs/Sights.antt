-- Levels under an element, offset by offset.
use Rattle.std.proofs.Common.{◌≡◌, ℕ, zero, suc, ◌+◌, ◌*◌, ◌<◌, ◌≤◌, ℤ, pos, ◌+ℤ◌, List, [], ◌∷◌, ◌++◌, map, length, get_or, Option, Some, None, refl, ap, sym, arith, ◌∙◌, length-append}
use Rattle.std.specs.List.{cons_option}
use Rattle.std.specs.Option.{option_to_list}
use Rattle.std.proofs.lemmas.Int.{ints}
use Rattle.std.proofs.lemmas.List.{map-append}
use Rattle.std.proofs.lemmas.List.Elements.{filter_map-append}
use Rattle.std.proofs.lemmas.Nat.{mul-add-lt}
use Rattle.std.proofs.lemmas.Option.{slice_get-get_or}
use Rattle.mw_tile.proofs.mw_pixel.Cells.{cell_at-inside}
use Rattle.mw_model.specs.declared.offsets.Offset.{Offset}
use Rattle.mw_model.specs.Rasters.{Sight, seen_under, raster, cell_at}
use Rattle.mw_rank.specs.Ranks.{levels_under, levels_at}
use Rattle.mw_rank.specs.Runs.{next_offset, offsets_from}

pub levels-cons : {A : Type 0} (level : A → ℕ) (sight : Sight A) (b : Offset) (bs : List Offset) (x y : ℕ) → levels_under level sight (b ∷ bs) x y ≡ levels_at level sight b x y ++ levels_under level sight bs x y
levels-cons level sight b bs x y = go level (sight (pos x +ℤ b.dx) (pos y +ℤ b.dy)) (seen_under sight bs x y)
  where
    go : {A : Type 0} (level : A → ℕ) (o : Option A) (cs : List A) → map level (cons_option o cs) ≡ map level (option_to_list o) ++ map level cs
    go level None cs = refl
    go level (Some c) cs = refl

pub levels-append : {A : Type 0} (level : A → ℕ) (sight : Sight A) (bs cs : List Offset) (x y : ℕ) → levels_under level sight (bs ++ cs) x y ≡ levels_under level sight bs x y ++ levels_under level sight cs x y
levels-append level sight bs cs x y =
    ap (map level) (filter_map-append (λ (b : Offset). sight (pos x +ℤ b.dx) (pos y +ℤ b.dy)) bs cs) ∙ map-append level (seen_under sight bs x y) (seen_under sight cs x y)

pub length-levels_at : {A : Type 0} (level : A → ℕ) (sight : Sight A) (b : Offset) (x y : ℕ) → length (levels_at level sight b x y) ≤ 1
length-levels_at level sight b x y = go level (sight (pos x +ℤ b.dx) (pos y +ℤ b.dy))
  where
    go : {A : Type 0} (level : A → ℕ) (o : Option A) → length (map level (option_to_list o)) ≤ 1
    go level None = omega arith
    go level (Some c) = omega arith

pub length-levels : {A : Type 0} (level : A → ℕ) (sight : Sight A) (bs : List Offset) (x y : ℕ) → length (levels_under level sight bs x y) ≤ length bs
length-levels level sight [] x y = omega arith
length-levels level sight (b ∷ bs) x y =
    rw (levels-cons level sight b bs x y, length-append (levels_at level sight b x y) (levels_under level sight bs x y)) (omega (arith, length-levels_at level sight b x y, length-levels level sight bs x y))

-- the offset n places to the right
abbrev pub offset_on : Offset → ℕ → Offset
offset_on b n = record { dx = b.dx +ℤ pos n; dy = b.dy }

pub at_dx : (dx dx' dy : ℤ) → dx ≡ dx' → let b : Offset = record { dx = dx; dy = dy } in let c : Offset = record { dx = dx'; dy = dy } in b ≡ c
at_dx dx dx' dy e = cc

pub offsets-snoc : (b : Offset) (n : ℕ) → offsets_from b (suc n) ≡ offsets_from b n ++ offset_on b n ∷ []
offsets-snoc b zero = ap (λ (t : Offset). t ∷ []) (at_dx b.dx (b.dx +ℤ pos 0) b.dy (omega (arith, ints)))
offsets-snoc b (suc n) =
    ap (λ (t : List Offset). b ∷ t) (offsets-snoc (next_offset b) n)
    ∙ ap (λ (t : Offset). b ∷ (offsets_from (next_offset b) n ++ t ∷ [])) (at_dx (b.dx +ℤ pos 1 +ℤ pos n) (b.dx +ℤ pos (suc n)) b.dy (omega (arith, ints)))

pub length-offsets : (b : Offset) (n : ℕ) → length (offsets_from b n) ≡ n
length-offsets b zero = refl
length-offsets b (suc n) = ap suc (length-offsets (next_offset b) n)

pub levels_at-on : {A : Type 0} (level : A → ℕ) (sight : Sight A) (b : Offset) (n x y : ℕ) → levels_at level sight (offset_on b n) x y ≡ levels_at level sight b (x + n) y
levels_at-on level sight b n x y = ap (λ (t : ℤ). map level (option_to_list (sight t (pos y +ℤ b.dy)))) (let e : pos x +ℤ (b.dx +ℤ pos n) ≡ pos (x + n) +ℤ b.dx = omega (arith, ints) in e)

-- a run that starts one offset further on sees what the run sees one column further on
pub levels-next : {A : Type 0} (level : A → ℕ) (sight : Sight A) (b : Offset) (n x y : ℕ) → levels_under level sight (offsets_from (next_offset b) n) x y ≡ levels_under level sight (offsets_from b n) (x + 1) y
levels-next level sight b zero x y = refl
levels-next level sight b (suc n) x y =
    levels-cons level sight (next_offset b) (offsets_from (next_offset (next_offset b)) n) x y
    ∙ ap (λ (t : List ℕ). t ++ levels_under level sight (offsets_from (next_offset (next_offset b)) n) x y) (levels_at-on level sight b 1 x y)
    ∙ ap (λ (t : List ℕ). levels_at level sight b (x + 1) y ++ t) (levels-next level sight (next_offset b) n x y)
    ∙ sym (levels-cons level sight b (offsets_from (next_offset b) n) (x + 1) y)

-- a cell of a raster that is seen
pub seen_inside : {A : Type 0} (level : A → ℕ) (width height : ℕ) (cells : List A) (column row : ℤ) (x y v : ℕ) (s : A) → column ≡ pos x → row ≡ pos y → x < width → y < height → length cells ≡ height * width
    → s ≡ get_or cells (y * width + x) s → v ≡ level s → v ∷ [] ≡ map level (option_to_list (cell_at (raster width height cells) column row))
seen_inside level width height cells column row x y v s column-is row-is across down size s-is v-is =
    let seen : cell_at (raster width height cells) column row ≡ Some s =
    ap (λ (t : ℤ). cell_at (raster width height cells) t row) column-is
    ∙ ap (λ (t : ℤ). cell_at (raster width height cells) (pos x) t) row-is
    ∙ cell_at-inside (raster width height cells) x y across down
    ∙ slice_get-get_or cells (y * width + x) s (omega (arith, size, mul-add-lt y width x height down across))
    ∙ ap Some (sym s-is) in
    ap (λ (t : ℕ). t ∷ []) v-is ∙ ap (λ (o : Option _). map level (option_to_list o)) (sym seen)
