-- Loops that do an operator again and again.
use Rattle.std.proofs.Common.{◌≡◌, ℕ, suc, ◌+◌, ◌*◌, ◌<◌, ◌≤◌, ◌^◌, List, [], ◌∷◌, ◌++◌, map, length, ap, sym, arith, ◌∙◌, inl, inr, add-one, mul-le-mul}
use Rattle.std.specs.Prelude.{◌==◌, if◌then◌else◌, sum}
use Rattle.std.specs.List.{range_with_len}
use Rattle.std.proofs.lemmas.Bool.{cases_Bool}
use Rattle.std.proofs.lemmas.List.FromFn.{map-range_with_len_more}
use Rattle.std.proofs.lemmas.List.Sums.{sum_by-le}
use Rattle.std.proofs.Math.Nat.{le_antisymm}
use Rattle.mw_model.specs.declared.offsets.Offset.{Offset}
use Rattle.mw_model.specs.declared.shapes.Kind.TheVariants.{Grey}
use Rattle.mw_model.specs.Pictures.{Picture, sample, drawn, redrawn, IsPicture, IsSmallPicture}
use Rattle.mw_model.specs.Flat.{erosion, dilation, reflected}
use Rattle.mw_model.specs.Iterates.{times, is_residue, residue_mark, skeleton, level_set, union, restoration}
use Rattle.mw_model.proofs.ImagePlaces.{sample-drawn, drawn_same, sample_bounded}
use Rattle.mw_model.proofs.Iterated.{dilated_shape}
use Rattle.mw_model.proofs.SkeletonLaws.{restoration_shape}

pub once_more : (operator : Picture → Picture) (n : ℕ) (f before after : Picture) → after ≡ operator before → before ≡ times n operator f → after ≡ times (n + 1) operator f
once_more operator n f before after step is = step ∙ ap operator is ∙ ap (λ (k : ℕ). times k operator f) (sym (add-one n))

pub all_times : (operator : Picture → Picture) (i n : ℕ) (f g : Picture) → i ≤ n → n ≤ i → g ≡ times i operator f → g ≡ times n operator f
all_times operator i n f g low high is = is ∙ ap (λ (k : ℕ). times k operator f) (le_antisymm low high)

-- a part of a restoration has the maxval of a set, and so has the restoration
pub part_maxval : (b : List Offset) (n m : ℕ) (g restored level part : Picture) → restored ≡ restoration b n g → level ≡ level_set (n + 2) g → part ≡ times m (dilation (reflected b)) level
    → part.maxval ≤ restored.maxval
part_maxval b n m g restored level part restored-is level-is part-is =
    let whole = restoration_shape b n g in
    let shape = dilated_shape (reflected b) m level in
    omega (arith, ap (λ (t : Picture). t.maxval) restored-is, ap (λ (t : Picture). t.maxval) level-is, ap (λ (t : Picture). t.maxval) part-is, whole.maxval, shape.maxval)

pub restored_more : (b : List Offset) (n : ℕ) (g restored level part new : Picture) → restored ≡ restoration b n g → level ≡ level_set (n + 2) g → part ≡ times (n + 1) (dilation (reflected b)) level
    → new ≡ union restored part → new ≡ restoration b (n + 1) g
restored_more b n g restored level part new restored-is level-is part-is step =
    let operator = dilation (reflected b) in
    let part-now : part ≡ times (suc n) operator (level_set (n + 2) g) =
    part-is ∙ ap (λ (t : Picture). times (n + 1) operator t) level-is ∙ ap (λ (k : ℕ). times k operator (level_set (n + 2) g)) (add-one n) in
    step
    ∙ ap (λ (t : Picture). union t part) restored-is
    ∙ ap (union (restoration b n g)) part-now
    ∙ ap (λ (k : ℕ). restoration b k g) (sym (add-one n))

-- one residue more is marked
pub marked_more : (b : List Offset) (f : Picture) (depth n : ℕ) (eroded marks new : Picture) → eroded ≡ times n (erosion b) f
    → marks ≡ drawn Grey f.width f.height (depth + 1) (residue_mark b f n) → new ≡ redrawn marks (λ x y. if is_residue b eroded x y then n + 1 else sample marks x y)
    → new ≡ drawn Grey f.width f.height (depth + 1) (residue_mark b f (n + 1))
marked_more b f depth n eroded marks new eroded-is marks-is step =
    let before = drawn Grey f.width f.height (depth + 1) (residue_mark b f n) in
    step
    ∙ ap (λ (e : Picture). redrawn marks (λ x y. if is_residue b e x y then n + 1 else sample marks x y)) eroded-is
    ∙ ap (λ (m : Picture). redrawn m (λ x y. if is_residue b (times n (erosion b) f) x y then n + 1 else sample m x y)) marks-is
    ∙ drawn_same Grey f.width f.height (depth + 1) (λ x y. if is_residue b (times n (erosion b) f) x y then n + 1 else sample before x y) (residue_mark b f (n + 1))
    (λ x y p q.
    ap (λ (s : ℕ). if is_residue b (times n (erosion b) f) x y then n + 1 else s) (sample-drawn Grey f.width f.height (depth + 1) (residue_mark b f n) x y p q)
    ∙ ap (λ (k : ℕ). residue_mark b f k x y) (sym (add-one n)))

pub marks_bounded : (depth : ℕ) (eroded marks : Picture) → marks.maxval ≡ depth + 1 → IsPicture marks → (x y : ℕ) → x < marks.width → y < marks.height
    → (if sample eroded x y == 1 then depth + 1 else sample marks x y) ≤ marks.maxval
marks_bounded depth eroded marks is picture x y p q =
    elim (cases_Bool (sample eroded x y == 1)) [
      | inl e ↦ rw e (omega arith)
      | inr e ↦ rw e (sample_bounded marks picture x y p q)
    ]

-- with what the last erosion leaves it is the skeleton
pub skeleton_from_marks : (b : List Offset) (f : Picture) (depth n : ℕ) (eroded marks : Picture) → n ≡ depth → eroded ≡ times n (erosion b) f
    → marks ≡ drawn Grey f.width f.height (depth + 1) (residue_mark b f n) → redrawn marks (λ x y. if sample eroded x y == 1 then depth + 1 else sample marks x y) ≡ skeleton b depth f
skeleton_from_marks b f depth n eroded marks same eroded-so_far marks-so_far =
    let eroded-is : eroded ≡ times depth (erosion b) f = eroded-so_far ∙ ap (λ (k : ℕ). times k (erosion b) f) same in
    let marks-is : marks ≡ drawn Grey f.width f.height (depth + 1) (residue_mark b f depth) =
    marks-so_far ∙ ap (λ (k : ℕ). drawn Grey f.width f.height (depth + 1) (residue_mark b f k)) same in
    let before = drawn Grey f.width f.height (depth + 1) (residue_mark b f depth) in
    let last = times depth (erosion b) f in
    ap (λ (e : Picture). redrawn marks (λ x y. if sample e x y == 1 then depth + 1 else sample marks x y)) eroded-is
    ∙ ap (λ (m : Picture). redrawn m (λ x y. if sample last x y == 1 then depth + 1 else sample m x y)) marks-is
    ∙ drawn_same Grey f.width f.height (depth + 1) (λ x y. if sample last x y == 1 then depth + 1 else sample before x y) (λ x y. if sample last x y == 1 then depth + 1 else residue_mark b f depth x y)
    (λ x y p q. ap (λ (s : ℕ). if sample last x y == 1 then depth + 1 else s) (sample-drawn Grey f.width f.height (depth + 1) (residue_mark b f depth) x y p q))

pub one_volume_more : (volume_at : ℕ → ℕ) (n v : ℕ) (before after : List ℕ) → before ≡ map volume_at (range_with_len 0 n) → v ≡ volume_at n → after ≡ before ++ v ∷ []
    → after ≡ map volume_at (range_with_len 0 (n + 1))
one_volume_more volume_at n v before after is v-is step =
    step
    ∙ ap (λ (t : List ℕ). t ++ v ∷ []) is
    ∙ ap (λ (k : ℕ). map volume_at (range_with_len 0 n) ++ k ∷ []) v-is
    ∙ sym (map-range_with_len_more volume_at 0 n n (omega arith))

-- the sum of all samples of a small image fits 64 bits
pub sum_fits : (f : Picture) → IsSmallPicture f → sum f.samples < 2 ^ 64
sum_fits f small =
    let most = sum_by-le (λ s. s) f.maxval f.samples small.picture.bounded in
    let area : f.height * f.width ≤ 8192 * 8192 = mul-le-mul small.rows small.columns in
    let top : f.maxval ≤ 65536 = omega (arith, small.levels) in
    let count : length f.samples ≤ 67108864 = omega (arith, small.picture.size) in
    let all : length f.samples * f.maxval ≤ 67108864 * 65536 = mul-le-mul count top in
    omega (arith, most, all)
