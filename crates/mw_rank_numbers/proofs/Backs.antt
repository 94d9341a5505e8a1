-- Lists of levels that have each level at its number.
use Rattle.std.proofs.Common.{◌≡◌, ℕ, ◌+◌, ◌-◌, ◌*◌, ◌/◌, ◌%◌, ◌<◌, ◌≤◌, List, [], length, get_or, set, take, drop, replicate, inl, inr, refl, ap, sym, arith, subst, ◌∙◌}
use Rattle.std.proofs.lemmas.Bool.{cases_eq, cases_lt, cases_order}
use Rattle.std.proofs.lemmas.List.{get_or-set_same, get_or-set_other, get_or-take, get_or-drop, get_or_default, get_or-replicate}
use Rattle.std.proofs.lemmas.Nat.{div-add-mod', div_below, mod_below}
use Rattle.mw_model.proofs.mw_facts.Numbers.{factor-positive}
use Rattle.mw_model.specs.Windows.{View}
use Rattle.mw_rank.specs.Ranks.{GainsRow, HasRows}
use Rattle.mw_rank.proofs.Rows.{has_rows_more}
use Rattle.mw_rank_numbers.specs.declared.numbering.Part.{Part}
use Rattle.mw_rank_numbers.specs.LevelSets.{bit_in, below_in, IsBack, IsSummed}
use Rattle.mw_rank_numbers.specs.Numbers.{level_in_part, IsNumbering}
use Rattle.mw_rank_numbers.proofs.Sets.{below_less, bit_small, number_inside}

pub before_end : (i n m : ℕ) → i < n → n < m → i < m
before_end i n m lt less = omega arith

pub last_one : (i n : ℕ) → n ≤ i → i < n + 1 → n ≡ i
last_one i n le lt = omega arith

-- the level of a sample of a list
pub sample_level : {A : Type 0} (level : A → ℕ) (d : A) (samples : List A) (i : ℕ) (a : A) (v : ℕ) → i < length samples → a ≡ get_or samples i a → v ≡ level a → v ≡ level (get_or samples i d)
sample_level level d samples i a v lt is v-is = v-is ∙ ap level (is ∙ get_or_default samples i a d lt)

pub gains_none : (value : ℕ → ℕ) (items : List ℕ) → GainsRow (λ n. n) value 0 items items
gains_none value items = record { size = omega arith; kept = λ p d lt. refl; made = λ x d lt. absurd (omega arith) }

pub rows_none : (value : ℕ → ℕ → ℕ) (width : ℕ) (items : List ℕ) → items ≡ [] → HasRows (λ n. n) value width 0 items
rows_none value width items none = record { size = ap length none ∙ (let e : 0 ≡ 0 * width = omega arith in e); made = λ x j d lt less. absurd (omega arith) }

-- one row more, whose levels are known up to its end
pub rows_gained : (value : ℕ → ℕ → ℕ) (row : ℕ → ℕ) (w n : ℕ) (out new : List ℕ) → ((x : ℕ) → x < w → row x ≡ value x n) → GainsRow (λ n. n) row w out new → HasRows (λ n. n) value w n out → HasRows (λ n. n) value w (n + 1) new
rows_gained value row w n out new row-is gains before =
    has_rows_more (λ (m : ℕ). m) value (λ x. value x n) w n out new (λ x. refl) (record { size = gains.size; kept = gains.kept; made = λ x d lt. gains.made x d lt ∙ row-is x lt }) before

-- levels of a set that have the same number are the same
same_level : (words : List ℕ) (s t : ℕ) → bit_in words s ≡ 1 → bit_in words t ≡ 1 → below_in words s ≡ below_in words t → s ≡ t
same_level words s t has also same =
    elim (cases_order s t) [
      | inl e ↦ e
      | inr (inl less) ↦ absurd (let lt = below_less words s t has less in omega (arith, lt, same))
      | inr (inr more) ↦ absurd (let lt = below_less words t s also more in omega (arith, lt, same))
    ]

-- a sample is put where its number finds it
pub put_back : {A : Type 0} (level : A → ℕ) (words : List ℕ) (levels : List A) (a : A) (s n : ℕ) → s ≡ level a → n ≡ below_in words s → n < length levels → IsBack level words (set levels n a) s
put_back level words levels a s n s-is n-is inside = λ d.
    ap (λ (p : ℕ). level (get_or (set levels n a) p d)) (sym n-is) ∙ ap level (get_or-set_same levels n a d inside) ∙ sym s-is

-- the others stay where they are
pub still_back : {A : Type 0} (level : A → ℕ) (words : List ℕ) (levels : List A) (a : A) (s n v : ℕ) → s ≡ level a → n ≡ below_in words s → n < length levels → bit_in words s ≡ 1 → bit_in words v ≡ 1 → IsBack level words levels v → IsBack level words (set levels n a) v
still_back level words levels a s n v s-is n-is inside has also back = λ d.
    elim (cases_eq (below_in words v) n) [
      | inl same ↦
          let level-is : v ≡ s = same_level words v s also has (same ∙ n-is) in
          ap (λ (p : ℕ). level (get_or (set levels n a) p d)) same ∙ ap level (get_or-set_same levels n a d inside) ∙ sym s-is ∙ sym level-is
      | inr other ↦ ap level (get_or-set_other levels n (below_in words v) a d other) ∙ back d
    ]

-- one sample more is where its number finds it
pub backs_more : {A : Type 0} (level : A → ℕ) (top : A) (words : List ℕ) (samples levels : List A) (a : A) (s number n : ℕ) → s ≡ level (get_or samples n top) → s ≡ level a → number ≡ below_in words s → number < length levels → bit_in words s ≡ 1 → ((i : ℕ) → i < n → bit_in words (level (get_or samples i top)) ≡ 1)
    → ((i : ℕ) → i < n → IsBack level words levels (level (get_or samples i top))) → (i : ℕ) → i < n + 1 → IsBack level words (set levels number a) (level (get_or samples i top))
backs_more level top words samples levels a s number n here s-is number-is room has marked before i lt =
    elim (cases_lt i n) [
      | inl early ↦ still_back level words levels a s number (level (get_or samples i top)) s-is number-is room has (marked i early) (before i early)
      | inr late ↦ subst (λ (v : ℕ). IsBack level words (set levels number a) v) (here ∙ ap (λ (p : ℕ). level (get_or samples p top)) (last_one i n late lt)) (put_back level words levels a s number s-is number-is room)
    ]

-- a sample of a row of a part
pub part_level : {A : Type 0} (level : A → ℕ) (d : A) (w : View A) (part : Part) (row cells : List A) (i j y : ℕ) → part.column + part.width ≤ w.place.width → y ≡ part.row + j → row ≡ take (y * w.place.width + w.place.width - y * w.place.width) (drop (y * w.place.width) w.cells)
    → cells ≡ take (part.column + part.width - part.column) (drop part.column row) → i < part.width → level (get_or cells i d) ≡ level_in_part level d w part i j
part_level level d w part row cells i j y across y-is row-is cells-is lt =
    let width = w.place.width in
    ap (λ (l : List _). level (get_or l i d)) cells-is
    ∙ ap level (get_or-take (part.column + part.width - part.column) (drop part.column row) i d (omega arith) ∙ get_or-drop part.column row i d)
    ∙ ap (λ (l : List _). level (get_or l (part.column + i) d)) row-is
    ∙ ap level (get_or-take (y * width + width - y * width) (drop (y * width) w.cells) (part.column + i) d (omega arith) ∙ get_or-drop (y * width) w.cells (part.column + i) d)
    ∙ ap (λ (n : ℕ). level (get_or w.cells (n * width + (part.column + i)) d)) y-is

-- all that is known of a part's numbers
pub are_numbers : {A : Type 0} (level : A → ℕ) (d : A) (words : List ℕ) (levels : List A) (w : View A) (part : Part) (numbers : List ℕ) → bit_in words 0 ≡ 1 → IsBack level words levels 0 → ((i j : ℕ) → i < part.width → j < part.height → bit_in words (level_in_part level d w part i j) ≡ 1)
    → ((i j : ℕ) → i < part.width → j < part.height → IsBack level words levels (level_in_part level d w part i j)) → HasRows (λ n. n) (λ i j. below_in words (level_in_part level d w part i j)) part.width part.height numbers → IsNumbering level d (below_in words) levels w part numbers
are_numbers level d words levels w part numbers lowest zero has back rows = record {
  lowest = refl;
  zero = record { above = λ t lt. below_less words 0 t lowest lt; back = zero };
  size = rows.size;
  each = λ i j across down. rows.made i j 0 across down;
  numbered = λ i j across down. record { above = λ t lt. below_less words (level_in_part level d w part i j) t (has i j across down) lt; back = back i j across down };
}

-- in a list of the lowest level alone, that level stands at number 0
pub lowest_everywhere : {A : Type 0} (level : A → ℕ) (n : ℕ) (a : A) (levels : List A) → levels ≡ replicate n a → level a ≡ 0 → 0 < n → (d : A) → level (get_or levels 0 d) ≡ 0
lowest_everywhere level n a levels is lowest some d = ap (λ (l : List _). level (get_or l 0 d)) is ∙ ap level (get_or-replicate n 0 a d some) ∙ lowest

-- all numbers of a part are below the count
pub numbers_within : (words before : List ℕ) (count w h : ℕ) (value : ℕ → ℕ → ℕ) (numbers : List ℕ) → length words ≡ 1024 → IsSummed words before count → ((i j : ℕ) → i < w → j < h → bit_in words (value i j) ≡ 1) → HasRows (λ n. n) (λ i j. below_in words (value i j)) w h numbers → (p : ℕ) → p < length numbers
    → get_or numbers p 0 < count
numbers_within words before count w h value numbers size summed has rows p lt =
    let inside : p < h * w = omega (arith, lt, rows.size) in
    let some = factor-positive p h w inside in
    let across = mod_below p w some in
    let down = div_below p w h some inside in
    let here : get_or numbers p 0 ≡ below_in words (value (p % w) (p / w)) = ap (λ (q : ℕ). get_or numbers q 0) (sym (div-add-mod' p w)) ∙ rows.made (p % w) (p / w) 0 across down in
    let set = has (p % w) (p / w) across down in
    number_inside words before count (value (p % w) (p / w)) (get_or numbers p 0) count summed refl (bit_small words (value (p % w) (p / w)) size set) set here
