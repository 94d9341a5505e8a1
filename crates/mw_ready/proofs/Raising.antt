-- Raising and lowering the counters of readers, source by source.
use Rattle.std.proofs.Common.{◌≡◌, ℕ, ◌+◌, ◌*◌, ◌/◌, ◌%◌, ◌<◌, ◌≤◌, Bool, true, false, ◌&&◌, nat_eq, List, Option, Some, length, subst, refl, ap, sym, ◌∙◌, arith, inl, inr, get_or}
use Rattle.std.proofs.Math.Bool.{and-true, and-false}
use Rattle.std.proofs.Math.Nat.{mul-le-mul_left}
use Rattle.std.proofs.lemmas.Bool.{cases_lt, ne_eqb}
use Rattle.std.proofs.lemmas.Nat.{div-mul-add, mod-mul-add, mod_below}
use Rattle.mw_model.proofs.mw_facts.Counts.{count_by-same}
use Rattle.mw_model.proofs.mw_facts.Numbers.{one_if-le}
use Rattle.mw_grid.specs.declared.blocks.Block.{Block}
use Rattle.mw_grid.specs.Blocks.{sees, in_block}
use Rattle.mw_grid.specs.Counts.{bit, in_range}
use Rattle.mw_grid.specs.Grids.{Tiling, tile_count}
use Rattle.mw_grid.proofs.Meeting.{row_is}
use Rattle.mw_grid.proofs.Counts.{in-yes, in-low, in-high, count-add, count-if}
use Rattle.mw_grid.proofs.Lines.{row_less}
use Rattle.mw_ready.specs.declared.need.Need.{Need}
use Rattle.mw_ready.specs.Boards.{is_source, step_on_grid, step_reads, reads_by_needs, no_need}
use Rattle.mw_ready.specs.Kept.{reader_count, seen_by, takes}
use Rattle.mw_ready.specs.Counters.{Lowers, Raises, NoneIsZero}
use Rattle.mw_grid.proofs.Counts.{bit_true}
use Rattle.mw_ready.proofs.Boxes.{boxes_fit}
use Rattle.mw_ready.proofs.Lowering.{lowers_same, counted_same}
use Rattle.mw_ready.proofs.Numbers.{eq_swap}

-- a task of a table has one of its steps
pub step_below : (g : Tiling) (n u : ℕ) → u < n * tile_count g → step_on_grid g u < n
step_below g n u lt = row_less n (tile_count g) u (some u n (tile_count g) lt) lt
  where
    some : (t n m : ℕ) → t < n * m → 0 < m
    some t n m lt = grind arith

-- past the last step nothing is a source
pub not_source : (g : Tiling) (n k u : ℕ) → n ≤ k → u < n * tile_count g → nat_eq k (step_on_grid g u) ≡ false
not_source g n k u le lt = ne_eqb k (step_on_grid g u) (λ e. absurd (let s = step_below g n u lt in omega arith))

pub raises_none : (more : ℕ → ℕ) (xs : List ℕ) → ((u : ℕ) → u < length xs → more u ≡ 0) → Raises more xs xs
raises_none more xs none = record { size = refl; each = λ u lt. let e = none u lt in omega arith }

pub lowers_none : (here : ℕ → Bool) (xs : List ℕ) → ((u : ℕ) → u < length xs → here u ≡ false) → Lowers here xs xs
lowers_none here xs none = record { size = refl; each = λ u lt. let e : bit (here u) ≡ 0 = ap bit (none u lt) in omega arith }

pub raises_same : (more other : ℕ → ℕ) (old now : List ℕ) → ((u : ℕ) → more u ≡ other u) → Raises more old now → Raises other old now
raises_same more other old now same raises = record { size = raises.size; each = λ u lt. let e = same u in let r = raises.each u lt in omega arith }

-- no place of an empty row is raised
pub raises_empty : (f : ℕ → ℕ) (a b : ℕ) (xs : List ℕ) → b ≤ a → Raises (λ u. bit (in_range a b u) * f u) xs xs
raises_empty f a b xs le = raises_none (λ u. bit (in_range a b u) * f u) xs (λ u lt. elim (cases_lt u a) [
  | inl low ↦ ap (λ (v : Bool). bit v * f u) (in-low a b u low) ∙ none (f u)
  | inr high ↦ ap (λ (v : Bool). bit v * f u) (in-high a b u (omega (arith, high))) ∙ none (f u)
])
  where
    none : (k : ℕ) → 0 * k ≡ 0
    none k = omega arith

-- the places behind those that were raised are raised too, by the same numbers
pub raises_join : (f h : ℕ → ℕ) (a b c : ℕ) (old now out : List ℕ) → a ≤ b → b ≤ c → ((u : ℕ) → b ≤ u → u < c → h u ≡ f u)
    → Raises (λ u. bit (in_range a b u) * f u) old now → Raises (λ u. bit (in_range b c u) * h u) now out → Raises (λ u. bit (in_range a c u) * f u) old out
raises_join f h a b c old now out ab bc same first second = record {
  size = second.size ∙ first.size;
  each = λ u lt.
      let size = first.size in
      let p = first.each u lt in
      let q = second.each u (omega arith) in
      let was : Bool → ℕ = λ v. bit v * f u in
      let more : Bool → ℕ = λ v. bit v * h u in
      elim (cases_lt u b) [
        | inl before ↦
            let z : bit (in_range b c u) * h u ≡ 0 * h u = ap more (in-low b c u before) in
            elim (cases_lt u a) [
              | inl low ↦
                  let x : bit (in_range a b u) * f u ≡ 0 * f u = ap was (in-low a b u low) in
                  let y : bit (in_range a c u) * f u ≡ 0 * f u = ap was (in-low a c u low) in
                  omega arith
              | inr from ↦
                  let x : bit (in_range a b u) * f u ≡ 1 * f u = ap was (in-yes a b u from before) in
                  let y : bit (in_range a c u) * f u ≡ 1 * f u = ap was (in-yes a c u from (omega arith)) in
                  omega arith
            ]
        | inr past ↦
            let x : bit (in_range a b u) * f u ≡ 0 * f u = ap was (in-high a b u past) in
            elim (cases_lt u c) [
              | inl within ↦
                  let y : bit (in_range a c u) * f u ≡ 1 * f u = ap was (in-yes a c u (omega arith) within) in
                  let z : bit (in_range b c u) * h u ≡ 1 * h u = ap more (in-yes b c u past within) in
                  let e = same u past within in
                  omega arith
              | inr high ↦
                  let y : bit (in_range a c u) * f u ≡ 0 * f u = ap was (in-high a c u high) in
                  let z : bit (in_range b c u) * h u ≡ 0 * h u = ap more (in-high b c u high) in
                  omega arith
            ]
      ];
}

-- the tasks of a step stand in a row
pub in_step : (k n u : ℕ) → 0 < n → in_range (k * n) (k * n + n) u ≡ nat_eq k (u / n)
in_step k n u some =
    ap (λ (m : ℕ). in_range m (k * n + n) u) (back (k * n))
    ∙ row_is n k 0 n u some (omega arith)
    ∙ ap (λ (v : Bool). nat_eq (u / n) k && v) (in-yes 0 n (u % n) (omega arith) (omega arith))
    ∙ and-true (nat_eq (u / n) k)
    ∙ eq_swap (u / n) k
  where
    back : (a : ℕ) → a ≡ a + 0
    back a = omega arith

-- three amounts, one after another
pub raises_three : (f : ℕ → ℕ) (a b c d : ℕ → Bool) (old x y now : List ℕ) → ((u : ℕ) → bit (a u) + bit (b u) + bit (c u) ≡ bit (d u))
    → Raises (λ u. bit (a u) * f u) old x → Raises (λ u. bit (b u) * f u) x y → Raises (λ u. bit (c u) * f u) y now → Raises (λ u. bit (d u) * f u) old now
raises_three f a b c d old x y now bits p q r = record {
  size = r.size ∙ q.size ∙ p.size;
  each = λ u lt.
      let s = p.size in
      let t = q.size in
      omega (arith, p.each u lt, q.each u (omega arith), r.each u (omega arith), ap (λ (k : ℕ). k * f u) (bits u), share (bit (a u)) (bit (b u)) (bit (c u)) (f u));
}
  where
    share : (x y z w : ℕ) → (x + y + z) * w ≡ x * w + y * w + z * w
    share x y z w = omega arith

bit_mul_le : (b : Bool) (k : ℕ) → bit b * k ≤ k
bit_mul_le true k = omega arith
bit_mul_le false k = omega arith

-- no counter is raised by more than one of the numbers
pub raised_most : (f : ℕ → ℕ) (p : ℕ → Bool) (old now : List ℕ) (u most : ℕ) → Raises (λ u. bit (p u) * f u) old now → u < length old → f u ≤ most → get_or now u 0 ≤ get_or old u 0 + most
raised_most f p old now u most raises lt le = omega (arith, raises.each u lt, bit_mul_le (p u) (f u), le)

-- what the task of a step and a tile reads
pub reads_takes : (needs : List Need) (need : Need) (g : Tiling) (k tile u : ℕ) → tile < tile_count g → get_or needs k no_need ≡ need → reads_by_needs needs g (k * tile_count g + tile) u ≡ takes need g tile u
reads_takes needs need g k tile u lt is =
    ap (λ (s : ℕ). takes (get_or needs s no_need) g ((k * tile_count g + tile) % tile_count g) u) (div-mul-add k (tile_count g) tile lt)
    ∙ ap (λ (m : ℕ). takes (get_or needs k no_need) g m u) (mod-mul-add k (tile_count g) tile lt)
    ∙ ap (λ (n : Need). takes n g tile u) is

-- the readers of one step more
pub readers_next : (needs : List Need) (need : Need) (g : Tiling) (k u : ℕ) → get_or needs k no_need ≡ need
    → reader_count needs g ((k + 1) * tile_count g) u ≡ reader_count needs g (k * tile_count g) u + bit (step_reads need (step_on_grid g u)) * seen_by g need.reach (u % tile_count g)
readers_next needs need g k u is =
    ap (reader_count_to) (row k (tile_count g))
    ∙ count-add (λ t. reads_by_needs needs g t u) (k * tile_count g) (tile_count g)
    ∙ ap (λ (n : ℕ). reader_count needs g (k * tile_count g) u + n) (count_by-same (λ w. reads_by_needs needs g (k * tile_count g + w) u) (λ w. step_reads need (step_on_grid g u) && sees g need.reach w (u % tile_count g)) (tile_count g) (λ w lt. one w lt))
    ∙ ap (λ (n : ℕ). reader_count needs g (k * tile_count g) u + n) (count-if (step_reads need (step_on_grid g u)) (λ w. sees g need.reach w (u % tile_count g)) (tile_count g))
  where
    reader_count_to : ℕ → ℕ
    reader_count_to n = reader_count needs g n u

    row : (k n : ℕ) → (k + 1) * n ≡ k * n + n
    row k n = omega arith

    one : (w : ℕ) → w < tile_count g → reads_by_needs needs g (k * tile_count g + w) u ≡ step_reads need (step_on_grid g u) && sees g need.reach w (u % tile_count g)
    one w lt = reads_takes needs need g k w u lt is

-- ---- three sources of which each task has one at most

three_bits : (a b c d m : Bool) → bit a + bit b + bit c ≡ bit d → bit (a && m) + bit (b && m) + bit (c && m) ≡ bit (d && m)
three_bits a b c d true e = rw (and-true a, and-true b, and-true c, and-true d) e
three_bits a b c d false e = rw (and-false a, and-false b, and-false c, and-false d) refl

-- a test is one of three where each place has one of them at most
pub record Splits (d a b c : ℕ → Bool) : Type 0 where
  pub each : (u : ℕ) → bit (a u) + bit (b u) + bit (c u) ≡ bit (d u)

pub splits_under : (d a b c m n : ℕ → Bool) → ((u : ℕ) → bit (a u) + bit (b u) + bit (c u) ≡ bit (d u)) → ((u : ℕ) → m u ≡ n u) → Splits (λ u. d u && n u) (λ u. a u && m u) (λ u. b u && m u) (λ u. c u && m u)
splits_under d a b c m n bits same = record { each = λ u. three_bits (a u) (b u) (c u) (d u) (m u) (bits u) ∙ ap (λ (v : Bool). bit (d u && v)) (same u) }

pub counted_first : (d a b c : ℕ → Bool) (old : List ℕ) → Splits d a b c → NoneIsZero d old → NoneIsZero a old
counted_first d a b c old splits counted = λ u lt here. counted u lt (bit_true (d u) (let e = splits.each u in let h : bit (a u) ≡ 1 = ap bit here in omega arith))

pub counted_second : (d a b c : ℕ → Bool) (old x : List ℕ) → Splits d a b c → NoneIsZero d old → Lowers a old x → NoneIsZero b x
counted_second d a b c old x splits counted lowers = λ u lt here.
    let e = splits.each u in
    let h : bit (b u) ≡ 1 = ap bit here in
    let most = one_if-le (d u) in
    let u-lt : u < length old = let s = lowers.size in omega arith in
    let was = counted u u-lt (bit_true (d u) (omega arith)) in
    let l = lowers.each u u-lt in
    omega arith

pub counted_third : (d a b c : ℕ → Bool) (old x y : List ℕ) → Splits d a b c → NoneIsZero d old → Lowers a old x → Lowers b x y → NoneIsZero c y
counted_third d a b c old x y splits counted first second = λ u lt here.
    let e = splits.each u in
    let h : bit (c u) ≡ 1 = ap bit here in
    let most = one_if-le (d u) in
    let s = first.size in
    let t = second.size in
    let x-lt : u < length x = omega arith in
    let u-lt : u < length old = omega arith in
    let was = counted u u-lt (bit_true (d u) (omega arith)) in
    let l = first.each u u-lt in
    let m = second.each u x-lt in
    omega arith

pub lowers_three : (d a b c : ℕ → Bool) (old x y now : List ℕ) → Splits d a b c → Lowers a old x → Lowers b x y → Lowers c y now → Lowers d old now
lowers_three d a b c old x y now splits p q r = record {
  size = r.size ∙ q.size ∙ p.size;
  each = λ u lt.
      let s = p.size in
      let t = q.size in
      omega (arith, p.each u lt, q.each u (omega arith), r.each u (omega arith), splits.each u);
}

-- the tasks of a source
pub source_is : (g : Tiling) (b shifted : Block) (k t : ℕ) → ((t : ℕ) → in_block g shifted t ≡ nat_eq (step_on_grid g t) k && in_block g b (t % tile_count g))
    → in_block g shifted t ≡ nat_eq k (step_on_grid g t) && in_block g b (t % tile_count g)
source_is g b shifted k t tasks = tasks t ∙ ap (λ (v : Bool). v && in_block g b (t % tile_count g)) (eq_swap (step_on_grid g t) k)

-- the tasks of a source whose tile lies in a block
abbrev pub of_source : Tiling → Block → Option ℕ → ℕ → Bool
of_source g b x u = is_source (step_on_grid g u) x && in_block g b (u % tile_count g)

-- what a task reads is of one of its sources
pub sources_split : (g : Tiling) (need : Need) (b : Block) (tile : ℕ) (x y z : Option ℕ) → 0 < tile_count g → ((s : ℕ) → bit (is_source s x) + bit (is_source s y) + bit (is_source s z) ≡ bit (step_reads need s))
    → ((v : ℕ) → v < tile_count g → in_block g b v ≡ sees g need.reach tile v) → Splits (takes need g tile) (of_source g b x) (of_source g b y) (of_source g b z)
sources_split g need b tile x y z some bits each =
    splits_under (λ u. step_reads need (step_on_grid g u)) (λ u. is_source (step_on_grid g u) x) (λ u. is_source (step_on_grid g u) y) (λ u. is_source (step_on_grid g u) z) (λ u. in_block g b (u % tile_count g)) (λ u. sees g need.reach tile (u % tile_count g))
    (λ u. bits (step_on_grid g u)) (λ u. each (u % tile_count g) (mod_below u (tile_count g) some))

pub source_given : (g : Tiling) (b shifted : Block) (x : Option ℕ) (k : ℕ) (old now : List ℕ) → x ≡ Some k → ((t : ℕ) → in_block g shifted t ≡ nat_eq (step_on_grid g t) k && in_block g b (t % tile_count g)) → Lowers (in_block g shifted) old now
    → Lowers (of_source g b x) old now
source_given g b shifted x k old now is tasks lowers =
    subst (λ (y : Option ℕ). Lowers (of_source g b y) old now) (sym is) (lowers_same (in_block g shifted) (of_source g b (Some k)) old now (λ t. source_is g b shifted k t tasks) lowers)

pub source_counted : (g : Tiling) (b shifted : Block) (x : Option ℕ) (k : ℕ) (counts : List ℕ) → x ≡ Some k → ((t : ℕ) → in_block g shifted t ≡ nat_eq (step_on_grid g t) k && in_block g b (t % tile_count g)) → NoneIsZero (of_source g b x) counts
    → NoneIsZero (in_block g shifted) counts
source_counted g b shifted x k counts is tasks counted =
    counted_same (in_block g shifted) (of_source g b (Some k)) counts (λ t. source_is g b shifted k t tasks) (subst (λ (y : Option ℕ). NoneIsZero (of_source g b y) counts) is counted)

-- a source that is no step
pub no_source : (g : Tiling) (b : Block) (x : Option ℕ) (n k : ℕ) (counts : List ℕ) → x ≡ Some k → n ≤ k → length counts ≡ n * tile_count g → Lowers (of_source g b x) counts counts
no_source g b x n k counts is le size = lowers_none (of_source g b x) counts (λ u lt.
    ap (λ (y : Option ℕ). of_source g b y u) is
    ∙ ap (λ (v : Bool). v && in_block g b (u % tile_count g)) (not_source g n k u le (omega arith)))

pub no_raise : (g : Tiling) (f : ℕ → ℕ) (x : Option ℕ) (n k : ℕ) (counts : List ℕ) → x ≡ Some k → n ≤ k → length counts ≡ n * tile_count g → Raises (λ u. bit (is_source (step_on_grid g u) x) * f u) counts counts
no_raise g f x n k counts is le size = raises_none (λ u. bit (is_source (step_on_grid g u) x) * f u) counts (λ u lt.
    ap (λ (y : Option ℕ). bit (is_source (step_on_grid g u) y) * f u) is
    ∙ ap (λ (v : Bool). bit v * f u) (not_source g n k u le (omega arith))
    ∙ none (f u))
  where
    none : (k : ℕ) → 0 * k ≡ 0
    none k = omega arith

-- room for a step and for a block of it
pub step_fits : (k n tiles size : ℕ) → k < n → size ≡ n * tiles → k * tiles + tiles ≤ size
step_fits k n tiles size lt is =
    let up : k + 1 ≤ n = omega arith in
    omega (arith, mul-le-mul_left tiles up)

pub block_fits : (bottom k n rows columns size : ℕ) → bottom ≤ k * rows + rows → k < n → size ≡ n * (rows * columns) → bottom * columns ≤ size
block_fits bottom k n rows columns size le lt is =
    let up : columns * bottom ≤ columns * (k * rows + rows) = mul-le-mul_left columns le in
    omega (arith, boxes_fit k n rows columns lt)

-- the tasks of a source that is a step are raised once
pub raises_once : (g : Tiling) (f : ℕ → ℕ) (x : Option ℕ) (k : ℕ) (old now : List ℕ) → x ≡ Some k → Raises (λ u. bit (nat_eq k (step_on_grid g u)) * (1 * f u)) old now → Raises (λ u. bit (is_source (step_on_grid g u) x) * f u) old now
raises_once g f x k old now is raises =
    raises_same (λ u. bit (nat_eq k (step_on_grid g u)) * (1 * f u)) (λ u. bit (is_source (step_on_grid g u) x) * f u) old now
    (λ u. ap (λ (n : ℕ). bit (nat_eq k (step_on_grid g u)) * n) (once (f u)) ∙ ap (λ (y : Option ℕ). bit (is_source (step_on_grid g u) y) * f u) (sym is)) raises
  where
    once : (k : ℕ) → 1 * k ≡ k
    once k = omega arith
