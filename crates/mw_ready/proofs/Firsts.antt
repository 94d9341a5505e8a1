-- How many tasks a task reads.
use Rattle.std.proofs.Common.{◌≡◌, ◌≢◌, ℕ, zero, suc, ◌+◌, ◌-◌, ◌*◌, ◌/◌, ◌%◌, ◌<◌, ◌≤◌, ◌^◌, Bool, false, ◌&&◌, nat_eq, nat_lt, Option, Some, None, List, length, refl, ap, sym, ◌∙◌, arith, inl, inr, get_or}
use Rattle.std.proofs.Math.Nat.{mul-le-mul_left}
use Rattle.std.proofs.lemmas.Bool.{cases_lt, cases_eq, lt-ltb, le-ltb}
use Rattle.std.proofs.lemmas.List.{get_or_past}
use Rattle.std.proofs.lemmas.Nat.{div-mul-add, mod-mul-add, mod_below, le-div}
use Rattle.mw_model.proofs.mw_facts.Counts.{count_by-most}
use Rattle.mw_model.specs.declared.offsets.Reach.{Reach}
use Rattle.mw_grid.specs.Counts.{bit, count_below}
use Rattle.mw_grid.specs.Grids.{Tiling, tile_count}
use Rattle.mw_grid.specs.Blocks.{sees}
use Rattle.mw_grid.proofs.Counts.{count-product, count-next, count-none, bit-at, bit-other}
use Rattle.mw_ready.specs.declared.need.Need.{Need}
use Rattle.mw_grid.proofs.Tiles.{some_tiles}
use Rattle.mw_ready.specs.declared.spans.Spans.{Spans}
use Rattle.mw_ready.specs.Boards.{is_source, step_on_grid, step_reads, reads_by_needs, need_of, no_need}
use Rattle.mw_ready.specs.Counters.{Raises}
use Rattle.mw_ready.specs.Kept.{read_count}
use Rattle.mw_ready.specs.Spans.{AreSpans, tiles_spanned}
use Rattle.mw_ready.proofs.Numbers.{product_small}
use Rattle.mw_ready.proofs.Raising.{step_below}

-- the tasks that a task of step k reads
pub read_count-is : (needs : List Need) (need : Need) (g : Tiling) (n k tile t steps tiles : ℕ) → get_or needs k no_need ≡ need → tile < tile_count g → t ≡ k * tile_count g + tile
    → steps ≡ count_below (step_reads need) n → tiles ≡ count_below (sees g need.reach tile) (tile_count g)
    → steps * tiles ≡ read_count needs g (n * tile_count g) t
read_count-is needs need g n k tile t steps tiles is lt t-is steps-is tiles-is =
    let at : step_on_grid g t ≡ k = ap (λ (j : ℕ). j / tile_count g) t-is ∙ div-mul-add k (tile_count g) tile lt in
    let here : t % tile_count g ≡ tile = ap (λ (j : ℕ). j % tile_count g) t-is ∙ mod-mul-add k (tile_count g) tile lt in
    let own : need_of needs g t ≡ need = ap (λ (j : ℕ). get_or needs j no_need) at ∙ is in
    ap (λ (a : ℕ). a * tiles) steps-is
    ∙ ap (λ (b : ℕ). count_below (step_reads need) n * b) tiles-is
    ∙ sym (count-product (step_reads need) (sees g need.reach tile) n (tile_count g))
    ∙ ap (λ (m : Need). count_below (λ u. step_reads m (u / tile_count g) && sees g m.reach tile (u % tile_count g)) (n * tile_count g)) (sym own)
    ∙ ap (λ (m : ℕ). count_below (λ u. step_reads (need_of needs g t) (u / tile_count g) && sees g (need_of needs g t).reach m (u % tile_count g)) (n * tile_count g)) (sym here)

-- the tasks of the first k steps have their numbers, and the others have none yet
pub record CountsWaits (needs : List Need) (g : Tiling) (n k : ℕ) (waits : List ℕ) : Type 0 where
  pub size : length waits ≡ n * tile_count g
  pub each : (t : ℕ) → t < k * tile_count g → get_or waits t 0 ≡ read_count needs g (n * tile_count g) t
  pub rest : (t : ℕ) → k * tile_count g ≤ t → get_or waits t 0 ≡ 0

-- no number is over that of the tasks
pub waits-most : (needs : List Need) (g : Tiling) (n k t : ℕ) (waits : List ℕ) → CountsWaits needs g n k waits → get_or waits t 0 ≤ n * tile_count g
waits-most needs g n k t waits counts = elim (cases_lt t (k * tile_count g)) [
  | inl less ↦ omega (arith, counts.each t less, count_by-most (λ u. reads_by_needs needs g t u) (n * tile_count g))
  | inr rest ↦ omega (arith, counts.rest t rest)
]

-- there is room for the numbers of a step
pub waits-room : (g : Tiling) (reach : Reach) (s : Spans) (n steps u : ℕ) → n ≤ 65535 → steps ≤ n → tile_count g ≤ 16384 → AreSpans g s (λ tile. count_below (sees g reach tile) (tile_count g))
    → n * tile_count g + steps * tiles_spanned g s (u % tile_count g) < 2 ^ 32
waits-room g reach s n steps u few le small spans =
    let met : tiles_spanned g s (u % tile_count g) ≤ 16384 = omega (arith, spans.each (u % tile_count g) (mod_below u (tile_count g) (some_tiles g)), count_by-most (sees g reach (u % tile_count g)) (tile_count g)) in
    omega (arith, product_small n (tile_count g) few small, product_small steps (tiles_spanned g s (u % tile_count g)) (omega arith) met)

-- one step more
pub waits-next : (needs : List Need) (g : Tiling) (s : Spans) (n k steps : ℕ) (old now : List ℕ) → k < n → steps ≡ count_below (step_reads (get_or needs k no_need)) n
    → AreSpans g s (λ tile. count_below (sees g (get_or needs k no_need).reach tile) (tile_count g)) → CountsWaits needs g n k old
    → Raises (λ u. bit (nat_eq k (step_on_grid g u)) * (steps * tiles_spanned g s (u % tile_count g))) old now → CountsWaits needs g n (k + 1) now
waits-next needs g s n k steps old now lt steps-is spans counts raises = record {
  size = raises.size ∙ counts.size;
  each = λ t t-lt. elim (cases_lt t (k * tiles)) [
    | inl less ↦ omega (arith, raises.each t (inside t t-lt), other t (λ e. absurd (omega (arith, e, step_below g k t less))), counts.each t less)
    | inr from ↦
        let tile = t - k * tiles in
        let tile-lt : tile < tiles = omega arith in
        let t-is : t ≡ k * tiles + tile = omega arith in
        let at : step_on_grid g t ≡ k = ap (λ (j : ℕ). j / tiles) t-is ∙ div-mul-add k tiles tile tile-lt in
        let here : t % tiles ≡ tile = ap (λ (j : ℕ). j % tiles) t-is ∙ mod-mul-add k tiles tile tile-lt in
        let now-is : bit (nat_eq k (step_on_grid g t)) * (steps * tiles_spanned g s (t % tiles)) ≡ 1 * (steps * tiles_spanned g s (t % tiles)) = ap (λ (b : ℕ). b * (steps * tiles_spanned g s (t % tiles))) (bit-at k (step_on_grid g t) (sym at)) in
        let met : tiles_spanned g s (t % tiles) ≡ count_below (sees g (get_or needs k no_need).reach tile) tiles = ap (tiles_spanned g s) here ∙ spans.each tile tile-lt in
        let value = read_count-is needs (get_or needs k no_need) g n k tile t steps (tiles_spanned g s (t % tiles)) refl tile-lt t-is steps-is met in
        omega (arith, raises.each t (inside t t-lt), now-is, counts.rest t from, value)
  ];
  rest = λ t from. elim (cases_lt t (length old)) [
    | inl within ↦ omega (arith, raises.each t within, other t (λ e. absurd (omega (arith, e, le-div (k + 1) t tiles (some_tiles g) from))), counts.rest t (omega arith))
    | inr past ↦ get_or_past now t 0 (omega (arith, past, raises.size))
  ];
}
  where
    tiles : ℕ
    tiles = tile_count g

    inside : (t : ℕ) → t < (k + 1) * tiles → t < length old
    inside t t-lt = omega (arith, counts.size, mul-le-mul_left tiles (up k n lt), t-lt)
      where
        up : (k n : ℕ) → k < n → k + 1 ≤ n
        up k n lt = omega arith

    other : (t : ℕ) → k ≢ step_on_grid g t → bit (nat_eq k (step_on_grid g t)) * (steps * tiles_spanned g s (t % tiles)) ≡ 0 * (steps * tiles_spanned g s (t % tiles))
    other t ne = ap (λ (b : ℕ). b * (steps * tiles_spanned g s (t % tiles))) (bit-other k (step_on_grid g t) ne)

-- a step is one number of those below the end, or none
pub count-source : (x : Option ℕ) (k n : ℕ) → x ≡ Some k → count_below (λ s. is_source s x) n ≡ bit (nat_lt k n)
count-source x k n is = ap (λ (y : Option ℕ). count_below (λ s. is_source s y) n) is ∙ go k n
  where
    go : (k n : ℕ) → count_below (λ s. nat_eq k s) n ≡ bit (nat_lt k n)
    go k zero = sym (ap bit (le-ltb k 0 (omega arith)))
    go k (suc n) = count-next (λ s. nat_eq k s) n ∙ elim (cases_lt k n) [
      | inl less ↦ (let before = go k n in omega (arith, ap bit (lt-ltb k n less), ap bit (lt-ltb k (suc n) (omega arith)), bit-other k n (λ e. absurd (omega arith))))
      | inr past ↦ elim (cases_eq k n) [
        | inl here ↦ (let before = go k n in omega (arith, ap bit (le-ltb k n past), ap bit (lt-ltb k (suc n) (omega arith)), bit-at k n here))
        | inr beyond ↦ (let before = go k n in omega (arith, ap bit (le-ltb k n past), ap bit (le-ltb k (suc n) (above n k past beyond)), bit-other k n beyond))
      ]
    ]
      where
        above : (n k : ℕ) → n ≤ k → k ≢ n → suc n ≤ k
        above n k le ne = omega arith

pub count-no_source : (x : Option ℕ) (n : ℕ) → x ≡ None → count_below (λ s. is_source s x) n ≡ 0
count-no_source x n is = ap (λ (y : Option ℕ). count_below (λ s. is_source s y) n) is ∙ count-none (λ s. false) n (λ s lt. refl)

-- a test that is one of three
pub count-three : (p a b c : ℕ → Bool) (n : ℕ) → ((s : ℕ) → bit (a s) + bit (b s) + bit (c s) ≡ bit (p s)) → count_below a n + count_below b n + count_below c n ≡ count_below p n
count-three p a b c zero bits = refl
count-three p a b c (suc n) bits = omega (arith, count-three p a b c n bits, count-next p n, count-next a n, count-next b n, count-next c n, bits n)
