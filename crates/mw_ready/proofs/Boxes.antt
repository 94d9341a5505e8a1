-- The tasks that read a tile stand in a block of each step.
use Rattle.std.proofs.Common.{◌≡◌, ℕ, ◌+◌, ◌*◌, ◌%◌, ◌<◌, ◌≤◌, Bool, true, false, ◌&&◌, List, nat_eq, refl, ap, ◌∙◌, arith, get_or, length, inl, inr}
use Rattle.std.proofs.Math.Bool.{and-false}
use Rattle.std.proofs.Math.Nat.{mul-le-mul_left}
use Rattle.std.proofs.lemmas.Bool.{cases_eq, cases_lt, ne_eqb, and_parts, eqb-true}
use Rattle.std.proofs.lemmas.Nat.{mod_below}
use Rattle.mw_model.specs.Rectangles.{grown}
use Rattle.mw_model.specs.Tasks.{flag, meets}
use Rattle.mw_grid.specs.Counts.{bit, in_range}
use Rattle.mw_grid.specs.Grids.{Tiling, tile_count, tile_at}
use Rattle.mw_grid.specs.declared.blocks.Block.{Block}
use Rattle.mw_grid.specs.Blocks.{in_block}
use Rattle.mw_grid.proofs.Counts.{in-high, in-yes}
use Rattle.mw_grid.proofs.Lines.{row_less}
use Rattle.mw_ready.specs.declared.need.Need.{Need}
use Rattle.mw_ready.specs.Boards.{step_on_grid, tile_on_grid, step_reads, reads_tile, need_of, no_need}
use Rattle.mw_ready.specs.Kept.{is_near}
use Rattle.mw_ready_queue.specs.Queues.{Queued}
use Rattle.mw_ready.specs.Counters.{AreWaiting, Lowers}
use Rattle.mw_ready.specs.Links.{Skips}
use Rattle.mw_ready.proofs.Lowering.{and_bits, range_more, lowers_more, lowers_same}

-- a block of a step by what its tiles are
pub at_step_is : (g : Tiling) (b shifted : Block) (q : ℕ → Bool) (k t : ℕ) → 0 < tile_count g → ((t : ℕ) → in_block g shifted t ≡ nat_eq (step_on_grid g t) k && in_block g b (t % tile_count g))
    → ((v : ℕ) → v < tile_count g → in_block g b v ≡ q v) → in_block g shifted t ≡ nat_eq (step_on_grid g t) k && q (t % tile_count g)
at_step_is g b shifted q k t some tasks each = tasks t ∙ ap (λ (v : Bool). nat_eq (step_on_grid g t) k && v) (each (t % tile_count g) (mod_below t (tile_count g) some))

-- what a task of step k reads, where that step has this need
reads_as : (needs : List Need) (need : Need) (g : Tiling) (k step tile t : ℕ) → step_on_grid g t ≡ k → get_or needs k no_need ≡ need
    → reads_tile needs g t step tile ≡ step_reads need step && meets (grown g.width g.height need.reach (tile_on_grid g t)) (tile_at g tile)
reads_as needs need g k step tile t at is =
    let e : need_of needs g t ≡ need = ap (λ (j : ℕ). get_or needs j no_need) at ∙ is in
    ap (λ (n : Need). step_reads n step && meets (grown g.width g.height n.reach (tile_on_grid g t)) (tile_at g tile)) e

-- step k is a reader: what it adds is what comes near
step_yes : (needs : List Need) (need : Need) (g : Tiling) (k step tile t : ℕ) → get_or needs k no_need ≡ need → step_reads need step ≡ true
    → nat_eq (step_on_grid g t) k && reads_tile needs g t step tile ≡ is_near g need.reach k tile t
step_yes needs need g k step tile t is so =
    elim (cases_eq (step_on_grid g t) k) [
      | inl at ↦ rw (reads_as needs need g k step tile t at is, so) refl
      | inr other ↦ rw (ne_eqb (step_on_grid g t) k other) refl
    ]

step_not : (needs : List Need) (need : Need) (g : Tiling) (k step tile t : ℕ) → get_or needs k no_need ≡ need → step_reads need step ≡ false
    → nat_eq (step_on_grid g t) k && reads_tile needs g t step tile ≡ false
step_not needs need g k step tile t is not_so =
    elim (cases_eq (step_on_grid g t) k) [
      | inl at ↦ rw (reads_as needs need g k step tile t at is, not_so) (and-false (nat_eq (step_on_grid g t) k))
      | inr other ↦ rw (ne_eqb (step_on_grid g t) k other) refl
    ]

more_bits : (k s : ℕ) (b : Bool) → bit (in_range 0 (k + 1) s && b) ≡ bit (in_range 0 k s && b) + bit (nat_eq s k && b)
more_bits k s b = and_bits (in_range 0 (k + 1) s) (in_range 0 k s) (nat_eq s k) b (range_more 0 k s (omega arith))

-- the readers of a tile in the first k steps
abbrev pub readers : List Need → Tiling → ℕ → ℕ → ℕ → ℕ → Bool
readers needs g step tile k t = in_range 0 k (step_on_grid g t) && reads_tile needs g t step tile

-- the tasks of one step more are lowered
pub lowers_step : (needs : List Need) (need : Need) (g : Tiling) (k step tile : ℕ) (old now out : List ℕ) → get_or needs k no_need ≡ need → step_reads need step ≡ true
    → Lowers (readers needs g step tile k) old now → Lowers (is_near g need.reach k tile) now out → Lowers (readers needs g step tile (k + 1)) old out
lowers_step needs need g k step tile old now out is so before after =
    lowers_more (readers needs g step tile k) (is_near g need.reach k tile) (readers needs g step tile (k + 1)) old now out
    (λ x. more_bits k (step_on_grid g x) (reads_tile needs g x step tile) ∙ ap (λ (b : Bool). bit (readers needs g step tile k x) + bit b) (step_yes needs need g k step tile x is so)) before after

pub lowers_skip : (needs : List Need) (need : Need) (g : Tiling) (k step tile : ℕ) (old now : List ℕ) → get_or needs k no_need ≡ need → step_reads need step ≡ false
    → Lowers (readers needs g step tile k) old now → Lowers (readers needs g step tile (k + 1)) old now
lowers_skip needs need g k step tile old now is not_so before =
    record { size = before.size; each = λ t lt. omega (arith, before.each t lt, more_bits k (step_on_grid g t) (reads_tile needs g t step tile), ap bit (step_not needs need g k step tile t is not_so)) }

-- the tasks of the next step still wait
pub step_waits : (needs : List Need) (need : Need) (g : Tiling) (k step tile : ℕ) (old now : Queued) → get_or needs k no_need ≡ need → step_reads need step ≡ true → now.started ≡ old.started
    → AreWaiting (λ t. reads_tile needs g t step tile) old → Lowers (readers needs g step tile k) old.waiting now.waiting → AreWaiting (is_near g need.reach k tile) now
step_waits needs need g k step tile old now is so started waiting lowers = λ t lt here.
    let both = and_parts (nat_eq (step_on_grid g t) k) (reads_tile needs g t step tile) (step_yes needs need g k step tile t is so ∙ here) in
    let at : step_on_grid g t ≡ k = eqb-true (step_on_grid g t) k both.0 in
    let t-lt : t < length old.waiting = let e = lowers.size in omega arith in
    let was = waiting t t-lt both.1 in
    let not_yet : bit (readers needs g step tile k t) ≡ 0 = rw (in-high 0 k (step_on_grid g t) (omega arith)) refl in
    (omega (arith, lowers.each t t-lt, was.0), ap (λ (xs : List Bool). flag xs t) started ∙ was.1)

-- at the end every step has been looked at
pub lowers_all_given : (needs : List Need) (g : Tiling) (n k step tile : ℕ) (old now : List ℕ) → n ≤ k → length old ≡ n * tile_count g → Lowers (readers needs g step tile k) old now → Lowers (λ t. reads_tile needs g t step tile) old now
lowers_all_given needs g n k step tile old now le size lowers =
    record {
      size = lowers.size;
      each = λ t lt.
          let s : step_on_grid g t < n = row_less n (tile_count g) t (some t n (tile_count g) (omega arith)) (omega arith) in
          let all : readers needs g step tile k t ≡ reads_tile needs g t step tile = rw (in-yes 0 k (step_on_grid g t) (omega arith) (omega arith)) refl in
          omega (arith, lowers.each t lt, ap bit all);
    }
  where
    some : (t n m : ℕ) → t < n * m → 0 < m
    some t n m lt = grind arith

-- steps that do not read are passed
pub lowers_past : (needs : List Need) (g : Tiling) (k next step tile : ℕ) (old now : List ℕ) → Skips needs step k next → Lowers (readers needs g step tile k) old now → Lowers (readers needs g step tile next) old now
lowers_past needs g k next step tile old now skips lowers = lowers_same (readers needs g step tile k) (readers needs g step tile next) old now same lowers
  where
    same : (t : ℕ) → readers needs g step tile k t ≡ readers needs g step tile next t
    same t = elim (cases_lt (step_on_grid g t) k) [
      | inl before ↦ rw (in-yes 0 k (step_on_grid g t) (omega arith) before, in-yes 0 next (step_on_grid g t) (omega arith) (omega (arith, skips.ordered))) refl
      | inr from ↦ elim (cases_lt (step_on_grid g t) next) [
        | inl between ↦ rw (in-high 0 k (step_on_grid g t) from, in-yes 0 next (step_on_grid g t) (omega arith) between, skips.none (step_on_grid g t) from between) refl
        | inr behind ↦ rw (in-high 0 k (step_on_grid g t) from, in-high 0 next (step_on_grid g t) behind) refl
      ]
    ]

-- before the first reader nothing is lowered
pub lowers_none : (needs : List Need) (g : Tiling) (first step tile : ℕ) (counts : List ℕ) → Skips needs step 0 first → Lowers (readers needs g step tile first) counts counts
lowers_none needs g first step tile counts skips = lowers_past needs g 0 first step tile counts counts skips (record {
  size = refl;
  each = λ t lt. let none : bit (readers needs g step tile 0 t) ≡ 0 = rw (in-high 0 0 (step_on_grid g t) (omega arith)) refl in omega arith;
})

pub boxes_fit : (k n rows columns : ℕ) → k < n → (k * rows + rows) * columns ≤ n * (rows * columns)
boxes_fit k n rows columns lt =
    let up : k + 1 ≤ n = omega arith in
    let a : k * rows + rows ≤ n * rows = omega (arith, mul-le-mul_left rows up) in
    let b : columns * (k * rows + rows) ≤ columns * (n * rows) = mul-le-mul_left columns a in
    omega (arith, front k rows columns, grouped n rows columns)
  where
    front : (k rows columns : ℕ) → columns * (k * rows + rows) ≡ (k * rows + rows) * columns
    front k rows columns = grind arith

    grouped : (n rows columns : ℕ) → columns * (n * rows) ≡ n * (rows * columns)
    grouped n rows columns = grind arith
