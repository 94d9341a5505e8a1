-- Blocks that are written one run after another, and what they show in the end.
use Rattle.std.proofs.Common.{◌≡◌, ◌⊎◌, ℕ, ◌+◌, ◌-◌, ◌*◌, ◌/◌, ◌%◌, ◌<◌, ◌≤◌, ap, sym, refl, arith, ◌∙◌, inl, inr, subst}
use Rattle.std.proofs.lemmas.Bool.{cases_lt}
use Rattle.std.proofs.lemmas.Nat.{mul-add-lt, div-mul-add, mod-mul-add}
use Rattle.mw_model.specs.declared.offsets.Rect.{Rect}
use Rattle.mw_model.specs.Rectangles.{Holds}
use Rattle.mw_tile.proofs.Rows.{run_fits}
use Rattle.mw_tile_pieces.specs.Patches.{overlap_of}
use Rattle.mw_tile_pieces.specs.declared.blocks.Block.{Block}
use Rattle.mw_tile_pieces.specs.Blocks.{block, block_at, BlockFits, IsCommon, IsPasted, CopiesRun}

-- a place has one row and one column
same_row : (w j i q c : ℕ) → i < w → c < w → j * w + i ≡ q * w + c → j ≡ q
same_row w j i q c lt less e = sym (div-mul-add j w i lt) ∙ ap (λ (t : ℕ). t / w) e ∙ div-mul-add q w c less

same_column : (w j i q c : ℕ) → i < w → c < w → j * w + i ≡ q * w + c → i ≡ c
same_column w j i q c lt less e = sym (mod-mul-add j w i lt) ∙ ap (λ (t : ℕ). t % w) e ∙ mod-mul-add q w c less

group : (a b c : ℕ) → a + (b + c) ≡ a + b + c
group a b c = omega arith

-- ---- row by row

-- the first rows of a block
abbrev pub upper : Block → ℕ → Block
upper b n = block b.start b.wide b.first b.own b.width n

pub pasted_no_row : {B : Type 0} (b : Block) (old from : ℕ → B) → IsPasted (upper b 0) old old from
pasted_no_row b old from = record { inside = λ i j lt less. absurd (omega arith); outside = λ p none. refl }

pub pasted_down : {B : Type 0} (b : Block) (n : ℕ) (old now next from : ℕ → B) → b.width ≤ b.wide → CopiesRun now next from (b.start + n * b.wide) (b.first + n * b.own) b.width → IsPasted (upper b n) old now from → IsPasted (upper b (n + 1)) old next from
pasted_down b n old now next from fits run before = record {
  inside = λ i j lt less. elim (cases_lt j n) [
    | inl earlier ↦
        run.kept (b.start + (j * b.wide + i)) (inl (omega (arith, mul-add-lt j b.wide i n earlier (omega arith)))) ∙ before.inside i j lt earlier
    | inr this ↦
        let j-is : j ≡ n = omega arith in
        ap (λ (t : ℕ). next (b.start + (t * b.wide + i))) j-is
        ∙ ap next (group b.start (n * b.wide) i)
        ∙ run.copied i lt
        ∙ ap from (sym (group b.first (n * b.own) i))
        ∙ ap (λ (t : ℕ). from (b.first + (t * b.own + i))) (sym j-is)
  ];
  outside = λ p none. run.kept p (where_else p none) ∙ before.outside p (λ i j lt less. none i j lt (omega arith));
}
  where
    where_else : (p : ℕ) → ((i j : ℕ) → i < b.width → j < n + 1 → p ≡ b.start + (j * b.wide + i) → ⊥) → (p < b.start + n * b.wide) ⊎ (b.start + n * b.wide + b.width ≤ p)
    where_else p none =
        let to = b.start + n * b.wide in
        elim (cases_lt p to) [
          | inl ahead ↦ inl ahead
          | inr from ↦ elim (cases_lt p (to + b.width)) [
            | inl here ↦ absurd (none (p - to) n (omega arith) (omega arith) (omega arith))
            | inr behind ↦ inr behind
          ]
        ]

-- ---- column by column

-- the first columns of a block, and so many from a column on
abbrev pub leftmost : Block → ℕ → Block
leftmost b n = block b.start b.wide b.first b.own n b.high

abbrev pub columns : Block → ℕ → ℕ → Block
columns b n m = block (b.start + n) b.wide (b.first + n) b.own m b.high

pub pasted_no_column : {B : Type 0} (b : Block) (old from : ℕ → B) → IsPasted (leftmost b 0) old old from
pasted_no_column b old from = record { inside = λ i j lt less. absurd (omega arith); outside = λ p none. refl }

pub pasted_right : {B : Type 0} (b : Block) (n m : ℕ) (old now next from : ℕ → B) → n + m ≤ b.wide → IsPasted (columns b n m) now next from → IsPasted (leftmost b n) old now from → IsPasted (leftmost b (n + m)) old next from
pasted_right b n m old now next from fits part before = record {
  inside = λ i j lt less. elim (cases_lt i n) [
    | inl earlier ↦
        part.outside (b.start + (j * b.wide + i))
        (λ c q c-lt q-lt e.
        let same : i ≡ n + c = same_column b.wide j i q (n + c) (omega arith) (omega arith) (omega arith) in
        omega arith)
        ∙ before.inside i j earlier less
    | inr from-n ↦
        let k = i - n in
        let i-is : i ≡ n + k = omega arith in
        ap (λ (t : ℕ). next (b.start + (j * b.wide + t))) i-is
        ∙ ap next (shift b.start n (j * b.wide) k)
        ∙ part.inside k j (omega arith) less
        ∙ ap from (sym (shift b.first n (j * b.own) k))
        ∙ ap (λ (t : ℕ). from (b.first + (j * b.own + t))) (sym i-is)
  ];
  outside = λ p none.
      part.outside p (λ i j lt less e. none (n + i) j (omega arith) less (e ∙ sym (shift b.start n (j * b.wide) i)))
      ∙ before.outside p (λ i j lt less e. none i j (omega arith) less e);
}
  where
    shift : (a n b k : ℕ) → a + (b + (n + k)) ≡ a + n + (b + k)
    shift a n b k = omega arith

pub fits_column : (b : Block) (n m k l : ℕ) → n + m ≤ b.width → BlockFits b k l → BlockFits (columns b n m) k l
fits_column b n m k l le fits =
    let across = fits.across in
    record {
      across = omega arith;
      room = λ j less. let room = fits.room j less in omega arith;
      other = λ j less. let other = fits.other j less in omega arith;
    }

pub pasted_all_rows : {B : Type 0} (b : Block) (n : ℕ) (old new from : ℕ → B) → n ≡ b.high → IsPasted (upper b n) old new from → IsPasted b old new from
pasted_all_rows b n old new from n-is pasted = record {
  inside = λ i j lt less. pasted.inside i j lt (omega arith);
  outside = λ p none. pasted.outside p (λ i j lt less. none i j lt (omega arith));
}

pub pasted_all_columns : {B : Type 0} (b : Block) (n : ℕ) (old new from : ℕ → B) → n ≡ b.width → IsPasted (leftmost b n) old new from → IsPasted b old new from
pasted_all_columns b n old new from n-is pasted = record {
  inside = λ i j lt less. pasted.inside i j (omega arith) less;
  outside = λ p none. pasted.outside p (λ i j lt less. none i j (omega arith) less);
}

-- ---- in a window

-- in the rectangle the new cells are those of the other, where that has the place, and else the old; cells are read by
-- rows of so many
pub record IsShown {B : Type 0} (r h : Rect) (wide own : ℕ) (old new from : ℕ → B) : Type 0 where
  pub shows : (x y : ℕ) → Holds r x y → Holds h x y → new ((y - r.y) * wide + (x - r.x)) ≡ from ((y - h.y) * own + (x - h.x))
  pub rest : (x y : ℕ) → x < wide → (Holds r (r.x + x) (r.y + y) → Holds h (r.x + x) (r.y + y) → ⊥) → new (y * wide + x) ≡ old (y * wide + x)

spread : (a j w : ℕ) → (a + j) * w ≡ a * w + j * w
spread a j w = grind arith

block_room : (a j h x w wide : ℕ) → a + j < h → x + w ≤ wide → a * wide + x + (j * wide + w) ≤ h * wide
block_room a j h x w wide lt across = omega (arith, run_fits (a + j) h wide x w lt across, spread a j wide)

at_place : (a j w x i q c : ℕ) → a + j ≡ q → x + i ≡ c → a * w + x + (j * w + i) ≡ q * w + c
at_place a j w x i q c q-is c-is = omega (arith, spread a j w, ap (λ (t : ℕ). t * w) q-is)

pub common_fits : (r h : Rect) (wide own : ℕ) (b : Block) → r.width ≤ wide → h.width ≤ own → IsCommon r h wide own b → BlockFits b (r.height * wide) (h.height * own)
common_fits r h wide own b r-le h-le common =
    let o = overlap_of r h in
    let b-is = common.is in
    let width-is : b.width ≡ o.width = ap (λ (t : Block). t.width) b-is in
    let some = common.some in
    subst (λ (t : Block). BlockFits t (r.height * wide) (h.height * own)) (sym b-is)
    (record {
      across = omega arith;
      room = λ j less. block_room (o.y - r.y) j r.height (o.x - r.x) o.width wide (omega arith) (omega arith);
      other = λ j less. block_room (o.y - h.y) j h.height (o.x - h.x) o.width own (omega arith) (omega arith);
    })

pub common_shown : {B : Type 0} (r h : Rect) (wide own : ℕ) (b : Block) (old new from : ℕ → B) → r.width ≤ wide → IsCommon r h wide own b → IsPasted b old new from → IsShown r h wide own old new from
common_shown r h wide own b old new from r-le common pasted-b =
    let o = overlap_of r h in
    let pasted : IsPasted (block_at r h o wide own) old new from = subst (λ (t : Block). IsPasted t old new from) common.is pasted-b in
    let width-is : b.width ≡ o.width = ap (λ (t : Block). t.width) common.is in
    let some = common.some in
    record {
      shows = λ x y holds here.
          let a1 = holds.left in
          let a2 = holds.right in
          let a3 = holds.top in
          let a4 = holds.bottom in
          let b1 = here.left in
          let b2 = here.right in
          let b3 = here.top in
          let b4 = here.bottom in
          ap new (sym (at_place (o.y - r.y) (y - o.y) wide (o.x - r.x) (x - o.x) (y - r.y) (x - r.x) (omega arith) (omega arith)))
          ∙ pasted.inside (x - o.x) (y - o.y) (omega arith) (omega arith)
          ∙ ap from (at_place (o.y - h.y) (y - o.y) own (o.x - h.x) (x - o.x) (y - h.y) (x - h.x) (omega arith) (omega arith));
      rest = λ x y lt none.
          pasted.outside (y * wide + x)
          (λ i j i-lt j-lt e.
          let place = at_place (o.y - r.y) j wide (o.x - r.x) i (o.y - r.y + j) (o.x - r.x + i) refl refl in
          let row : y ≡ o.y - r.y + j = same_row wide y x (o.y - r.y + j) (o.x - r.x + i) lt (omega arith) (e ∙ place) in
          let column : x ≡ o.x - r.x + i = same_column wide y x (o.y - r.y + j) (o.x - r.x + i) lt (omega arith) (e ∙ place) in
          none (record { left = omega arith; right = omega arith; top = omega arith; bottom = omega arith }) (record { left = omega arith; right = omega arith; top = omega arith; bottom = omega arith }));
    }
