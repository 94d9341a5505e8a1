-- A block of a row, merged with the samples further on.
use Rattle.std.proofs.Common.{◌≡◌, ℕ, ◌+◌, ◌-◌, ◌<◌, ◌≤◌, List, length, take, drop, get_or, ap, arith, ◌∙◌, length-take, length-drop}
use Rattle.std.proofs.lemmas.List.{get_or-take, get_or-drop}
use Rattle.std.proofs.lemmas.Simd.{get_or-zip2, length-zip2}
use Rattle.mw_model.proofs.mw_facts.Parts.{get_or-put_mid_within}
use borrow.Rule.Slice.PartMut.{put_mid}
use lib.Lanes.{zip2}

part_at : {A : Type 0} (a m i : ℕ) (xs : List A) (d : A) → i < m → get_or (take m (drop a xs)) i d ≡ get_or xs (a + i) d
part_at a m i xs d lt = get_or-take m (drop a xs) i d lt ∙ get_or-drop a xs i d

pub merged_ahead : {A : Type 0} (f : A → A → A) (row ahead made : List A) (at shift m k p : ℕ) (d : A) → at + shift + 64 ≤ length row → m ≡ 64 → k ≡ 64
    → ahead ≡ take k (drop (at + shift) row) → made ≡ zip2 f (take m (drop at row)) ahead → at ≤ p → p < at + 64
    → get_or (put_mid at m row made) p d ≡ f (get_or row p d) (get_or row (p + shift) d)
merged_ahead f row ahead made at shift m k p d room m-is k-is ahead-is made-is from to =
    let here = take m (drop at row) in
    let there = take k (drop (at + shift) row) in
    let here_len : length here ≡ 64 = omega (arith, length-take m (drop at row), length-drop at row) in
    let there_len : length there ≡ 64 = omega (arith, length-take k (drop (at + shift) row), length-drop (at + shift) row) in
    let whole : made ≡ zip2 f here there = made-is ∙ ap (zip2 f here) ahead-is in
    let len : length made ≡ 64 = ap length whole ∙ length-zip2 f here there (omega arith) ∙ here_len in
    let near : at + (p - at) ≡ p = omega arith in
    let far : at + shift + (p - at) ≡ p + shift = omega arith in
    get_or-put_mid_within at m row made p d (omega arith) from (omega arith)
    ∙ ap (λ (t : List _). get_or t (p - at) d) whole
    ∙ get_or-zip2 f here there (p - at) d d d (omega arith) (omega arith)
    ∙ ap (λ (t : _). f t (get_or there (p - at) d)) (part_at at m (p - at) row d (omega arith) ∙ ap (λ (t : ℕ). get_or row t d) near)
    ∙ ap (λ (t : _). f (get_or row p d) t) (part_at (at + shift) k (p - at) row d (omega arith) ∙ ap (λ (t : ℕ). get_or row t d) far)

-- a block that was read, merged with the samples further on
pub block_merged : {A : Type 0} (f : A → A → A) (row block made : List A) (at shift m k p : ℕ) (d : A) → at + shift + 64 ≤ length row → m ≡ 64 → k ≡ 64
    → block ≡ take m (drop at row) → made ≡ zip2 f block (take k (drop (at + shift) row)) → p < 64
    → get_or made p d ≡ f (get_or row (at + p) d) (get_or row (at + p + shift) d)
block_merged f row block made at shift m k p d room m-is k-is block-is made-is lt =
    let here = take m (drop at row) in
    let there = take k (drop (at + shift) row) in
    let here_len : length here ≡ 64 = omega (arith, length-take m (drop at row), length-drop at row) in
    let there_len : length there ≡ 64 = omega (arith, length-take k (drop (at + shift) row), length-drop (at + shift) row) in
    ap (λ (t : List _). get_or t p d) (made-is ∙ ap (λ (t : List _). zip2 f t there) block-is)
    ∙ get_or-zip2 f here there p d d d (omega arith) (omega arith)
    ∙ ap (λ (t : _). f t (get_or there p d)) (part_at at m p row d (omega arith))
    ∙ ap (λ (t : _). f (get_or row (at + p) d) t) (part_at (at + shift) k p row d (omega arith) ∙ ap (λ (t : ℕ). get_or row t d) (far at shift p))
  where
    far : (at shift p : ℕ) → at + shift + p ≡ at + p + shift
    far at shift p = omega arith
