-- Parts of a row, merged with parts of a list.
use Rattle.std.proofs.Common.{◌≡◌, ℕ, ◌+◌, ◌-◌, ◌<◌, ◌≤◌, List, length, take, drop, get_or, ap, arith, ◌∙◌, length-take, length-drop}
use Rattle.std.proofs.lemmas.List.{get_or-take, get_or-drop}
use Rattle.std.proofs.lemmas.Simd.{get_or-zip2, length-zip2}
use Rattle.mw_model.proofs.mw_facts.Parts.{get_or-put_mid_within}
use borrow.Rule.Slice.PartMut.{put_mid}
use lib.Lanes.{zip2}

-- a part of a list, place by place
part_at : {A : Type 0} (a m i : ℕ) (xs : List A) (d : A) → i < m → get_or (take m (drop a xs)) i d ≡ get_or xs (a + i) d
part_at a m i xs d lt = get_or-take m (drop a xs) i d lt ∙ get_or-drop a xs i d

part_len : {A : Type 0} (a m : ℕ) (xs : List A) → a + m ≤ length xs → length (take m (drop a xs)) ≡ m
part_len a m xs le = omega (arith, length-take m (drop a xs), length-drop a xs)

-- a part of a row that was merged with as many other samples
pub merged_part : {A : Type 0} (f : A → A → A) (out part made : List A) (at m q : ℕ) (d e : A) → at + m ≤ length out → length part ≡ m → made ≡ zip2 f (take m (drop at out)) part → at ≤ q → q < at + m
    → get_or (put_mid at m out made) q d ≡ f (get_or out q d) (get_or part (q - at) e)
merged_part f out part made at m q d e room len made-is from to =
    let here = take m (drop at out) in
    let here_len = part_len at m out room in
    let made_len : length made ≡ m = ap length made-is ∙ length-zip2 f here part (omega arith) ∙ here_len in
    let back : at + (q - at) ≡ q = omega arith in
    get_or-put_mid_within at m out made q d (omega arith) from (omega arith)
    ∙ ap (λ (t : List _). get_or t (q - at) d) made-is
    ∙ get_or-zip2 f here part (q - at) d e d (omega arith) (omega arith)
    ∙ ap (λ (t : _). f t (get_or part (q - at) e)) (part_at at m (q - at) out d (omega arith) ∙ ap (λ (t : ℕ). get_or out t d) back)

-- a block of cells that was merged with the one `shift` further on
pub block_paired : {A : Type 0} (f : A → A → A) (cells block both : List A) (start shift k l i : ℕ) (e : A) → start + shift + 64 ≤ length cells → k ≡ 64 → l ≡ 64
    → block ≡ take k (drop start cells) → both ≡ zip2 f block (take l (drop (start + shift) cells)) → i < 64
    → get_or both i e ≡ f (get_or cells (start + i) e) (get_or cells (start + shift + i) e)
block_paired f cells block both start shift k l i e room k-is l-is block-is both-is lt =
    let first = take k (drop start cells) in
    let second = take l (drop (start + shift) cells) in
    let first_len = part_len start k cells (omega arith) in
    let second_len = part_len (start + shift) l cells (omega arith) in
    ap (λ (t : List _). get_or t i e) (both-is ∙ ap (λ (t : List _). zip2 f t second) block-is)
    ∙ get_or-zip2 f first second i e e e (omega arith) (omega arith)
    ∙ ap (λ (t : _). f t (get_or second i e)) (part_at start k i cells e (omega arith))
    ∙ ap (f (get_or cells (start + i) e)) (part_at (start + shift) l i cells e (omega arith))

pub length-block_paired : {A : Type 0} (f : A → A → A) (cells block both : List A) (start shift k l : ℕ) → start + shift + 64 ≤ length cells → k ≡ 64 → l ≡ 64
    → block ≡ take k (drop start cells) → both ≡ zip2 f block (take l (drop (start + shift) cells)) → length both ≡ 64
length-block_paired f cells block both start shift k l room k-is l-is block-is both-is =
    let first = take k (drop start cells) in
    let second = take l (drop (start + shift) cells) in
    let first_len = part_len start k cells (omega arith) in
    let second_len = part_len (start + shift) l cells (omega arith) in
    ap length (both-is ∙ ap (λ (t : List _). zip2 f t second) block-is) ∙ length-zip2 f first second (omega arith) ∙ first_len ∙ k-is

-- a part of a row that was merged with the samples of a list
pub rest_merged : {A : Type 0} (f : A → A → A) (cells out made : List A) (from at m k q : ℕ) (d e : A) → at + m ≡ length out → from + length out ≤ length cells → k ≡ m
    → made ≡ zip2 f (take m (drop at out)) (take k (drop (from + at) cells)) → at ≤ q → q < length out
    → get_or (put_mid at m out made) q d ≡ f (get_or out q d) (get_or cells (from + q) e)
rest_merged f cells out made from at m k q d e room fits k-is made-is after before =
    let part = take k (drop (from + at) cells) in
    let there : from + at + (q - at) ≡ from + q = omega arith in
    merged_part f out part made at m q d e (omega arith) (part_len (from + at) k cells (omega arith) ∙ k-is) made-is after (omega arith)
    ∙ ap (f (get_or out q d)) (part_at (from + at) k (q - at) cells e (omega arith) ∙ ap (λ (t : ℕ). get_or cells t e) there)
