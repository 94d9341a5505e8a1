-- Samples enter and leave the lanes that are marked.
use Rattle.std.proofs.Common.{◌≡◌, ℕ, ◌+◌, ◌-◌, ◌*◌, ◌<◌, ◌≤◌, ◌⊎◌, inl, inr, List, length, get_or, refl, ap, sym, arith, ◌∙◌, cond, Bool}
use Rattle.std.specs.Prelude.{nat_lt}
use Rattle.std.proofs.lemmas.Bool.{cases_lt, cases_order, lt-ltb, le-ltb}
use Rattle.std.proofs.lemmas.List.{get_or_default}
use Rattle.mw_model.proofs.mw_facts.Numbers.{one_if}
use Rattle.mw_rank_rows.specs.Columns.{column_count}
use Rattle.mw_rank_rows.specs.Lanes.{Counts, CountsRise}
use Rattle.mw_rank_rows.proofs.Fronts.{rises, small}
use Rattle.mw_rank_rows.proofs.Sums.{total-more}

pub above : (a u m s v : ℕ) → a ≡ u + m * cond (nat_lt s v) 1 0 → s < v → a ≡ u + m
above a u m s v is less = is ∙ ap (λ (b : Bool). u + m * one_if b) (lt-ltb s v less) ∙ (let e : u + m * 1 ≡ u + m = omega arith in e)

pub not_above : (a u m s v : ℕ) → a ≡ u + m * cond (nat_lt s v) 1 0 → v ≤ s → a ≡ u
not_above a u m s v is le = is ∙ ap (λ (b : Bool). u + m * one_if b) (le-ltb s v le) ∙ (let e : u + m * 0 ≡ u = omega arith in e)

nothing_more : (x y : ℕ) → x ≡ y → x ≡ 0 + y
nothing_more x y is = omega arith

-- what was written for the lanes of a level
pub record IsPut (s : ℕ) (counts new here made : List ℕ) : Type 0 where
  pub read : (j : ℕ) → j < 8 → get_or here j 0 ≡ get_or counts (s * 8 + j) 0
  pub put : (j : ℕ) → j < 8 → get_or new (s * 8 + j) 0 ≡ get_or made j 0
  pub others : (p : ℕ) → (p < s * 8) ⊎ (s * 8 + 8 ≤ p) → get_or new p 0 ≡ get_or counts p 0
  pub size : length new ≡ length counts

-- w has as many samples more than u as lanes are marked, at levels above s
abbrev pub IsMore : ℕ → List ℕ → (ℕ → ℕ → ℕ) → (ℕ → ℕ → ℕ) → Type 0
IsMore s marks u w = (v j : ℕ) → j < 8 → w v j ≡ u v j + get_or marks j 0 * cond (nat_lt s v) 1 0

pub entered : (levels : ℕ) (u w : ℕ → ℕ → ℕ) (counts new : List ℕ) (level s : ℕ) (below b here sums marks add : List ℕ) → s < levels → IsPut s counts new here sums
    → ((j : ℕ) → j < 8 → get_or here j 0 + get_or marks j 0 < 65536 → get_or sums j 0 ≡ get_or here j 0 + get_or marks j 0) → length b ≡ 8 → ((j : ℕ) → j < 8 → get_or marks j 0 < 65536 → get_or add j 0 ≡ get_or marks j 0 * cond (nat_lt s level) 1 0)
    → ((j : ℕ) → j < 8 → get_or below j 0 + get_or add j 0 < 65536 → get_or b j 0 ≡ get_or below j 0 + get_or add j 0) → IsMore s marks u w → ((j : ℕ) → j < 8 → w levels j < 65536) → Counts levels u counts level below → Counts levels w new level b
entered levels u w counts new level s below b here sums marks add lt p sums-are lanes add-is b-is more few t = record {
  short = t.short;
  size = omega (arith, p.size, t.size);
  each = λ v j less within.
      let m = get_or marks j 0 in
      elim (cases_order v s) [
        | inl same ↦
            let here-is : get_or new (v * 8 + j) 0 ≡ get_or counts (v * 8 + j) 0 + m =
            ap (λ (q : ℕ). get_or new (q * 8 + j) 0) same
            ∙ p.put j within
            ∙ sums-are j within (omega (arith, p.read j within, t.each s j lt within, rises levels u counts level below (s + 1) (levels - (s + 1)) j (omega arith) within t, ap (λ (q : ℕ). u q j) (let e : s + 1 + (levels - (s + 1)) ≡ levels = omega arith in e), above _ _ m s levels (more levels j within) lt, few j within))
            ∙ ap (λ (q : ℕ). q + m) (p.read j within)
            ∙ ap (λ (q : ℕ). get_or counts (q * 8 + j) 0 + m) (sym same) in
            omega (arith, here-is, t.each v j less within, above _ _ m s (v + 1) (more (v + 1) j within) (omega arith), not_above _ _ m s v (more v j within) (omega arith))
        | inr (inl low) ↦ omega (arith, p.others (v * 8 + j) (inl (omega arith)), t.each v j less within, not_above _ _ m s (v + 1) (more (v + 1) j within) (omega arith), not_above _ _ m s v (more v j within) (omega arith))
        | inr (inr high) ↦ omega (arith, p.others (v * 8 + j) (inr (omega arith)), t.each v j less within, above _ _ m s (v + 1) (more (v + 1) j within) (omega arith), above _ _ m s v (more v j within) high)
      ];
  none = λ j within. omega (arith, t.none j within, not_above _ _ (get_or marks j 0) s 0 (more 0 j within) (omega arith));
  few = few;
  inside = t.inside;
  lanes = lanes;
  under = λ j within.
      let m = get_or marks j 0 in
      let all = above _ _ m s levels (more levels j within) lt in
      let add-here = nothing_more _ _ (add-is j within (omega (arith, all, few j within))) in
      let up : u level j ≤ u levels j = omega (arith, rises levels u counts level below level (levels - level) j (omega (arith, t.inside)) within t, ap (λ (q : ℕ). u q j) (let e : level + (levels - level) ≡ levels = omega (arith, t.inside) in e)) in
      elim (cases_lt s level) [
        | inl low ↦
            let one = above (get_or add j 0) 0 m s level add-here low in
            omega (arith, above _ _ m s level (more level j within) low, t.under j within, b-is j within (omega (arith, one, all, few j within, up, t.under j within)), one)
        | inr high ↦
            let one = not_above (get_or add j 0) 0 m s level add-here high in
            omega (arith, not_above _ _ m s level (more level j within) high, t.under j within, b-is j within (omega (arith, one, all, few j within, up, t.under j within)), one)
      ];
}

pub left : (levels : ℕ) (u w : ℕ → ℕ → ℕ) (counts new : List ℕ) (level s : ℕ) (below b here rest marks less : List ℕ) → s < levels → IsPut s counts new here rest
    → ((j : ℕ) → j < 8 → get_or marks j 0 ≤ get_or here j 0 → get_or here j 0 < 65536 → get_or rest j 0 + get_or marks j 0 ≡ get_or here j 0) → length b ≡ 8 → ((j : ℕ) → j < 8 → get_or marks j 0 < 65536 → get_or less j 0 ≡ get_or marks j 0 * cond (nat_lt s level) 1 0)
    → ((j : ℕ) → j < 8 → get_or less j 0 ≤ get_or below j 0 → get_or below j 0 < 65536 → get_or b j 0 + get_or less j 0 ≡ get_or below j 0) → IsMore s marks w u → CountsRise w → Counts levels u counts level below → Counts levels w new level b
left levels u w counts new level s below b here rest marks less lt p rest-is lanes less-is b-is more up t = record {
  short = t.short;
  size = omega (arith, p.size, t.size);
  each = λ v j low within.
      let m = get_or marks j 0 in
      elim (cases_order v s) [
        | inl same ↦
            let many : m ≤ get_or counts (s * 8 + j) 0 = omega (arith, up s j, t.each s j lt within, above _ _ m s (s + 1) (more (s + 1) j within) (omega arith), not_above _ _ m s s (more s j within) (omega arith)) in
            let here-is : get_or new (v * 8 + j) 0 + m ≡ get_or counts (v * 8 + j) 0 =
            ap (λ (q : ℕ). get_or new (q * 8 + j) 0 + m) same
            ∙ ap (λ (q : ℕ). q + m) (p.put j within)
            ∙ rest-is j within (omega (arith, many, p.read j within)) (omega (arith, p.read j within, t.each s j lt within, small levels u counts level below (s + 1) j (omega arith) within t))
            ∙ p.read j within
            ∙ ap (λ (q : ℕ). get_or counts (q * 8 + j) 0) (sym same) in
            omega (arith, here-is, t.each v j low within, above _ _ m s (v + 1) (more (v + 1) j within) (omega arith), not_above _ _ m s v (more v j within) (omega arith))
        | inr (inl before) ↦ omega (arith, p.others (v * 8 + j) (inl (omega arith)), t.each v j low within, not_above _ _ m s (v + 1) (more (v + 1) j within) (omega arith), not_above _ _ m s v (more v j within) (omega arith))
        | inr (inr after) ↦ omega (arith, p.others (v * 8 + j) (inr (omega arith)), t.each v j low within, above _ _ m s (v + 1) (more (v + 1) j within) (omega arith), above _ _ m s v (more v j within) after)
      ];
  none = λ j within. omega (arith, t.none j within, not_above _ _ (get_or marks j 0) s 0 (more 0 j within) (omega arith));
  few = λ j within. omega (arith, t.few j within, above _ _ (get_or marks j 0) s levels (more levels j within) lt);
  inside = t.inside;
  lanes = lanes;
  under = λ j within.
      let m = get_or marks j 0 in
      let all = above _ _ m s levels (more levels j within) lt in
      let less-here = nothing_more _ _ (less-is j within (omega (arith, all, t.few j within))) in
      let full = small levels u counts level below level j (omega (arith, t.inside)) within t in
      elim (cases_lt s level) [
        | inl low ↦
            let one = above (get_or less j 0) 0 m s level less-here low in
            omega (arith, above _ _ m s level (more level j within) low, t.under j within, b-is j within (omega (arith, one, above _ _ m s level (more level j within) low, t.under j within)) (omega (arith, full, t.under j within)), one)
        | inr high ↦
            let one = not_above (get_or less j 0) 0 m s level less-here high in
            omega (arith, not_above _ _ m s level (more level j within) high, t.under j within, b-is j within (omega (arith, one)) (omega (arith, full, t.under j within)), one)
      ];
}

-- the counters hold, where the numbers of samples are said in another way
pub counts_same : (levels : ℕ) (u w : ℕ → ℕ → ℕ) (counts : List ℕ) (level : ℕ) (below : List ℕ) → ((v j : ℕ) → j < 8 → w v j ≡ u v j) → Counts levels u counts level below → Counts levels w counts level below
counts_same levels u w counts level below same t = record {
  short = t.short;
  size = t.size;
  each = λ v j lt within. omega (arith, same v j within, same (v + 1) j within, t.each v j lt within);
  none = λ j within. omega (arith, same 0 j within, t.none j within);
  few = λ j within. omega (arith, same levels j within, t.few j within);
  inside = t.inside;
  lanes = t.lanes;
  under = λ j within. omega (arith, same level j within, t.under j within);
}

-- one row more of a column
column_more : {A : Type 0} (level : A → ℕ) (d : A) (samples : List A) (width at : ℕ) (marks lanes : List ℕ) (v j i s : ℕ) → get_or lanes j 0 ≡ get_or marks (i + j) 0 → s ≡ level (get_or samples (i * width + at) d)
    → column_count level d samples width at marks v j (i + 1) ≡ column_count level d samples width at marks v j i + get_or lanes j 0 * cond (nat_lt s v) 1 0
column_more level d samples width at marks lanes v j i s lanes-are s-is =
    total-more (λ (q : ℕ). get_or marks (q + j) 0 * one_if (nat_lt (level (get_or samples (q * width + at) d)) v)) i
    ∙ ap (λ (t : ℕ). column_count level d samples width at marks v j i + t * one_if (nat_lt (level (get_or samples (i * width + at) d)) v)) (sym lanes-are)
    ∙ ap (λ (t : ℕ). column_count level d samples width at marks v j i + get_or lanes j 0 * one_if (nat_lt t v)) (sym s-is)

pub enters_more : {A : Type 0} (level : A → ℕ) (d : A) (samples : List A) (width at : ℕ) (marks lanes : List ℕ) (i s : ℕ) (u w : ℕ → ℕ → ℕ) → ((j : ℕ) → j < 8 → get_or lanes j 0 ≡ get_or marks (i + j) 0) → s ≡ level (get_or samples (i * width + at) d)
    → ((v j : ℕ) → j < 8 → w v j ≡ u v j + column_count level d samples width at marks v j (i + 1)) → IsMore s lanes (λ v j. u v j + column_count level d samples width at marks v j i) w
enters_more level d samples width at marks lanes i s u w lanes-are s-is more = λ v j lt. omega (arith, more v j lt, column_more level d samples width at marks lanes v j i s (lanes-are j lt) s-is)

pub leaves_more : {A : Type 0} (level : A → ℕ) (d : A) (samples : List A) (width at : ℕ) (marks lanes : List ℕ) (i s : ℕ) (u w : ℕ → ℕ → ℕ) → ((j : ℕ) → j < 8 → get_or lanes j 0 ≡ get_or marks (i + j) 0) → s ≡ level (get_or samples (i * width + at) d)
    → ((v j : ℕ) → j < 8 → u v j ≡ w v j + column_count level d samples width at marks v j (i + 1)) → (v j : ℕ) → j < 8 → u v j ≡ w v j + get_or lanes j 0 * cond (nat_lt s v) 1 0 + column_count level d samples width at marks v j i
leaves_more level d samples width at marks lanes i s u w lanes-are s-is more v j lt = omega (arith, more v j lt, column_more level d samples width at marks lanes v j i s (lanes-are j lt) s-is)

pub rises_more : (s : ℕ) (lanes : List ℕ) (w : ℕ → ℕ → ℕ) → CountsRise w → CountsRise (λ v j. w v j + get_or lanes j 0 * cond (nat_lt s v) 1 0)
rises_more s lanes w up = λ v j.
    let m = get_or lanes j 0 in
    elim (cases_lt s v) [
      | inl low ↦ omega (arith, up v j, above (w v j + m * cond (nat_lt s v) 1 0) (w v j) m s v refl low, above (w (v + 1) j + m * cond (nat_lt s (v + 1)) 1 0) (w (v + 1) j) m s (v + 1) refl (omega arith))
      | inr high ↦ omega (arith, up v j, not_above (w v j + m * cond (nat_lt s v) 1 0) (w v j) m s v refl high)
    ]

-- the level of the sample that was read
pub sample_is : {A : Type 0} (level : A → ℕ) (d : A) (samples : List A) (p s : ℕ) (a : A) → p < length samples → s ≡ level (get_or samples p a) → s ≡ level (get_or samples p d)
sample_is level d samples p s a lt s-is = s-is ∙ ap level (get_or_default samples p a d lt)
