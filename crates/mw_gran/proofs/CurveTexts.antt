-- Loops that write the lines of a curve.
use Rattle.std.proofs.Common.{◌≡◌, ℕ, suc, ◌+◌, ◌-◌, ◌<◌, List, [], ◌∷◌, ◌++◌, length, get_or, refl, ap, sym, arith, ◌∙◌}
use Rattle.std.specs.Prelude.{codes, decimal}
use Rattle.std.specs.List.{range_with_len, flat_map}
use Rattle.std.proofs.lemmas.List.{append-nil, append_assoc}
use Rattle.std.proofs.lemmas.List.Concat.{flat_map-append}
use Rattle.std.proofs.Math.Nat.{zero-add}
use Rattle.mw_model.proofs.mw_facts.Ranges.{range_with_len-more}
use Rattle.mw_model.specs.Curves.{line, volume_lines, fall_lines, rest_line}
use Rattle.mw_model.proofs.CurveLaws.{volumes_by_line, falls_by_line}

-- a start, and the lines with the numbers below n
abbrev pub lines_below : (ℕ → List ℕ) → ℕ → List ℕ
lines_below text n = flat_map text (range_with_len 0 n)

abbrev pub volume_text : List ℕ → ℕ → List ℕ
volume_text vs n = line (codes "V ") n (get_or vs n 0)

abbrev pub fall_text : List ℕ → ℕ → List ℕ
fall_text vs n = line (codes "S ") n (get_or vs n 0 - get_or vs (n + 1) 0)

pub one_line_more : (text : ℕ → List ℕ) (n : ℕ) (start before after : List ℕ) → before ≡ start ++ lines_below text n → after ≡ before ++ text n → after ≡ start ++ lines_below text (n + 1)
one_line_more text n start before after is step =
    step
    ∙ ap (λ (t : List ℕ). t ++ text n) is
    ∙ append_assoc start (lines_below text n) (text n)
    ∙ ap (λ (t : List ℕ). start ++ t)
    (ap (λ (t : List ℕ). lines_below text n ++ t) (sym (append-nil (text n)) ∙ ap (λ (k : ℕ). text k ++ []) (sym (zero-add n)))
    ∙ sym (flat_map-append text (range_with_len 0 n) ((0 + n) ∷ []))
    ∙ ap (flat_map text) (sym (range_with_len-more 0 n (0 + n) refl)))

pub all_volumes : (vs : List ℕ) (i : ℕ) (start text : List ℕ) → i ≡ length vs → text ≡ start ++ lines_below (volume_text vs) i → text ≡ start ++ volume_lines 0 vs
all_volumes vs i start text same is = is ∙ ap (λ (n : ℕ). start ++ lines_below (volume_text vs) n) same ∙ ap (λ (t : List ℕ). start ++ t) (sym (volumes_by_line vs))

pub all_falls : (vs : List ℕ) (i : ℕ) (start text : List ℕ) → i ≡ length vs - 1 → text ≡ start ++ lines_below (fall_text vs) i → text ≡ start ++ fall_lines 0 vs
all_falls vs i start text same is = is ∙ ap (λ (n : ℕ). start ++ lines_below (fall_text vs) n) same ∙ ap (λ (t : List ℕ). start ++ t) (sym (falls_by_line vs))

pub rest_by_last : (vs : List ℕ) → 0 < length vs → rest_line vs ≡ codes "R " ++ decimal (get_or vs (length vs - 1) 0) ++ 10 ∷ []
rest_by_last [] some = absurd (omega arith)
rest_by_last (v ∷ []) some = refl
rest_by_last (v ∷ w ∷ vs) some =
    let here : length (v ∷ w ∷ vs) - 1 ≡ suc (length (w ∷ vs) - 1) = omega arith in
    rest_by_last (w ∷ vs) (omega arith) ∙ ap (λ (i : ℕ). codes "R " ++ decimal (get_or (v ∷ w ∷ vs) i 0) ++ 10 ∷ []) (sym here)

pub rest_pushed : (vs start a b c : List ℕ) → 0 < length vs → a ≡ start ++ codes "R " → b ≡ a ++ decimal (get_or vs (length vs - 1) 0) → c ≡ b ++ 10 ∷ [] → c ≡ start ++ rest_line vs
rest_pushed vs start a b c some first second third =
    let number = decimal (get_or vs (length vs - 1) 0) in
    third
    ∙ ap (λ (t : List ℕ). t ++ 10 ∷ []) (second ∙ ap (λ (t : List ℕ). t ++ number) first ∙ append_assoc start (codes "R ") number)
    ∙ append_assoc start (codes "R " ++ number) (10 ∷ [])
    ∙ ap (λ (t : List ℕ). start ++ t) (sym (rest_by_last vs some))

pub no_rest : (vs start : List ℕ) → length vs ≡ 0 → start ≡ start ++ rest_line vs
no_rest [] start none = sym (append-nil start)
no_rest (v ∷ vs) start none = absurd (omega arith)
