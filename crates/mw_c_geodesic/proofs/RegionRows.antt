-- Numbers of components that are written one after the other, and what is answered.
use Rattle.std.proofs.Common.{◌≡◌, ℕ, ◌+◌, ◌*◌, ◌<◌, ◌≤◌, ◌⊎◌, ℤ, pos, List, ◌++◌, length, get_or, take, drop, Option, Some, None, refl, ap, sym, subst, arith, ◌∙◌, inl, inr}
use Rattle.std.specs.Prelude.{IfErr, IfOk, Result, Ok, Err}
use Rattle.std.proofs.lemmas.Bool.{cases_lt}
use Rattle.std.proofs.lemmas.List.{take_more, length-take-le}
use Rattle.mw_model.specs.declared.codes.Code.{Code}
use Rattle.mw_model.specs.declared.codes.Code.TheVariants as code
use Rattle.mw_model.specs.declared.offsets.Offset.{Offset}
use Rattle.mw_model.specs.Pictures.{Picture}
use Rattle.mw_pixel.specs.Planes.{put_at}
use Rattle.mw_geodesic.specs.Labels.{IsLabelling}
use Rattle.mw_geodesic_labels.specs.declared.regions.Region.{Region}
use Rattle.mw_geodesic_labels.specs.Regions.{region_row, region_rows, AreRegionsTold, AreRegionsWithLabels}
use Rattle.mw_geodesic_labels.specs.Gathering.{rows_over}
use Rattle.mw_geodesic_labels.proofs.RowsWritten.{rows_push}
use Rattle.mw_c_calls.specs.Answers.{refusal_number}
use Rattle.mw_c_geodesic.specs.declared.refusals.Refusal.{Refusal}
use Rattle.mw_c_geodesic.specs.declared.refusals.Refusal.TheVariants as refusal
use Rattle.mw_c_geodesic.specs.Regions.{AreRegionsWritten, HasComponents, IsRegionsAnswer}
use Rattle.mw_c_geodesic.specs.Told.{IsToldBySymmetry, number_told}
use Rattle.mw_c_geodesic.proofs.Answered.{told_not_zero}

-- one component more
pub row_more : (regions : List Region) (k : ℕ) (d : Region) (old out : List ℕ) → k < length regions → out ≡ region_rows (take k regions) ++ drop (7 * k) old
    → put_at (7 * k) (region_row (get_or regions k d)) out ≡ region_rows (take (k + 1) regions) ++ drop (7 * (k + 1)) old
row_more regions k d old out lt is =
    let r = get_or regions k d in
    let many : length (take k regions) ≡ k = length-take-le k regions (omega arith) in
    let here : out ≡ rows_over (take k regions) old = is ∙ ap (λ (n : ℕ). region_rows (take k regions) ++ drop (7 * n) old) (sym many) in
    rows_push (take k regions) r k old out (sym many) here
    ∙ ap (λ (t : List Region). rows_over t old) (sym (take_more regions k d lt))
    ∙ ap (λ (n : ℕ). region_rows (take (k + 1) regions) ++ drop (7 * n) old) (length-take-le (k + 1) regions (omega arith))

-- ---- what is answered

same_number : (m n : ℕ) → pos m ≡ pos n → m ≡ n
same_number m n e = cc

length_not_zero : (answer : ℤ) → answer ≡ refusal_number code.Length → answer ≡ pos 0 → ⊥
length_not_zero answer is zero = told_not_zero (refusal.Of code.Length) (sym is ∙ zero)

-- what is answered where there is room
abbrev Written : ℤ → ℕ → ℕ → Type 0
Written answer room n = 7 * n ≤ room → answer ≡ pos 0

-- what is answered where there is none
abbrev Short : ℤ → ℕ → ℕ → Type 0
Short answer room n = room < 7 * n → answer ≡ refusal_number code.Length

-- what is answered where nothing was made
abbrev Refused : ℤ → ℕ → ℕ → Refusal → Type 0
Refused answer was now c = (answer ≡ number_told c) × (now ≡ was)

pub regions_zero : (r : Result ℕ Refusal) (e : List Offset) (f : Picture) (old new : List ℕ) (room was now : ℕ) (answer : ℤ) → room ≡ length old → IfOk r (λ n. AreRegionsTold e f n old new) → IfOk r (λ n. Short answer room n) → IfOk r (λ n. now ≡ n)
    → IfErr r (λ c. Refused answer was now c) → answer ≡ pos 0 → AreRegionsWritten e f now old new
regions_zero (Ok n) e f old new room was now answer same made short counted refused zero =
    elim (cases_lt room (7 * n)) [
      | inl less ↦ absurd (length_not_zero answer (short less) zero)
      | inr le ↦ subst (λ (t : ℕ). AreRegionsWritten e f t old new) (sym counted) (made.written (omega arith))
    ]
regions_zero (Err c) e f old new room was now answer same made short counted refused zero = absurd (told_not_zero c (sym refused.0 ∙ zero))

pub regions_kept : (r : Result ℕ Refusal) (e : List Offset) (f : Picture) (old new : List ℕ) (room : ℕ) (answer : ℤ) → room ≡ length old → IfOk r (λ n. AreRegionsTold e f n old new) → IfOk r (λ n. Written answer room n) → IfErr r (λ _. new ≡ old) → (answer ≡ pos 0 → ⊥) → new ≡ old
regions_kept (Ok n) e f old new room answer same made written kept not_zero =
    elim (cases_lt room (7 * n)) [
      | inl less ↦ made.unwritten (omega arith)
      | inr le ↦ absurd (not_zero (written le))
    ]
regions_kept (Err c) e f old new room answer same made written kept not_zero = kept

pub regions_counted : (r : Result ℕ Refusal) (e : List Offset) (f : Picture) (first : Option Code) (old new : List ℕ) (was now : ℕ) (answer : ℤ) → IfOk r (λ n. AreRegionsTold e f n old new) → IfOk r (λ n. now ≡ n) → IfErr r (λ c. Refused answer was now c)
    → IsToldBySymmetry e first r → first ≡ None → answer ≡ refusal_number code.Length → HasComponents e f now
regions_counted (Ok n) e f first old new was now answer made counted refused told none is = subst (λ (t : ℕ). HasComponents e f t) (sym counted) made.components
regions_counted (Err c) e f first old new was now answer made counted refused told none is =
    let told' : IsToldBySymmetry {A = ℕ} e None (Err c) = subst (λ (o : Option Code). IsToldBySymmetry {A = ℕ} e o (Err c)) none told in
    elim told' [
      | inl one_way ↦ absurd (other 55 (sym is ∙ refused.0 ∙ ap number_told one_way.0) (omega arith))
      | inr memory ↦ absurd (other 50 (sym is ∙ refused.0 ∙ ap number_told memory) (omega arith))
    ]
  where
    other : (n : ℕ) → pos 11 ≡ pos n → 12 ≤ n → ⊥
    other n e far = let same = same_number 11 n e in omega arith

-- something is made only where nothing is wrong
nothing_wrong : (e : List Offset) (first : Option Code) (n : ℕ) → IsToldBySymmetry e first (Ok n) → first ≡ None
nothing_wrong e (Some c) n told = absurd cc
nothing_wrong e None n told = refl

pub regions_uncounted : (r : Result ℕ Refusal) (e : List Offset) (first : Option Code) (room was now : ℕ) (answer : ℤ) → IfOk r (λ n. Written answer room n) → IfOk r (λ n. Short answer room n) → IfErr r (λ c. Refused answer was now c) → IsToldBySymmetry e first r
    → (answer ≡ pos 0 → ⊥) → ((first ≡ None → ⊥) ⊎ (answer ≡ refusal_number code.Length → ⊥)) → now ≡ was
regions_uncounted (Ok n) e first room was now answer written short refused told not_zero other =
    elim (cases_lt room (7 * n)) [
      | inr le ↦ absurd (not_zero (written le))
      | inl less ↦ elim other [
        | inl wrong ↦ absurd (wrong (nothing_wrong e first n told))
        | inr not_short ↦ absurd (not_short (short less))
      ]
    ]
regions_uncounted (Err c) e first room was now answer written short refused told not_zero other = refused.1

told_regions : (r : Result ℕ Refusal) (e : List Offset) (room was now : ℕ) (answer : ℤ) → IfOk r (λ n. Written answer room n) → IfOk r (λ n. Short answer room n) → IfOk r (λ n. now ≡ n) → IfErr r (λ c. Refused answer was now c) → IsToldBySymmetry e None r
    → IsRegionsAnswer e None room now answer
told_regions (Ok n) e room was now answer written short counted refused told =
    elim (cases_lt room (7 * n)) [
      | inl less ↦ inr (inl (short less, told, omega arith))
      | inr le ↦ inl (written le, told, omega arith)
    ]
told_regions (Err c) e room was now answer written short counted refused told =
    elim told [
      | inl one_way ↦ inr (inr (inl (refused.0 ∙ ap number_told one_way.0, one_way.1)))
      | inr memory ↦ inr (inr (inr (refused.0 ∙ ap number_told memory)))
    ]

wrong_regions : (r : Result ℕ Refusal) (c : Code) (was now : ℕ) (answer : ℤ) → IfErr r (λ d. Refused answer was now d) → r ≡ Err (refusal.Of c) → answer ≡ refusal_number c
wrong_regions (Ok n) c was now answer refused is = absurd cc
wrong_regions (Err d) c was now answer refused is =
    let same : d ≡ refusal.Of c = cc in
    refused.0 ∙ ap number_told same

pub regions_answered : (r : Result ℕ Refusal) (e : List Offset) (first : Option Code) (room was now : ℕ) (answer : ℤ) → IfOk r (λ n. Written answer room n) → IfOk r (λ n. Short answer room n) → IfOk r (λ n. now ≡ n) → IfErr r (λ c. Refused answer was now c)
    → IsToldBySymmetry e first r → IsRegionsAnswer e first room now answer
regions_answered r e None room was now answer written short counted refused told = told_regions r e room was now answer written short counted refused told
regions_answered r e (Some c) room was now answer written short counted refused told = wrong_regions r c was now answer refused told

-- ---- labels beside them

pub told_beside : (r : Result ℕ Refusal) (e : List Offset) (f : Picture) (old_rows rows old new : List ℕ) → IfOk r (λ n. AreRegionsWithLabels e f n old_rows rows old new) → IfOk r (λ n. AreRegionsTold e f n old_rows rows)
told_beside (Ok n) e f old_rows rows old new made = made.told
told_beside (Err c) e f old_rows rows old new made = tt

pub rows_kept : (r : Result ℕ Refusal) (old_rows rows old new : List ℕ) → IfErr r (λ _. (rows ≡ old_rows) × (new ≡ old)) → IfErr r (λ _. rows ≡ old_rows)
rows_kept (Ok n) old_rows rows old new kept = tt
rows_kept (Err c) old_rows rows old new kept = kept.0

pub labels_beside : (r : Result ℕ Refusal) (e : List Offset) (f : Picture) (old_rows rows old new : List ℕ) (room was now : ℕ) (answer : ℤ) → room ≡ length old_rows → IfOk r (λ n. AreRegionsWithLabels e f n old_rows rows old new) → IfOk r (λ n. Short answer room n)
    → IfOk r (λ n. now ≡ n) → IfErr r (λ c. Refused answer was now c) → answer ≡ pos 0 → IsLabelling e f now new
labels_beside (Ok n) e f old_rows rows old new room was now answer same made short counted refused zero =
    elim (cases_lt room (7 * n)) [
      | inl less ↦ absurd (length_not_zero answer (short less) zero)
      | inr le ↦ subst (λ (t : ℕ). IsLabelling e f t new) (sym counted) (made.labels (omega arith))
    ]
labels_beside (Err c) e f old_rows rows old new room was now answer same made short counted refused zero = absurd (told_not_zero c (sym refused.0 ∙ zero))

pub labels_kept : (r : Result ℕ Refusal) (e : List Offset) (f : Picture) (old_rows rows old new : List ℕ) (room : ℕ) (answer : ℤ) → room ≡ length old_rows → IfOk r (λ n. AreRegionsWithLabels e f n old_rows rows old new) → IfOk r (λ n. Written answer room n)
    → IfErr r (λ _. (rows ≡ old_rows) × (new ≡ old)) → (answer ≡ pos 0 → ⊥) → new ≡ old
labels_kept (Ok n) e f old_rows rows old new room answer same made written kept not_zero =
    elim (cases_lt room (7 * n)) [
      | inl less ↦ made.unlabelled (omega arith)
      | inr le ↦ absurd (not_zero (written le))
    ]
labels_kept (Err c) e f old_rows rows old new room answer same made written kept not_zero = kept.1
