-- Needs, one step after another.
use Rattle.std.proofs.Common.{◌≡◌, ◌≢◌, ℕ, ◌+◌, ◌<◌, List, [], ◌∷◌, ◌++◌, length, get_or, sym, ap, subst, ◌∙◌, arith, inl, inr}
use Rattle.std.proofs.lemmas.Bool.{cases_eq}
use Rattle.std.proofs.lemmas.List.{get_or_append_left, get_or_push}
use Rattle.mw_model.specs.Plans.{Plan}
use Rattle.mw_model.specs.Tasks.{nothing_planned}
use Rattle.mw_ready.specs.declared.need.Need.{Need}
use Rattle.mw_ready.specs.Boards.{no_need}
use Rattle.mw_ready.specs.Work.{IsNeedOf}

pub needs_more : (plan : Plan) (old new : List Need) (need : Need) (k : ℕ) → length old ≡ k → new ≡ old ++ need ∷ [] → ((j : ℕ) → j < k → IsNeedOf (get_or old j no_need) (get_or plan j nothing_planned))
    → IsNeedOf need (get_or plan k nothing_planned) → (j : ℕ) → j < k + 1 → IsNeedOf (get_or new j no_need) (get_or plan j nothing_planned)
needs_more plan old new need k size is before here j lt = elim (cases_eq j k) [
  | inl same ↦
      let found : get_or new j no_need ≡ need = ap (λ (ns : List Need). get_or ns j no_need) is ∙ get_or_push old need no_need j (omega arith) in
      subst (λ (n : Need). IsNeedOf n (get_or plan j nothing_planned)) (sym found) (subst (λ (i : ℕ). IsNeedOf need (get_or plan i nothing_planned)) (sym same) here)
  | inr other ↦
      let less : j < k = below j k lt other in
      let found : get_or new j no_need ≡ get_or old j no_need = ap (λ (ns : List Need). get_or ns j no_need) is ∙ get_or_append_left old (need ∷ []) no_need j (omega arith) in
      subst (λ (n : Need). IsNeedOf n (get_or plan j nothing_planned)) (sym found) (before j less)
]
  where
    below : (j k : ℕ) → j < k + 1 → j ≢ k → j < k
    below j k lt other = omega arith
