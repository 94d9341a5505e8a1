-- Plans that read one image.
use Rattle.std.proofs.Common.{◌≡◌, ℕ, zero, suc, ◌<◌, false, List, [], ◌∷◌, ◌++◌, Result, IfOk, refl, ap, subst, sym, arith, ◌∙◌}
use Rattle.std.specs.Prelude.{slice_index_or}
use Rattle.std.specs.List.{AllByRecursion}
use Rattle.std.proofs.lemmas.Result.{IfOk-weaker}
use Rattle.mw_model.specs.declared.offsets.Offset.{Offset}
use Rattle.mw_model.specs.Pictures.{Picture}
use Rattle.mw_model.specs.Flat.{reflected, minus, erosion, dilation, opening, closing, white_top_hat, black_top_hat}
use Rattle.mw_model.specs.PlanSteps.{PlanStep, Minus}
use Rattle.mw_model.specs.Plans.{Plan, Planned, Source, FromInput, FromStep, IsSourceAt, is_sum, plane_of}
use Rattle.mw_model.specs.Tasks.{nothing_planned}
use Rattle.mw_step_task.proofs.Cut.{plane_of_two}
use Rattle.mw_plan.specs.declared.extremum.ExtremumKind.{ExtremumKind}
use Rattle.mw_plan.specs.declared.extremum.ExtremumKind.TheVariants.{Least, Greatest}
use Rattle.mw_plan.specs.PlansOf.{AreAlike, CanBeMade, planes_read}
use Rattle.mw_plan.specs.Steps.{ActsAs, IsChain, Makes, filtering, greater, less, lesser, of_image, of_step, residue, sliding}

-- the plane of a step on an image
abbrev plane_on : PlanStep → Picture → Picture
plane_on s f = plane_of s (f ∷ []) f.width f.height

pub alone_makes : (s : PlanStep) (operator : Picture → Picture) (plan : Plan) → plan ≡ of_image s ∷ [] → ActsAs s operator → Makes 1 operator plan
alone_makes s operator plan is acts = subst (Makes 1 operator) (sym is) (record {
  some = omega arith;
  few = omega arith;
  steps = refl;
  sources = sources;
  unsummed = unsummed;
  read = (0, omega arith, (0, omega arith, refl));
  made = made;
  last = acts.plane;
})
  where
    sources : (k : ℕ) → AllByRecursion (IsSourceAt 1 k) (slice_index_or (of_image s ∷ []) k nothing_planned).sources
    sources zero = (omega arith, tt)
    sources (suc k) = tt

    unsummed : (k : ℕ) → is_sum (slice_index_or (of_image s ∷ []) k nothing_planned).step ≡ false
    unsummed zero = acts.unsummed
    unsummed (suc k) = refl

    made : (f : Picture) (k : ℕ) → k < 1 → CanBeMade (slice_index_or (of_image s ∷ []) k nothing_planned).step (planes_read (of_image s ∷ []) (f ∷ []) f.width f.height k)
    made f zero lt = acts.made f
    made f (suc k) lt = absurd (omega arith)

-- two steps in a row
pub in_turn_makes : (s t : PlanStep) (first second : Picture → Picture) → ActsAs s first → ActsAs t second → Makes 2 (λ f. second (first f)) (of_image s ∷ of_step 0 t ∷ [])
in_turn_makes s t first second acts_first acts_second = record {
  some = omega arith;
  few = omega arith;
  steps = refl;
  sources = sources;
  unsummed = unsummed;
  read = (0, omega arith, (0, omega arith, refl));
  made = made;
  last = λ f. acts_second.plane (plane_on s f) ∙ ap second (acts_first.plane f);
}
  where
    sources : (k : ℕ) → AllByRecursion (IsSourceAt 1 k) (slice_index_or (of_image s ∷ of_step 0 t ∷ []) k nothing_planned).sources
    sources zero = (omega arith, tt)
    sources (suc zero) = (omega arith, tt)
    sources (suc (suc k)) = tt

    unsummed : (k : ℕ) → is_sum (slice_index_or (of_image s ∷ of_step 0 t ∷ []) k nothing_planned).step ≡ false
    unsummed zero = acts_first.unsummed
    unsummed (suc zero) = acts_second.unsummed
    unsummed (suc (suc k)) = refl

    made : (f : Picture) (k : ℕ) → k < 2 → CanBeMade (slice_index_or (of_image s ∷ of_step 0 t ∷ []) k nothing_planned).step (planes_read (of_image s ∷ of_step 0 t ∷ []) (f ∷ []) f.width f.height k)
    made f zero lt = acts_first.made f
    made f (suc zero) lt = acts_second.made (plane_on s f)
    made f (suc (suc k)) lt = absurd (omega arith)

pub chain_makes : (x : ExtremumKind) (e : List Offset) (plan : Plan) → IsChain x e plan → Makes 2 (filtering x e) plan
chain_makes Least e plan c = subst (Makes 2 (opening e)) (sym c.is) (in_turn_makes c.first c.second (erosion e) (dilation (reflected e)) c.acts_first c.acts_second)
chain_makes Greatest e plan c = subst (Makes 2 (closing e)) (sym c.is) (in_turn_makes c.first c.second (dilation e) (erosion (reflected e)) c.acts_first c.acts_second)

-- the difference of two images of one shape
pub less_of : (f g : Picture) → g.width ≡ f.width → g.height ≡ f.height → plane_of Minus (f ∷ g ∷ []) f.width f.height ≡ minus f g
less_of f g width height = plane_of_two f g width height

-- a plan that ends in the difference of two sources
abbrev three : PlanStep → Planned → Source → Source → Plan
three s second x y = of_image s ∷ second ∷ less x y ∷ []

three_sources : (s : PlanStep) (second : Planned) (x y : Source) → AllByRecursion (IsSourceAt 1 1) second.sources → IsSourceAt 1 2 x → IsSourceAt 1 2 y
    → (k : ℕ) → AllByRecursion (IsSourceAt 1 k) (slice_index_or (three s second x y) k nothing_planned).sources
three_sources s second x y two p q zero = (omega arith, tt)
three_sources s second x y two p q (suc zero) = two
three_sources s second x y two p q (suc (suc zero)) = (p, (q, tt))
three_sources s second x y two p q (suc (suc (suc k))) = tt

three_unsummed : (s : PlanStep) (second : Planned) (x y : Source) → is_sum s ≡ false → is_sum second.step ≡ false → (k : ℕ) → is_sum (slice_index_or (three s second x y) k nothing_planned).step ≡ false
three_unsummed s second x y p q zero = p
three_unsummed s second x y p q (suc zero) = q
three_unsummed s second x y p q (suc (suc zero)) = refl
three_unsummed s second x y p q (suc (suc (suc k))) = refl

-- the plane of two steps in a row
abbrev plane_after : PlanStep → PlanStep → Picture → Picture
plane_after s t f = plane_of t (plane_on s f ∷ []) f.width f.height

after_is : (s t : PlanStep) (first second : Picture → Picture) → ActsAs s first → ActsAs t second → (f : Picture) → plane_after s t f ≡ second (first f)
after_is s t first second acts_first acts_second f = acts_second.plane (plane_on s f) ∙ ap second (acts_first.plane f)

-- an image less what two steps make of it
below_makes : (s t : PlanStep) (first second : Picture → Picture) → ActsAs s first → ActsAs t second → ((f : Picture) → AreAlike f (second (first f)))
    → Makes 3 (λ f. minus f (second (first f))) (three s (of_step 0 t) (FromInput 0) (FromStep 1))
below_makes s t first second acts_first acts_second alike = record {
  some = omega arith;
  few = omega arith;
  steps = refl;
  sources = three_sources s (of_step 0 t) (FromInput 0) (FromStep 1) (omega arith, tt) (omega arith) (omega arith);
  unsummed = three_unsummed s (of_step 0 t) (FromInput 0) (FromStep 1) acts_first.unsummed acts_second.unsummed;
  read = (0, omega arith, (0, omega arith, refl));
  made = made;
  last = λ f. less_of f (plane_after s t f) refl refl ∙ ap (minus f) (after_is s t first second acts_first acts_second f);
}
  where
    made : (f : Picture) (k : ℕ) → k < 3
        → CanBeMade (slice_index_or (three s (of_step 0 t) (FromInput 0) (FromStep 1)) k nothing_planned).step (planes_read (three s (of_step 0 t) (FromInput 0) (FromStep 1)) (f ∷ []) f.width f.height k)
    made f zero lt = acts_first.made f
    made f (suc zero) lt = acts_second.made (plane_on s f)
    made f (suc (suc zero)) lt = record { count = refl; kinds = subst (λ (g : Picture). AreAlike f g) (sym (after_is s t first second acts_first acts_second f)) (alike f) }
    made f (suc (suc (suc k))) lt = absurd (omega arith)

-- what two steps make of an image less the image
above_makes : (s t : PlanStep) (first second : Picture → Picture) → ActsAs s first → ActsAs t second → ((f : Picture) → AreAlike (second (first f)) f)
    → Makes 3 (λ f. minus (second (first f)) f) (three s (of_step 0 t) (FromStep 1) (FromInput 0))
above_makes s t first second acts_first acts_second alike = record {
  some = omega arith;
  few = omega arith;
  steps = refl;
  sources = three_sources s (of_step 0 t) (FromStep 1) (FromInput 0) (omega arith, tt) (omega arith) (omega arith);
  unsummed = three_unsummed s (of_step 0 t) (FromStep 1) (FromInput 0) acts_first.unsummed acts_second.unsummed;
  read = (0, omega arith, (0, omega arith, refl));
  made = made;
  last = λ f. less_of (plane_after s t f) f refl refl ∙ ap (λ (g : Picture). minus g f) (after_is s t first second acts_first acts_second f);
}
  where
    made : (f : Picture) (k : ℕ) → k < 3
        → CanBeMade (slice_index_or (three s (of_step 0 t) (FromStep 1) (FromInput 0)) k nothing_planned).step (planes_read (three s (of_step 0 t) (FromStep 1) (FromInput 0)) (f ∷ []) f.width f.height k)
    made f zero lt = acts_first.made f
    made f (suc zero) lt = acts_second.made (plane_on s f)
    made f (suc (suc zero)) lt = record { count = refl; kinds = subst (λ (g : Picture). AreAlike g f) (sym (after_is s t first second acts_first acts_second f)) (alike f) }
    made f (suc (suc (suc k))) lt = absurd (omega arith)

-- what one step makes of an image less what another makes of it
pub difference_makes : (s t : PlanStep) (first second : Picture → Picture) (plan : Plan) → plan ≡ three s (of_image t) (FromStep 0) (FromStep 1) → ActsAs s first → ActsAs t second → ((f : Picture) → AreAlike (first f) (second f))
    → Makes 3 (λ f. minus (first f) (second f)) plan
difference_makes s t first second plan is acts_first acts_second alike = subst (Makes 3 (λ f. minus (first f) (second f))) (sym is) (record {
  some = omega arith;
  few = omega arith;
  steps = refl;
  sources = three_sources s (of_image t) (FromStep 0) (FromStep 1) (omega arith, tt) (omega arith) (omega arith);
  unsummed = three_unsummed s (of_image t) (FromStep 0) (FromStep 1) acts_first.unsummed acts_second.unsummed;
  read = (0, omega arith, (0, omega arith, refl));
  made = made;
  last = λ f. less_of (plane_on s f) (plane_on t f) refl refl ∙ ap (λ (g : Picture). minus g (plane_on t f)) (acts_first.plane f) ∙ ap (minus (first f)) (acts_second.plane f);
})
  where
    made : (f : Picture) (k : ℕ) → k < 3
        → CanBeMade (slice_index_or (three s (of_image t) (FromStep 0) (FromStep 1)) k nothing_planned).step (planes_read (three s (of_image t) (FromStep 0) (FromStep 1)) (f ∷ []) f.width f.height k)
    made f zero lt = acts_first.made f
    made f (suc zero) lt = acts_second.made f
    made f (suc (suc zero)) lt = record {
      count = refl;
      kinds = subst (λ (g : Picture). AreAlike (plane_on s f) g) (sym (acts_second.plane f)) (subst (λ (g : Picture). AreAlike g (second f)) (sym (acts_first.plane f)) (alike f));
    }
    made f (suc (suc (suc k))) lt = absurd (omega arith)

-- extrema of one image are alike
pub alike_extrema : (x y : ExtremumKind) (e d : List Offset) (f : Picture) → AreAlike (sliding x e f) (sliding y d f)
alike_extrema Least Least e d f = (refl, refl)
alike_extrema Least Greatest e d f = (refl, refl)
alike_extrema Greatest Least e d f = (refl, refl)
alike_extrema Greatest Greatest e d f = (refl, refl)

pub residue_makes : (x : ExtremumKind) (e : List Offset) (chain plan : Plan) → IsChain x e chain → plan ≡ chain ++ less (greater x) (lesser x) ∷ [] → Makes 3 (residue x e) plan
residue_makes Least e chain plan c is =
    subst (Makes 3 (white_top_hat e)) (sym (is ∙ ap (λ (p : Plan). p ++ less (FromInput 0) (FromStep 1) ∷ []) c.is))
    (below_makes c.first c.second (erosion e) (dilation (reflected e)) c.acts_first c.acts_second (λ f. (refl, refl)))
residue_makes Greatest e chain plan c is =
    subst (Makes 3 (black_top_hat e)) (sym (is ∙ ap (λ (p : Plan). p ++ less (FromStep 1) (FromInput 0) ∷ []) c.is))
    (above_makes c.first c.second (dilation e) (erosion (reflected e)) c.acts_first c.acts_second (λ f. (refl, refl)))

-- three steps added to a plan without any
pub three_pushed : (p0 p1 p2 p3 : Plan) (a b d x y z : Planned) → p0 ≡ [] → p1 ≡ p0 ++ a ∷ [] → a ≡ x → p2 ≡ p1 ++ b ∷ [] → b ≡ y → p3 ≡ p2 ++ d ∷ [] → d ≡ z → p3 ≡ x ∷ y ∷ z ∷ []
three_pushed p0 p1 p2 p3 a b d x y z none first a-is second b-is third d-is =
    let one : p1 ≡ x ∷ [] = first ∙ ap (λ (p : Plan). p ++ a ∷ []) none ∙ ap (λ (t : Planned). t ∷ []) a-is in
    let two : p2 ≡ x ∷ y ∷ [] = second ∙ ap (λ (p : Plan). p ++ b ∷ []) one ∙ ap (λ (t : Planned). x ∷ t ∷ []) b-is in
    third ∙ ap (λ (p : Plan). p ++ d ∷ []) two ∙ ap (λ (t : Planned). x ∷ y ∷ t ∷ []) d-is

-- a plan of one step that acts as an operator, if there was memory for it
pub alone_if_ok : (E : Type 0) (r : Result Plan E) (s : PlanStep) (operator : Picture → Picture) → ActsAs s operator → IfOk r (λ p. p ≡ of_image s ∷ []) → IfOk r (Makes 1 operator)
alone_if_ok E r s operator acts = IfOk-weaker r (λ p. p ≡ of_image s ∷ []) (Makes 1 operator) (λ p is. alone_makes s operator p is acts)
