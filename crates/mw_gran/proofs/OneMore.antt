-- What one more step does to a plan that grows.
use Rattle.std.proofs.Common.{◌≡◌, ℕ, zero, suc, ◌+◌, ◌<◌, ◌≤◌, Bool, true, false, List, [], ◌∷◌, ◌++◌, length, map, sum, refl, ap, sym, subst, arith, ◌∙◌, inl, inr, length-append}
use Rattle.std.specs.Prelude.{slice_index_or, Contains}
use Rattle.std.specs.List.{AllByRecursion}
use Rattle.std.proofs.lemmas.Bool.{cases_lt, cases_eq}
use Rattle.std.proofs.Math.ListN.{get_or-append}
use Rattle.std.proofs.Math.Seq.{get_or-append_seam}
use Rattle.mw_model.specs.Pictures.{Picture}
use Rattle.mw_model.specs.PlanSteps.{PlanStep}
use Rattle.mw_model.specs.Plans.{Plan, Planned, Source, FromInput, FromStep, IsSourceAt, plane_of, planes, numbers_from, is_sum, with_number}
use Rattle.mw_model.specs.Tasks.{nothing_planned}
use Rattle.mw_plan.specs.PlansOf.{CanBeMade, IsPlaneSource, IsReadBy, planes_read}
use Rattle.mw_gran.specs.Growing.{source_seen, IsPushed, ShowsOperator, PlanIsSound, Acts, GivesNumbers}
use Rattle.mw_gran.proofs.Planes.{source_kept, source_pushed, numbers-push}

-- the step with its sources
abbrev planned : PlanStep → List Source → Planned
planned step sources = record { step = step; sources = sources }

length-pushed : (p : Plan) (s : Planned) → length (p ++ s ∷ []) ≡ suc (length p)
length-pushed p s = omega (arith, length-append p (s ∷ []))

-- ---- sources

IsSourceAt-later : (n k m : ℕ) (s : Source) → k ≤ m → IsSourceAt n k s → IsSourceAt n m s
IsSourceAt-later n k m (FromInput i) le is = is
IsSourceAt-later n k m (FromStep i) le is = omega arith

-- the sources are shown to be these images
pub data AreShown (Fits : Picture → Type 0) (p : Plan) : List Source → (Picture → List Picture) → Type 0 where
  none : AreShown Fits p [] (λ f. [])
  also : (s : Source) (sources : List Source) (operator : Picture → Picture) (shown : Picture → List Picture)
      → ShowsOperator Fits p s operator → AreShown Fits p sources shown → AreShown Fits p (s ∷ sources) (λ f. operator f ∷ shown f)

are_here : {Fits : Picture → Type 0} (p : Plan) (sources : List Source) (shown : Picture → List Picture) → AreShown Fits p sources shown → AllByRecursion (IsSourceAt 1 (length p)) sources
are_here p _ _ none = tt
are_here p _ _ (also s sources operator shown first rest) = (first.here, are_here p sources shown rest)

are_planes : {Fits : Picture → Type 0} (p : Plan) (sources : List Source) (shown : Picture → List Picture) → AreShown Fits p sources shown → AllByRecursion (IsPlaneSource p) sources
are_planes p _ _ none = tt
are_planes p _ _ (also s sources operator shown first rest) = (first.plane, are_planes p sources shown rest)

are_seen : {Fits : Picture → Type 0} (p : Plan) (sources : List Source) (shown : Picture → List Picture) → AreShown Fits p sources shown → (f : Picture) → Fits f → map (source_seen p f) sources ≡ shown f
are_seen p _ _ none f fits = refl
are_seen p _ _ (also s sources operator shown first rest) f fits =
    ap (λ (t : Picture). t ∷ map (source_seen p f) sources) (first.is f fits) ∙ ap (λ (t : List Picture). operator f ∷ t) (are_seen p sources shown rest f fits)

-- ---- one more step

-- where a step of the longer plan stands
at_front : (p : Plan) (s : Planned) (k : ℕ) → k < length p → slice_index_or (p ++ s ∷ []) k nothing_planned ≡ slice_index_or p k nothing_planned
at_front p s k lt = get_or-append p (s ∷ []) nothing_planned k lt

slice_index_or-at_end : (p : Plan) (s : Planned) (k : ℕ) → k ≡ length p → slice_index_or (p ++ s ∷ []) k nothing_planned ≡ s
slice_index_or-at_end p s k e = ap (λ (t : ℕ). slice_index_or (p ++ s ∷ []) t nothing_planned) e ∙ get_or-append_seam p s [] nothing_planned

slice_index_or-behind : (p : Plan) (k : ℕ) → length p ≤ k → slice_index_or p k nothing_planned ≡ nothing_planned
slice_index_or-behind [] k le = refl
slice_index_or-behind (s ∷ p) zero le = absurd (omega arith)
slice_index_or-behind (s ∷ p) (suc k) le = slice_index_or-behind p k (omega arith)

-- a plane stays one
still_plane : (p : Plan) (x : Planned) (n : ℕ) (s : Source) → n ≤ length p → IsSourceAt 1 n s → IsPlaneSource p s → IsPlaneSource (p ++ x ∷ []) s
still_plane p x n (FromInput i) le here plane = tt
still_plane p x n (FromStep i) le here plane = ap (λ (t : Planned). is_sum t.step) (at_front p x i (omega arith)) ∙ plane

still_planes : (p : Plan) (x : Planned) (n : ℕ) (sources : List Source) → n ≤ length p → AllByRecursion (IsSourceAt 1 n) sources → AllByRecursion (IsPlaneSource p) sources → AllByRecursion (IsPlaneSource (p ++ x ∷ [])) sources
still_planes p x n [] le here planes = tt
still_planes p x n (s ∷ sources) le here planes = (still_plane p x n s le here.0 planes.0, still_planes p x n sources le here.1 planes.1)

-- a source shows what it showed
pub still_shows : (Fits : Picture → Type 0) (p q : Plan) (step : PlanStep) (sources : List Source) (r s : Source) (operator : Picture → Picture)
    → IsPushed p q step sources r → ShowsOperator Fits p s operator → ShowsOperator Fits q s operator
still_shows Fits p q step sources r s operator pushed shows =
    subst (λ (t : Plan). ShowsOperator Fits t s operator) (sym pushed.is) (record {
      here = IsSourceAt-later 1 (length p) (length (p ++ planned step sources ∷ [])) s (omega (arith, length-pushed p (planned step sources))) shows.here;
      plane = still_plane p (planned step sources) (length p) s (omega arith) shows.here shows.plane;
      is = λ f fits. source_kept p (planned step sources) (f ∷ []) f.width f.height 1 s shows.here ∙ shows.is f fits;
      framed = shows.framed;
    })

-- the new source shows what the step does
pub now_shows : (Fits : Picture → Type 0) (p q : Plan) (step : PlanStep) (sources : List Source) (s : Source) (shown : Picture → List Picture) (operator : Picture → Picture)
    → IsPushed p q step sources s → AreShown Fits p sources shown → Acts Fits step shown operator → is_sum step ≡ false → ShowsOperator Fits q s operator
now_shows Fits p q step sources s shown operator pushed are acts unsummed =
    subst (λ (t : Source). ShowsOperator Fits q t operator) (sym pushed.at)
    (subst (λ (t : Plan). ShowsOperator Fits t (FromStep (length p)) operator) (sym pushed.is) (record {
      here = omega (arith, length-pushed p (planned step sources));
      plane = ap (λ (t : Planned). is_sum t.step) (slice_index_or-at_end p (planned step sources) (length p) refl) ∙ unsummed;
      is = λ f fits.
          source_pushed p (planned step sources) (f ∷ []) f.width f.height
          ∙ ap (λ (t : List Picture). plane_of step t f.width f.height) (are_seen p sources shown are f fits)
          ∙ acts.plane f fits;
      framed = acts.framed;
    }))

same_seen : (n : ℕ) (p : Plan) (s : Planned) (f : Picture) (sources : List Source) → AllByRecursion (IsSourceAt 1 n) sources → n ≤ length p
    → map (source_seen (p ++ s ∷ []) f) sources ≡ map (source_seen p f) sources
same_seen n p s f [] here le = refl
same_seen n p s f (r ∷ rs) here le =
    ap (λ (t : Picture). t ∷ map (source_seen (p ++ s ∷ []) f) rs) (source_kept p s (f ∷ []) f.width f.height 1 r (IsSourceAt-later 1 n (length p) r le here.0))
    ∙ ap (λ (t : List Picture). source_seen p f r ∷ t) (same_seen n p s f rs here.1 le)

-- the plan stays sound
pub still_sound : (Fits : Picture → Type 0) (p q : Plan) (step : PlanStep) (sources : List Source) (s : Source) (shown : Picture → List Picture) (operator : Picture → Picture)
    → IsPushed p q step sources s → AreShown Fits p sources shown → Acts Fits step shown operator → PlanIsSound Fits p → PlanIsSound Fits q
still_sound Fits p q step sources s shown operator pushed are acts sound =
    subst (PlanIsSound Fits) (sym pushed.is) (record { sources = source_at; planes = planes_at; made = made_at })
  where
    source_at : (k : ℕ) → AllByRecursion (IsSourceAt 1 k) (slice_index_or (p ++ planned step sources ∷ []) k nothing_planned).sources
    source_at k =
        elim (cases_lt k (length p)) [
          | inl lt ↦ subst (λ (t : Planned). AllByRecursion (IsSourceAt 1 k) t.sources) (sym (at_front p (planned step sources) k lt)) (sound.sources k)
          | inr le ↦ elim (cases_eq k (length p)) [
            | inl e ↦ subst (λ (t : Planned). AllByRecursion (IsSourceAt 1 k) t.sources) (sym (slice_index_or-at_end p (planned step sources) k e)) (subst (λ (n : ℕ). AllByRecursion (IsSourceAt 1 n) sources) (sym e) (are_here p sources shown are))
            | inr past ↦ subst (λ (t : Planned). AllByRecursion (IsSourceAt 1 k) t.sources) (sym (slice_index_or-behind (p ++ planned step sources ∷ []) k (omega (arith, length-pushed p (planned step sources))))) tt
          ]
        ]

    planes_at : (k : ℕ) → AllByRecursion (IsPlaneSource (p ++ planned step sources ∷ [])) (slice_index_or (p ++ planned step sources ∷ []) k nothing_planned).sources
    planes_at k =
        elim (cases_lt k (length p)) [
          | inl lt ↦
              subst (λ (t : Planned). AllByRecursion (IsPlaneSource (p ++ planned step sources ∷ [])) t.sources) (sym (at_front p (planned step sources) k lt))
              (still_planes p (planned step sources) k (slice_index_or p k nothing_planned).sources (omega arith) (sound.sources k) (sound.planes k))
          | inr le ↦ elim (cases_eq k (length p)) [
            | inl e ↦
                subst (λ (t : Planned). AllByRecursion (IsPlaneSource (p ++ planned step sources ∷ [])) t.sources) (sym (slice_index_or-at_end p (planned step sources) k e))
                (still_planes p (planned step sources) (length p) sources (omega arith) (are_here p sources shown are) (are_planes p sources shown are))
            | inr past ↦
                subst (λ (t : Planned). AllByRecursion (IsPlaneSource (p ++ planned step sources ∷ [])) t.sources)
                (sym (slice_index_or-behind (p ++ planned step sources ∷ []) k (omega (arith, length-pushed p (planned step sources))))) tt
          ]
        ]

    made_at : (f : Picture) → Fits f → (k : ℕ) → k < length (p ++ planned step sources ∷ [])
        → CanBeMade (slice_index_or (p ++ planned step sources ∷ []) k nothing_planned).step (planes_read (p ++ planned step sources ∷ []) (f ∷ []) f.width f.height k)
    made_at f fits k lt =
        elim (cases_lt k (length p)) [
          | inl front ↦
              subst (λ (t : Planned). CanBeMade t.step (map (source_seen (p ++ planned step sources ∷ []) f) t.sources)) (sym (at_front p (planned step sources) k front))
              (subst (CanBeMade (slice_index_or p k nothing_planned).step) (sym (same_seen k p (planned step sources) f (slice_index_or p k nothing_planned).sources (sound.sources k) (omega arith))) (sound.made f fits k front))
          | inr le ↦
              let e : k ≡ length p = omega (arith, length-pushed p (planned step sources)) in
              subst (λ (t : Planned). CanBeMade t.step (map (source_seen (p ++ planned step sources ∷ []) f) t.sources)) (sym (slice_index_or-at_end p (planned step sources) k e))
              (subst (CanBeMade step) (sym (same_seen (length p) p (planned step sources) f sources (are_here p sources shown are) (omega arith) ∙ are_seen p sources shown are f fits)) (acts.made f fits))
        ]

-- the image stays read
pub still_read : (p q : Plan) (step : PlanStep) (sources : List Source) (s : Source) → IsPushed p q step sources s → IsReadBy p 0 → IsReadBy q 0
still_read p q step sources s pushed (k, lt, has) =
    subst (λ (t : Plan). IsReadBy t 0) (sym pushed.is)
    (k, omega (arith, length-pushed p (planned step sources)), subst (λ (t : Planned). Contains t.sources (FromInput 0)) (sym (at_front p (planned step sources) k lt)) has)

-- or is read by the step
pub now_read : (p q : Plan) (step : PlanStep) (sources : List Source) (s : Source) → IsPushed p q step sources s → Contains sources (FromInput 0) → IsReadBy q 0
now_read p q step sources s pushed has =
    subst (λ (t : Plan). IsReadBy t 0) (sym pushed.is)
    (length p, omega (arith, length-pushed p (planned step sources)), subst (λ (t : Planned). Contains t.sources (FromInput 0)) (sym (slice_index_or-at_end p (planned step sources) (length p) refl)) has)

-- a step that is no sum adds no number
pub still_counts : (Fits : Picture → Type 0) (p q : Plan) (step : PlanStep) (sources : List Source) (s : Source) (numbers : Picture → List ℕ)
    → IsPushed p q step sources s → is_sum step ≡ false → GivesNumbers Fits p numbers → GivesNumbers Fits q numbers
still_counts Fits p q step sources s numbers pushed not counts = λ f fits.
    ap (λ (t : Plan). numbers_from t (planes t (f ∷ []) f.width f.height)) pushed.is
    ∙ numbers-push p (planned step sources) (f ∷ []) f.width f.height
    ∙ ap (λ (t : Bool). numbers_from p (planes p (f ∷ []) f.width f.height) ++ with_number t (sum (plane_of step (map (source_seen p f) sources) f.width f.height).samples) []) not
    ∙ append_none (numbers_from p (planes p (f ∷ []) f.width f.height))
    ∙ counts f fits
  where
    append_none : (xs : List ℕ) → xs ++ [] ≡ xs
    append_none [] = refl
    append_none (x ∷ xs) = ap (λ (t : List ℕ). x ∷ t) (append_none xs)

-- a sum adds the sum of what its source shows
pub now_counts : (Fits : Picture → Type 0) (p q : Plan) (step : PlanStep) (sources : List Source) (s : Source) (shown : Picture → List Picture) (operator : Picture → Picture) (numbers : Picture → List ℕ)
    → IsPushed p q step sources s → AreShown Fits p sources shown → Acts Fits step shown operator → is_sum step ≡ true → GivesNumbers Fits p numbers
    → GivesNumbers Fits q (λ f. numbers f ++ sum (operator f).samples ∷ [])
now_counts Fits p q step sources s shown operator numbers pushed are acts is counts = λ f fits.
    ap (λ (t : Plan). numbers_from t (planes t (f ∷ []) f.width f.height)) pushed.is
    ∙ numbers-push p (planned step sources) (f ∷ []) f.width f.height
    ∙ ap (λ (t : Bool). numbers_from p (planes p (f ∷ []) f.width f.height) ++ with_number t (sum (plane_of step (map (source_seen p f) sources) f.width f.height).samples) []) is
    ∙ ap (λ (t : Picture). numbers_from p (planes p (f ∷ []) f.width f.height) ++ sum t.samples ∷ [])
    (ap (λ (t : List Picture). plane_of step t f.width f.height) (are_seen p sources shown are f fits) ∙ acts.plane f fits)
    ∙ ap (λ (t : List ℕ). t ++ sum (operator f).samples ∷ []) (counts f fits)

pub pushed_count : (p q : Plan) (step : PlanStep) (sources : List Source) (s : Source) → IsPushed p q step sources s → length q ≡ suc (length p)
pushed_count p q step sources s pushed =
    let x : Planned = record { step = step; sources = sources } in
    omega (arith, ap length pushed.is, length-append p (x ∷ []))

pub thrice_count : (p p1 p2 p3 : Plan) (x y z : PlanStep) (xs ys zs : List Source) (r s t : Source) → IsPushed p p1 x xs r → IsPushed p1 p2 y ys s → IsPushed p2 p3 z zs t → length p3 ≡ length p + 3
thrice_count p p1 p2 p3 x y z xs ys zs r s t first second third = omega (arith, pushed_count p p1 x xs r first, pushed_count p1 p2 y ys s second, pushed_count p2 p3 z zs t third)

-- a plan with one step more, under another name of the step
pub with_step : (p q : Plan) (first second : PlanStep) (sources : List Source) (s : Source) → first ≡ second → IsPushed p q first sources s → IsPushed p q second sources s
with_step p q first second sources s same pushed = subst (λ (t : PlanStep). IsPushed p q t sources s) same pushed

-- the first step of a plan
pub pushed_empty : (p q : Plan) (step : PlanStep) (sources : List Source) (s : Source) → p ≡ [] → IsPushed p q step sources s → IsPushed [] q step sources s
pushed_empty p q step sources s empty pushed = subst (λ (t : Plan). IsPushed t q step sources s) empty pushed
