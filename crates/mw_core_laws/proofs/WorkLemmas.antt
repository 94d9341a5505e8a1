-- Work stays what it is while the machine goes on.
use Rattle.std.proofs.Common.{◌≡◌, ℕ, ◌<◌, true, inl, inr, List, [], ◌∷◌, length, map, set, get_or, Option, None, refl, sym, ap, ◌∙◌, subst, arith}
use Rattle.std.specs.List.{AllByRecursion, list_all}
use Rattle.std.proofs.lemmas.List.{get_or-set_same, get_or-set_other}
use Rattle.std.proofs.lemmas.Bool.{cases_eq}
use Rattle.mw_model.proofs.mw_facts.Elements.{get_or-push_below}
use Rattle.mw_model.proofs.mw_facts.Tests.{list_all-weaker}
use Rattle.mw_model.specs.declared.names.Name.{Name}
use Rattle.mw_model.specs.declared.submissions.Submission.{Submission}
use Rattle.mw_model.specs.declared.calls.Outcome.{Outcome}
use Rattle.mw_model.specs.declared.calls.Outcome.TheVariants as outcome
use Rattle.mw_model.specs.Pictures.{Picture}
use Rattle.mw_model.specs.Values.{Value, tickets, value_at}
use Rattle.mw_model.specs.Refusals.{no_submission, outcome_at, submission_at, is_dead, is_there}
use Rattle.mw_model.specs.Machine.{Machine, values, with_table, killed, settled}
use Rattle.mw_model.specs.Plans.{IsSourceAt, images_of, planes, value_of_planes}
use Rattle.mw_model.specs.Tasks.{Progress, nothing_planned, planned_of, tile_of_task, sources_of, made_of_planes}
use Rattle.mw_model.specs.Stands.{IsWork, inputs_of, inputs_there, input_values}
use Rattle.mw_store.specs.mw_model_laws.MachineLaws.{IsSound}
use Rattle.mw_store.proofs.mw_model_laws.RunSteps.{pushed}
use Rattle.mw_core_laws.proofs.Later.{there-within, length-values}
use Rattle.mw_core_laws.proofs.FateLemmas.{killed-fate, there-stays}
use Rattle.mw_core_laws.proofs.AgreeLemmas.{values-pushed}

-- work is told by the submission, its value, the values of its inputs, and whether these are there
pub work-same : (m n : Machine) (t : ℕ) (p : Progress) → IsWork m t p → submission_at n.table.submissions t ≡ submission_at m.table.submissions t
    → value_at (values n) t ≡ value_at (values m) t → input_values n t ≡ input_values m t → (inputs_there m.table t ≡ true → inputs_there n.table t ≡ true) → IsWork n t p
work-same m n t p w sub val inp there =
    let Frames : List (Option Value) → Type 0 = λ vs. AllByRecursion (λ (f : Picture). (f.width ≡ p.width) × (f.height ≡ p.height)) (images_of vs) in
    let Sources : List (Option Value) → Type 0 = λ vs. (k : ℕ) → AllByRecursion (IsSourceAt (length (images_of vs)) k) (get_or p.plan k nothing_planned).sources in
    record {
      means = ap (λ vs. value_of_planes (submission_at n.table.submissions t).shape p.plan (planes p.plan (images_of vs) p.width p.height)) inp
          ∙ ap (λ (e : Submission). value_of_planes e.shape p.plan (planes p.plan (images_of (input_values m t)) p.width p.height)) sub ∙ w.means ∙ sym val;
      frames = subst Frames (sym inp) w.frames;
      sources = subst Sources (sym inp) w.sources;
      covers = w.covers;
      started = w.started;
      finished = w.finished;
      places = w.places;
      small = w.small;
      unfinished = w.unfinished;
      begun = w.begun;
      there = λ k f. there (w.there k f);
      placed = λ k cells h.
          let was = w.placed k cells h in
          (was.0, was.1 ∙ ap (λ vs. made_of_planes (planned_of p k).step (sources_of p (images_of vs) (planes p.plan (images_of vs) p.width p.height) k) (tile_of_task p k)) (sym inp));
      needed = w.needed;
    }

-- ---- inputs

pub map-below : (f g : ℕ → Option Value) (n : ℕ) (xs : List ℕ) → AllByRecursion (λ i. i < n) xs → ((i : ℕ) → i < n → f i ≡ g i) → map f xs ≡ map g xs
map-below f g n [] h same = refl
map-below f g n (x ∷ xs) h same = rw (same x h.0, map-below f g n xs h.1 same) refl

-- ---- the machine goes on

-- one entry more
pub work-pushed : (m : Machine) (n : Name) (e : Submission) (o : Outcome) (x : Option Value) (t : ℕ) (p : Progress) → IsSound m → t < length m.table.names → IsWork m t p → IsWork (pushed m n e o x) t p
work-pushed m n e o x t p s within w =
    let k = pushed m n e o x in
    let all = values-pushed m n e o x s in
    let long = length-values m s in
    let sub : submission_at k.table.submissions t ≡ submission_at m.table.submissions t = get_or-push_below m.table.submissions e no_submission t (omega (arith, s.lengths.submissions)) in
    let value : (i : ℕ) → i < length m.table.names → value_at (values k) i ≡ value_at (values m) i
    = λ i l. ap (λ vs. value_at vs i) all ∙ get_or-push_below (values m) _ None i (omega arith) in
    let inputs : inputs_of k.table t ≡ inputs_of m.table t = ap (λ (d : Submission). tickets d.inputs) sub in
    let inp : input_values k t ≡ input_values m t
    = ap (map (value_at (values k))) inputs ∙ map-below (value_at (values k)) (value_at (values m)) t (inputs_of m.table t) (s.inputs t within) (λ i l. value i (omega arith)) in
    work-same m k t p w sub (value t within) inp (λ h.
    ap (list_all (λ i. is_there (outcome_at k.table.outcomes i))) inputs
    ∙ list_all-weaker (λ i. is_there (outcome_at m.table.outcomes i)) (λ i. is_there (outcome_at k.table.outcomes i)) (inputs_of m.table t)
    (λ i l. let there : i < length m.table.outcomes = there-within m.table.outcomes i l in ap is_there (get_or-push_below m.table.outcomes o outcome.Pending i there) ∙ l) h)

-- other outcomes, where what was there is there
pub work-outcomes : (m : Machine) (os : List Outcome) (t : ℕ) (p : Progress) → ((i : ℕ) → is_there (outcome_at m.table.outcomes i) ≡ true → is_there (outcome_at os i) ≡ true)
    → IsWork m t p → IsWork (with_table m (record m.table { outcomes = os })) t p
work-outcomes m os t p stays w =
    work-same m (with_table m (record m.table { outcomes = os })) t p w refl refl refl
    (λ h. list_all-weaker (λ i. is_there (outcome_at m.table.outcomes i)) (λ i. is_there (outcome_at os i)) (inputs_of m.table t) stays h)

pub work-killed : (m : Machine) (t : ℕ) (cause : Outcome) (u : ℕ) (p : Progress) → IsSound m → t < length m.table.outcomes → outcome_at m.table.outcomes t ≡ outcome.Pending → is_dead cause ≡ true
    → IsWork m u p → IsWork (with_table m (killed m.table t cause)) u p
unfolding killed
work-killed m t cause u p s within pending dead w =
    let after = killed m.table t cause in
    let fate = killed-fate m.table t cause (s.lengths.submissions ∙ sym s.lengths.outcomes) within pending dead in
    work-outcomes m after.outcomes u p (λ i h. ap is_there (there-stays (outcome_at m.table.outcomes i) (outcome_at after.outcomes i) (fate i) h) ∙ h) w

pub work-settled : (m : Machine) (t : ℕ) (o : Outcome) (u : ℕ) (p : Progress) → t < length m.table.outcomes → is_there o ≡ true
    → IsWork m u p → IsWork (with_table m (settled m.table t o)) u p
work-settled m t o u p within is w =
    work-outcomes m (set m.table.outcomes t o) u p (λ i h. elim (cases_eq i t) [
      | inl e ↦ let f : outcome_at (set m.table.outcomes t o) i ≡ o = rw e (get_or-set_same m.table.outcomes t o outcome.Pending within) in ap is_there f ∙ is
      | inr n ↦ ap is_there (get_or-set_other m.table.outcomes t i o outcome.Pending n) ∙ h
    ]) w
