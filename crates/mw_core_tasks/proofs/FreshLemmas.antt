-- The work of a command that was just accepted: how many tasks it has, and that it is work of the machine after the command.
use Rattle.std.proofs.Common.{◌≡◌, ℕ, zero, suc, ◌+◌, ◌*◌, ◌<◌, ◌≤◌, Bool, false, not, List, [], ◌∷◌, length, map, take, Option, None, sym, ap, ◌∙◌, subst, arith}
use Rattle.std.specs.Prelude.{◌&&◌}
use Rattle.std.specs.List.{AllByRecursion}
use Rattle.std.proofs.lemmas.Nat.{mul-le}
use Rattle.mw_model.proofs.mw_facts.Counts.{count_by-none}
use Rattle.mw_model.proofs.mw_facts.Elements.{get_or-replicate_same}
use Rattle.mw_grid.proofs.Counts.{count-all}
use Rattle.mw_model.specs.declared.names.Name.{Name}
use Rattle.mw_model.specs.declared.operations.Op.{Op}
use Rattle.mw_model.specs.declared.calls.Call.TheVariants as call
use Rattle.mw_model.specs.declared.calls.Outcome.TheVariants as outcome
use Rattle.mw_model.specs.declared.shapes.Shape.{Shape}
use Rattle.mw_model.specs.declared.shapes.Shape.TheVariants as shape
use Rattle.mw_model.specs.declared.submissions.Submission.{Submission}
use Rattle.mw_model.specs.Pictures.{Picture}
use Rattle.mw_model.specs.Values.{Value, option_list, shape_of_picture, tickets, value_at}
use Rattle.mw_model.specs.Refusals.{Table, inputs_wanted, refusal}
use Rattle.mw_model.specs.Machine.{Machine, inputs_from, run_submission, values}
use Rattle.mw_model.specs.Plans.{images_of}
use Rattle.mw_model.specs.Stands.{Agrees, IsWork, CoreView, StandsFor}
use Rattle.mw_model.specs.Tasks.{Progress, flag, is_running, remaining_tasks, running_tasks, task_count}
use Rattle.mw_core_laws.specs.mw_model_laws.MachineLaws.{IsSound}
use Rattle.mw_core_laws.proofs.mw_model_laws.RunSteps.{pushed}
use Rattle.mw_grid.specs.Grids.{tile_count}
use Rattle.mw_core_laws.specs.mw_plan.declared.inputs.Input.{Input}
use Rattle.mw_core_laws.specs.mw_plan.declared.inputs.Input.TheVariants as input
use Rattle.mw_core_laws.specs.mw_plan.PlansOf.{AreValuesOf, HaveFrame, inputs_taken}
use Rattle.mw_core_laws.specs.mw_plan.Tables.{IsInputOf}
use Rattle.mw_core_laws.proofs.mw_plan.Accepted.{accepted_faultless, accepted_values, machine_values}
use Rattle.mw_core_laws.specs.mw_core_progress.ProgressView.{ProgressView}
use Rattle.mw_core_laws.proofs.Fresh.{only-image, tile_count-most, work-fresh}
use Rattle.mw_core_laws.proofs.Numbers.{some-tiles, task_count-whole}
use Rattle.mw_core_laws.specs.Limits.{FitsLimits, ShapesFit}
use Rattle.mw_core_laws.proofs.StandsLemmas.{stands-sound}
use Rattle.mw_core_tasks.specs.SourceWindows.{IsInput}
use Rattle.mw_core_tasks.specs.Planning.{IsPlannedBy}
use Rattle.mw_core_tasks.proofs.AcceptedLemmas.{accepted}
use Rattle.mw_core_tasks.proofs.PlanningLemmas.{each-ticket, first-there, image-told}

-- ---- tasks

area-input : (w : Table) (e : Submission) (u : ProgressView) → ShapesFit w → AllByRecursion (λ i. i < length w.names) (tickets e.inputs) → IsInput w e u → u.tiling.height * u.tiling.width ≤ 16777216
area-input w e u fit below reads =
    let P : Option ℕ → Type 0 = λ x. AllByRecursion (λ i. i < length w.names) (option_list x) in
    let within = (subst P reads.first (each-ticket (λ i. i < length w.names) e.inputs below).first).0 in
    (subst FitsLimits reads.shape (fit reads.image within)).3

-- all tasks are left and none is running
pub planned-fresh : (w : Table) (kept : List (Option Value)) (o : Op) (e : Submission) (side : ℕ) (u : ProgressView) → ShapesFit w → AllByRecursion (λ i. i < length w.names) (tickets e.inputs) → IsPlannedBy w kept o e side u
    → (1 ≤ remaining_tasks u.progress) × (task_count u.progress ≤ 4194304) × (remaining_tasks u.progress ≡ task_count u.progress) × (running_tasks u.progress ≡ 0)
planned-fresh w kept o e side u fit below by =
    let p = u.progress in
    let N = length p.plan * tile_count u.tiling in
    let count = task_count-whole u by.whole in
    let some = mul-le 1 1 (length p.plan) (tile_count u.tiling) by.whole.workable.some (some-tiles u.tiling) in
    let few = mul-le (length p.plan) (tile_count u.tiling) 896 4348 by.whole.workable.few (tile_count-most u.tiling by.whole.tiling (area-input w e u fit below by.on.input)) in
    let started : (k : ℕ) → flag p.started k ≡ false = λ k. ap (λ (q : Progress). flag q.started k) by.progress ∙ get_or-replicate_same N k false in
    let finished : (k : ℕ) → flag p.finished k ≡ false = λ k. ap (λ (q : Progress). flag q.finished k) by.progress ∙ get_or-replicate_same N k false in
    let left : remaining_tasks p ≡ task_count p = count-all (λ n. not (flag p.finished n)) (task_count p) (λ k l. ap not (finished k)) in
    let calm : running_tasks p ≡ 0 = count_by-none (is_running p) 0 (task_count p) (λ k from to. ap (λ (b : Bool). b && not (flag p.finished k)) (started k)) in
    (omega (arith, left, count, some), omega (arith, count, few), left, calm)

-- ---- the machine after the command

-- the only image among the values has the shape of the first input
only-shape : (n : ℕ) (s : Shape) (rest : List Input) (vs : List (Option Value)) (f : Picture) → AreValuesOf (take n (input.Image s ∷ rest)) vs → images_of vs ≡ f ∷ [] → shape_of_picture f ≡ s
only-shape zero s rest [] f all is = absurd cc
only-shape zero s rest (v ∷ vs) f all is = absurd all
only-shape (suc n) s rest [] f all is = absurd all
only-shape (suc n) s rest (v ∷ vs) f all is =
    let here : images_of (v ∷ vs) ≡ all.0.0 ∷ images_of vs = ap (λ (x : Option Value). images_of (x ∷ vs)) all.0.1 in
    let same : f ≡ all.0.0 = cc in
    ap shape_of_picture same ∙ all.0.3

frame-of : (f : Picture) (u : ProgressView) → shape_of_picture f ≡ shape.Image u.input.kind u.tiling.width u.tiling.height u.input.maxval → HaveFrame u.tiling.width u.tiling.height (f ∷ [])
frame-of f u is = ((cc, cc), tt)

-- the images that the command takes have the frame of its work
planned-frames : (m : Machine) (kept : List (Option Value)) (n : Name) (o : Op) (side : ℕ) (u : ProgressView) → IsSound m → Agrees kept m → refusal m.table kept (call.Run n o) ≡ None
    → IsPlannedBy m.table kept o (run_submission m.table o) side u → HaveFrame u.tiling.width u.tiling.height (images_of (map (value_at (values m)) (tickets (inputs_from m.table (inputs_wanted o)))))
planned-frames m kept n o side u sound agrees free by =
    let w = m.table in
    let at = machine_values m kept sound agrees in
    let reads = by.on.input in
    let vs = map (value_at (values m)) (tickets (inputs_from w (inputs_wanted o))) in
    let s = shape.Image u.input.kind u.tiling.width u.tiling.height u.input.maxval in
    let all = accepted_values w kept (values m) n o by.a by.b by.c free at by.run.inputs in
    let none = accepted_faultless w kept (values m) n o by.a by.b by.c free at by.run.inputs in
    let only = only-image (inputs_taken o by.a by.b by.c) vs all by.run.plan_of.one in
    let First : Option ℕ → Type 0 = λ x. IsInputOf w kept x by.a in
    let is : by.a ≡ input.Image s = image-told w kept reads.image by.a s (subst First reads.first by.run.inputs.first) (first-there o by.a by.b by.c none) reads.shape in
    let Values : Input → Type 0 = λ x. AreValuesOf (take (length (inputs_wanted o)) (x ∷ by.b ∷ by.c ∷ [])) vs in
    let shaped = only-shape (length (inputs_wanted o)) s (by.b ∷ by.c ∷ []) vs only.0 (subst Values is all) only.1 in
    let Frame : List Picture → Type 0 = λ fs. HaveFrame u.tiling.width u.tiling.height fs in
    subst Frame (sym only.1) (frame-of only.0 u shaped)

-- what is planned is work of the machine that the command leads to
pub planned-work : (c : CoreView) (m : Machine) (n : Name) (o : Op) (side : ℕ) (u : ProgressView) → StandsFor c m → refusal c.table c.kept (call.Run n o) ≡ None → refusal m.table m.payloads (call.Run n o) ≡ None
    → IsPlannedBy c.table c.kept o (run_submission c.table o) side u → (t : ℕ) → t + 1 ≡ length (pushed m n (run_submission m.table o) outcome.Pending None).table.names
    → IsWork (pushed m n (run_submission m.table o) outcome.Pending None) t u.progress
planned-work c m n o side u stands free_kept free planned t last =
    let Of : Table → Type 0 = λ w. (refusal w c.kept (call.Run n o) ≡ None) × IsPlannedBy w c.kept o (run_submission w o) side u in
    let of = subst Of stands.table (free_kept, planned) in
    let by = of.1 in
    let sound = stands-sound c m stands in
    let frames = planned-frames m c.kept n o side u sound stands.agrees of.0 by in
    let told = accepted m n o c.kept by.a by.b by.c u.progress.plan u.tiling t sound stands.agrees free of.0 by.run by.whole.tiling frames last in
    let Work : Progress → Type 0 = λ p. IsWork (pushed m n (run_submission m.table o) outcome.Pending None) t p in
    subst Work (sym by.progress) (work-fresh (pushed m n (run_submission m.table o) outcome.Pending None) t o by.a by.b by.c u.progress.plan u.input u.tiling told)
