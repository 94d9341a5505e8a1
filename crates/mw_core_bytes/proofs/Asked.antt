-- What stands under the names of a command that was accepted: its inputs, also when more entries are added.
use Rattle.std.proofs.Common.{◌≡◌, ℕ, ◌+◌, ◌<◌, ◌≤◌, Bool, true, inl, inr, List, [], ◌∷◌, ◌++◌, length, map, Option, Some, None, refl, sym, ap, ◌∙◌, subst, arith, length-append}
use Rattle.std.specs.Prelude.{unwrap_or}
use Rattle.std.specs.List.{AllByRecursion}
use Rattle.std.proofs.lemmas.Bool.{cases_lt}
use Rattle.std.proofs.lemmas.List.{get_or_append_left}
use Rattle.std.proofs.lemmas.List.Quantifiers.{position-Some}
use Rattle.mw_model.proofs.mw_facts.Elements.{get_or-push_last}
use Rattle.mw_model.proofs.mw_facts.Finds.{position-is}
use Rattle.mw_model.specs.declared.names.Name.{Name}
use Rattle.mw_model.specs.declared.shapes.Shape.{Shape}
use Rattle.mw_model.specs.declared.operations.Op.{Op}
use Rattle.mw_model.specs.declared.operations.Op.TheVariants as op
use Rattle.mw_model.specs.declared.operations.FlatOp.TheVariants as flat
use Rattle.mw_model.specs.declared.operations.GranOp.TheVariants as gran
use Rattle.mw_model.specs.declared.submissions.Command.TheVariants as command
use Rattle.mw_model.specs.declared.submissions.Inputs.{Inputs}
use Rattle.mw_model.specs.declared.submissions.Submission.{Submission}
use Rattle.mw_model.specs.declared.codes.Code.{Code}
use Rattle.mw_model.specs.declared.calls.Call.{Call}
use Rattle.mw_model.specs.declared.calls.Call.TheVariants as call
use Rattle.mw_model.specs.declared.calls.Outcome.{Outcome}
use Rattle.mw_model.specs.declared.calls.Outcome.TheVariants as outcome
use Rattle.mw_model.specs.declared.calls.LogItem.{LogItem}
use Rattle.mw_model.specs.declared.calls.LogItem.TheVariants as item
use Rattle.mw_model.specs.Names.{same_name}
use Rattle.mw_model.specs.Values.{Value}
use Rattle.mw_model.specs.Refusals.{Table, Wanted, AnImage, AnElement, ticket_of, submission_at, no_submission, shape_at, is_image, is_element, first_of, name_taken, no_room, inputs_wanted, op_cases, wanted_case, refusal}
use Rattle.mw_model.specs.Machine.{Machine, Step, Run, start_state, settled, ticket_wanted, inputs_from, as_bits, as_grey, shape_named, shape_of_result, run_submission, given_submission, with_entry, changed, unless_refused, killed}
use Rattle.mw_core.specs.mw_model_laws.MachineLaws.{IsSound, GrowsTo}
use Rattle.mw_core.proofs.mw_model_laws.RunTables.{first_none, input_found}
use Rattle.mw_core.proofs.mw_model_laws.RunStates.{step_sound, start_sound}
use Rattle.mw_core.proofs.mw_model_laws.RunGrowth.{step_grows}
use Rattle.mw_core.specs.Costs.{wanted_name}

-- the shape is of the kind that is wanted
abbrev pub fits : Wanted → Shape → Bool
fits (AnImage n) s = is_image s
fits (AnElement n) s = is_element s

-- what is wanted has a ticket, of an entry of its kind
pub record Known (w : Table) (x : Wanted) : Type 0 where
  pub place : ℕ
  pub found : ticket_of w.names (wanted_name x) ≡ Some place
  pub within : place < length w.names
  pub kind : fits x (shape_at w.submissions place) ≡ true

-- the second table goes on from the first
pub record Grown (w v : Table) : Type 0 where
  pub names : (n : Name) (i : ℕ) → ticket_of w.names n ≡ Some i → ticket_of v.names n ≡ Some i
  pub entries : (i : ℕ) → i < length w.names → submission_at v.submissions i ≡ submission_at w.submissions i
  pub longer : length w.names ≤ length v.names

-- a name that was found keeps its ticket
ticket-stays : (names more : List Name) (n : Name) (t : ℕ) → ticket_of names n ≡ Some t → ticket_of (names ++ more) n ≡ Some t
unfolding ticket_of
ticket-stays names more n t h =
    let was = position-Some (same_name n) names t n h in
    position-is (same_name n) (names ++ more) t n (omega (arith, was.0, length-append names more))
    (λ k l. ap (same_name n) (get_or_append_left names more n k (omega (arith, l, was.0))) ∙ was.2 k l)
    (ap (same_name n) (get_or_append_left names more n t was.0) ∙ was.1)

pub tables-grown : (m n : Machine) → IsSound m → GrowsTo m n → Grown m.table n.table
tables-grown m n s g = record {
  names = λ x i h. ap (λ (ns : List Name). ticket_of ns x) g.names.1 ∙ ticket-stays m.table.names g.names.0 x i h;
  entries = λ i l. ap (λ (es : List Submission). submission_at es i) g.submissions.1 ∙ get_or_append_left m.table.submissions g.submissions.0 no_submission i (omega (arith, l, s.lengths.submissions));
  longer = omega (arith, ap length g.names.1, length-append m.table.names g.names.0);
}

-- ---- what is known stays so

pub known-grown : (w v : Table) (x : Wanted) → Grown w v → Known w x → Known v x
known-grown w v x g k = record {
  place = k.place;
  found = g.names (wanted_name x) k.place k.found;
  within = omega (arith, k.within, g.longer);
  kind = ap (λ (s : Submission). fits x s.shape) (g.entries k.place k.within) ∙ k.kind;
}

pub all-known-grown : (w v : Table) (xs : List Wanted) → Grown w v → AllByRecursion (Known w) xs → AllByRecursion (Known v) xs
all-known-grown w v [] g h = tt
all-known-grown w v (x ∷ xs) g h = (known-grown w v x g h.0, all-known-grown w v xs g h.1)

known-one : (w : Table) (x : Wanted) → wanted_case w x ≡ None → Known w x
known-one w (AnImage n) h = let f = input_found w is_image n h in record { place = f.0; found = f.1.found; within = f.1.within; kind = f.1.kind }
known-one w (AnElement n) h = let f = input_found w is_element n h in record { place = f.0; found = f.1.found; within = f.1.within; kind = f.1.kind }

known-all : (w : Table) (xs : List Wanted) → first_of (map (wanted_case w) xs) ≡ None → AllByRecursion (Known w) xs
known-all w [] h = tt
known-all w (x ∷ xs) h = let a = first_none (wanted_case w x) (map (wanted_case w) xs) h in (known-one w x a.0, known-all w xs a.1)

-- none of the inputs of a command that is accepted is refused
pub run-asks : (w : Table) (ps : List (Option Value)) (n : Name) (o : Op) → refusal w ps (call.Run n o) ≡ None → first_of (map (wanted_case w) (inputs_wanted o)) ≡ None
run-asks w ps n o free =
    let x = first_none (name_taken w n) _ free in
    let y = first_none (no_room w) (first_of (map (wanted_case w) (inputs_wanted o)) ∷ first_of (op_cases w ps o) ∷ []) x.1 in
    (first_none (first_of (map (wanted_case w) (inputs_wanted o))) (first_of (op_cases w ps o) ∷ []) y.1).0

pub run-known : (w : Table) (ps : List (Option Value)) (n : Name) (o : Op) → refusal w ps (call.Run n o) ≡ None → AllByRecursion (Known w) (inputs_wanted o)
run-known w ps n o free = known-all w (inputs_wanted o) (run-asks w ps n o free)

wanted-ticket : (w v : Table) (x : Wanted) → Grown w v → Known w x → ticket_wanted v x ≡ ticket_wanted w x
wanted-ticket w v (AnImage n) g k = g.names n k.place k.found ∙ sym k.found
wanted-ticket w v (AnElement n) g k = g.names n k.place k.found ∙ sym k.found

pub shape-at : (w : Table) (n : Name) (i : ℕ) → ticket_of w.names n ≡ Some i → shape_named w n ≡ shape_at w.submissions i
shape-at w n i h = ap (λ (o : Option ℕ). shape_at w.submissions (unwrap_or o 0)) h

image-shape : (w v : Table) (f : Name) → Grown w v → Known w (AnImage f) → shape_named v f ≡ shape_named w f
image-shape w v f g k =
    shape-at v f k.place (g.names f k.place k.found) ∙ ap (λ (s : Submission). s.shape) (g.entries k.place k.within) ∙ sym (shape-at w f k.place k.found)

-- ---- what is accepted of a command stays so

inputs-grown : (w v : Table) (xs : List Wanted) → Grown w v → AllByRecursion (Known w) xs → inputs_from v xs ≡ inputs_from w xs
inputs-grown w v [] g h = refl
inputs-grown w v (a ∷ []) g h = rw (wanted-ticket w v a g h.0) refl
inputs-grown w v (a ∷ b ∷ []) g h = rw (wanted-ticket w v a g h.0, wanted-ticket w v b g h.1.0) refl
inputs-grown w v (a ∷ b ∷ c ∷ more) g h = rw (wanted-ticket w v a g h.0, wanted-ticket w v b g h.1.0, wanted-ticket w v c g h.1.1.0) refl

result-grown : (w v : Table) (o : Op) → Grown w v → AllByRecursion (Known w) (inputs_wanted o) → shape_of_result v o ≡ shape_of_result w o
result-grown w v (op.Flat (flat.Erode f b)) g h = image-shape w v f g h.0
result-grown w v (op.Flat (flat.Dilate f b)) g h = image-shape w v f g h.0
result-grown w v (op.Flat (flat.Opening f b)) g h = image-shape w v f g h.0
result-grown w v (op.Flat (flat.Closing f b)) g h = image-shape w v f g h.0
result-grown w v (op.Flat (flat.Gradient f b)) g h = image-shape w v f g h.0
result-grown w v (op.Flat (flat.WhiteTopHat f b)) g h = image-shape w v f g h.0
result-grown w v (op.Flat (flat.BlackTopHat f b)) g h = image-shape w v f g h.0
result-grown w v (op.Flat (flat.Rank f b k)) g h = image-shape w v f g h.0
result-grown w v (op.Flat (flat.Threshold f k)) g h = ap as_bits (image-shape w v f g h.0)
result-grown w v (op.Flat (flat.HitMiss f a b)) g h = image-shape w v f g h.0
result-grown w v (op.Gran (gran.Skeleton f b n)) g h = ap (as_grey (n + 1)) (image-shape w v f g h.0)
result-grown w v (op.Gran (gran.Restore f b n)) g h = ap as_bits (image-shape w v f g h.0)
result-grown w v (op.Gran (gran.Spectrum f b n)) g h = refl

-- what stands in the table of a command
abbrev made : Op → Shape → Inputs → Submission
made o s i = record { shape = s; command = command.Run o; inputs = i }

run-grown : (w v : Table) (o : Op) → Grown w v → AllByRecursion (Known w) (inputs_wanted o) → run_submission v o ≡ run_submission w o
run-grown w v o g h =
    ap (λ (s : Shape). made o s (inputs_from v (inputs_wanted o))) (result-grown w v o g h)
    ∙ ap (λ (i : Inputs). made o (shape_of_result w o) i) (inputs-grown w v (inputs_wanted o) g h)

-- the operation stands under the ticket as it would be accepted now, and its inputs are known
pub record IsAsked (w : Table) (t : ℕ) (o : Op) : Type 0 where
  pub entry : submission_at w.submissions t ≡ run_submission w o
  pub known : AllByRecursion (Known w) (inputs_wanted o)

-- so it is with each command of the table
abbrev pub AreAsked : Table → Type 0
AreAsked w = (t : ℕ) (o : Op) → t < length w.names → (submission_at w.submissions t).command ≡ command.Run o → IsAsked w t o

asked-grown : (w v : Table) (t : ℕ) (o : Op) → Grown w v → t < length w.names → IsAsked w t o → IsAsked v t o
asked-grown w v t o g l a = record {
  entry = g.entries t l ∙ a.entry ∙ sym (run-grown w v o g a.known);
  known = all-known-grown w v (inputs_wanted o) g a.known;
}

-- ---- a new entry

-- each command past the first so many entries is known
abbrev NewAsked : ℕ → Table → Type 0
NewAsked size v = (t : ℕ) (o : Op) → size ≤ t → t < length v.names → (submission_at v.submissions t).command ≡ command.Run o → IsAsked v t o

no-more : (w v : Table) → length v.names ≡ length w.names → NewAsked (length w.names) v
no-more w v same t o past l is = absurd (omega (arith, past, l, same))

last-entry : (w : Table) (n : Name) (e : Submission) (t : ℕ) → length w.submissions ≡ length w.names → length w.names ≤ t → t < length (w.names ++ n ∷ []) → submission_at (w.submissions ++ e ∷ []) t ≡ e
last-entry w n e t long past l = get_or-push_last w.submissions e no_submission t (omega (arith, long, past, l, length-append w.names (n ∷ [])))

given-new : (w : Table) (n : Name) (e : Submission) (y : Outcome) → e.command ≡ command.Given → length w.submissions ≡ length w.names → NewAsked (length w.names) (with_entry w n e y)
given-new w n e y given long t o past l is =
    let same : e.command ≡ command.Run o = sym (ap (λ (s : Submission). s.command) (last-entry w n e t long past l)) ∙ is in
    let clash : command.Given ≡ command.Run o = sym given ∙ same in
    absurd cc

run-new : (w : Table) (n : Name) (q : Op) (y : Outcome) → AllByRecursion (Known w) (inputs_wanted q) → length w.submissions ≡ length w.names → Grown w (with_entry w n (run_submission w q) y) → NewAsked (length w.names) (with_entry w n (run_submission w q) y)
run-new w n q y known long g t o past l is =
    let e = run_submission w q in
    let v = with_entry w n e y in
    let last = last-entry w n e t long past l in
    let same : command.Run q ≡ command.Run o = sym (ap (λ (s : Submission). s.command) last) ∙ is in
    let one : q ≡ o = cc in
    let P : Op → Type 0 = λ x. IsAsked v t x in
    subst P one (record { entry = last ∙ sym (run-grown w v q g known); known = all-known-grown w v (inputs_wanted q) g known })

unless-refused : (P : Table → Type 0) (x : Option Code) (a b : Table) → P a → (x ≡ None → P b) → P (unless_refused x a b)
unless-refused P None a b old new = new refl
unless-refused P (Some c) a b old new = old

pub entry-grown : (w : Table) (n : Name) (e : Submission) (y : Outcome) → length w.submissions ≡ length w.names → Grown w (with_entry w n e y)
entry-grown w n e y long = record {
  names = λ x i h. ticket-stays w.names (n ∷ []) x i h;
  entries = λ i l. get_or_append_left w.submissions (e ∷ []) no_submission i (omega (arith, l, long));
  longer = omega (arith, length-append w.names (n ∷ []));
}

call-new : (w : Table) (ps : List (Option Value)) (c : Call) → length w.submissions ≡ length w.names → refusal w ps c ≡ None → NewAsked (length w.names) (changed w c)
unfolding killed
call-new w ps (call.Load n g) long free = given-new w n (given_submission g) outcome.Done refl long
call-new w ps (call.Element n g) long free = given-new w n (given_submission g) outcome.Done refl long
call-new w ps (call.Run n o) long free = run-new w n o outcome.Pending (run-known w ps n o free) long (entry-grown w n (run_submission w o) outcome.Pending long)
call-new w ps (call.Cancel n) long free = no-more w (changed w (call.Cancel n)) refl
call-new w ps (call.Status n) long free = no-more w w refl
call-new w ps (call.Fetch n) long free = no-more w w refl
call-new w ps (call.Release n) long free = no-more w (changed w (call.Release n)) refl

step-new : (m : Machine) (i : LogItem) (n : Machine) → IsSound m → Step m i n → NewAsked (length m.table.names) n.table
unfolding killed
step-new m (item.Call c r) n s step =
    let size = length m.table.names in
    let P : Machine → Type 0 = λ k. NewAsked size k.table in
    subst P (sym step.3) (unless-refused (NewAsked size) (refusal m.table m.payloads c) m.table (changed m.table c) (no-more m.table m.table refl) (call-new m.table m.payloads c s.lengths.submissions))
step-new m (item.Finished t) n s step =
    let P : Machine → Type 0 = λ k. NewAsked (length m.table.names) k.table in
    subst P (sym step.1) (no-more m.table (settled m.table t outcome.Done) refl)
step-new m (item.Killed t) n s step =
    let P : Machine → Type 0 = λ k. NewAsked (length m.table.names) k.table in
    subst P (sym step.1) (no-more m.table (killed m.table t outcome.Memory) refl)

-- ---- steps and runs

pub asked-after : (m n : Machine) → IsSound m → AreAsked m.table → GrowsTo m n → NewAsked (length m.table.names) n.table → AreAsked n.table
asked-after m n s asked grows new t o l is =
    let g = tables-grown m n s grows in
    elim (cases_lt t (length m.table.names)) [
      | inl b ↦ asked-grown m.table n.table t o g b (asked t o b (sym (ap (λ (e : Submission). e.command) (g.entries t b)) ∙ is))
      | inr past ↦ new t o past l is
    ]

pub asked-step : (m : Machine) (i : LogItem) (n : Machine) → IsSound m → AreAsked m.table → Step m i n → AreAsked n.table
asked-step m i n s asked step = asked-after m n s asked (step_grows m i n s step) (step-new m i n s step)

asked-run : (log : List LogItem) (m n : Machine) → IsSound m → AreAsked m.table → Run m log n → AreAsked n.table
asked-run [] m n s asked r = let P : Machine → Type 0 = λ k. AreAsked k.table in subst P (sym r) asked
asked-run (i ∷ log) m n s asked r = asked-run log r.0 n (step_sound m i r.0 s r.1) (asked-step m i r.0 s asked r.1) r.2

-- in each state that a run reaches from the start
pub reached-asked : (log : List LogItem) (m : Machine) → Run start_state log m → AreAsked m.table
reached-asked log m r = asked-run log start_state m start_sound (λ t o l is. absurd (omega (arith, l))) r
