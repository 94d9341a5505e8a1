-- A RUN whose inputs are found is refused by its first fault.
use Rattle.std.proofs.Common.{◌≡◌, ◌≢◌, ℕ, ◌<◌, true, false, inl, inr, List, [], ◌∷◌, length, length-set, map, set, Option, Some, None, refl, sym, ap, subst, ◌∙◌, arith}
use Rattle.std.specs.List.{AllByRecursion}
use Rattle.std.specs.Prelude.{not, option_map, unwrap_or}
use Rattle.std.proofs.lemmas.Bool.{cases_lt}
use Rattle.std.proofs.lemmas.List.{get_or-set_same, get_or-set_other, get_or_past}
use Rattle.mw_model.specs.declared.names.Name.{Name}
use Rattle.mw_model.specs.declared.codes.Code.{Code}
use Rattle.mw_model.specs.declared.codes.Code.TheVariants as code
use Rattle.mw_model.specs.declared.calls.Call.TheVariants as call
use Rattle.mw_model.specs.declared.submissions.Submission.{Submission}
use Rattle.mw_model.specs.declared.submissions.Command.TheVariants as command
use Rattle.mw_model.specs.declared.offsets.Offset.{Offset}
use Rattle.mw_model.specs.declared.shapes.Shape.{Shape}
use Rattle.mw_model.specs.declared.shapes.Shape.TheVariants as shape
use Rattle.mw_model.specs.declared.submissions.Inputs.{Inputs}
use Rattle.mw_model.specs.declared.operations.Op.{Op}
use Rattle.mw_model.specs.declared.operations.Op.TheVariants as op
use Rattle.mw_model.specs.declared.operations.FlatOp.TheVariants as flat
use Rattle.mw_model.specs.declared.operations.GranOp.TheVariants as gran
use Rattle.mw_model.specs.Elements.{holds_origin, overlaps}
use Rattle.mw_model.specs.Values.{Value, offsets_in, tickets, value_at}
use Rattle.mw_model.specs.Refusals.{Table, Wanted, AnImage, AnElement, binary_case, first_of, inputs_wanted, is_element, is_image, name_taken, no_inputs, no_room, offsets_at, op_cases, param_case, refusal, shape_at, ticket_of, wanted_case, when}
use Rattle.mw_model.specs.Machine.{inputs_from, run_submission, shape_of_result, ticket_wanted}
use Rattle.mw_store.specs.mw_plan.declared.inputs.Input.{Input}
use Rattle.mw_store.specs.mw_plan.declared.inputs.Input.TheVariants as input
use Rattle.mw_store.specs.mw_plan.Asked.{fault_in, offsets_of_input, shape_made}
use Rattle.mw_store.specs.mw_plan.Faults.{plan_code}
use Rattle.mw_store.specs.mw_plan.Tables.{AreEntries, HasShape, IsEntry}
use Rattle.mw_store.proofs.mw_plan.Refused.{run_refused, shape_same}
use Rattle.mw_store.proofs.mw_model_laws.RunTables.{inputs_all, ticket_is, wanted_within}
use Rattle.mw_store.specs.Stored.{Stored}
use Rattle.mw_core_refusals.specs.Found.{AreFound, IsFoundWanted, IsFoundElement, IsFoundImage}

-- ---- the values but that of an image, whose offsets nothing asks for

one-kind : (s : Shape) → is_image s ≡ true → is_element s ≡ true → ⊥
one-kind (shape.Image k w h m) image element = cc
one-kind (shape.Element w h) image element = cc
one-kind (shape.Curve n) image element = cc

apart : (w : Table) (t u : ℕ) → is_image (shape_at w.submissions t) ≡ true → is_element (shape_at w.submissions u) ≡ true → u ≢ t
apart w t u image element same = one-kind (shape_at w.submissions t) image (ap (λ (k : ℕ). is_element (shape_at w.submissions k)) (sym same) ∙ element)

gone : (kept : List (Option Value)) (t : ℕ) → value_at (set kept t None) t ≡ None
gone kept t =
    elim (cases_lt t (length kept)) [
      | inl within ↦ get_or-set_same kept t None None within
      | inr past ↦ get_or_past (set kept t None) t None (omega (arith, past, length-set kept t None))
    ]

offsets-known : (w : Table) (kept : List (Option Value)) (n : Name) (t : ℕ) → ticket_of w.names n ≡ Some t → offsets_at w kept n ≡ unwrap_or (offsets_in (value_at kept t)) []
offsets-known w kept n t is = ap (λ (k : ℕ). unwrap_or (offsets_in (value_at kept k)) []) (ticket_is w n t is)

offsets-apart : (w : Table) (kept : List (Option Value)) (t : ℕ) (n : Name) (u : ℕ) → ticket_of w.names n ≡ Some u → u ≢ t → offsets_at w (set kept t None) n ≡ offsets_at w kept n
offsets-apart w kept t n u is ne =
    offsets-known w (set kept t None) n u is ∙ ap (λ (v : Option Value). unwrap_or (offsets_in v) []) (get_or-set_other kept t u None None ne) ∙ sym (offsets-known w kept n u is)

image-offsets : (i : Input) (s : Shape) → HasShape i s → is_image s ≡ true → offsets_of_input i ≡ []
image-offsets (input.Image x) s tells image = refl
image-offsets (input.Element e) s tells image = absurd (let no : false ≡ true = sym (ap is_image tells) ∙ image in cc)
image-offsets input.Curve s tells image = refl
image-offsets input.Absent s tells image = absurd tells

-- ---- entries

image-entry : (s : Stored) (n : Name) (t : ℕ) (i : Input) → IsFoundImage s n t i → IsEntry s.table (set s.kept t None) n i
image-entry s n t i f = record {
  number = t;
  known = f.0.ticket;
  alive = f.0.alive;
  kept = f.0.held;
  tells = f.0.tells;
  offsets = offsets-known s.table (set s.kept t None) n t f.0.ticket ∙ ap (λ (v : Option Value). unwrap_or (offsets_in v) []) (gone s.kept t)
      ∙ sym (image-offsets i (shape_at s.table.submissions t) f.0.tells f.1);
}

element-entry : (s : Stored) (t : ℕ) (n : Name) (u : ℕ) (i : Input) → is_image (shape_at s.table.submissions t) ≡ true → IsFoundElement s n u i → IsEntry s.table (set s.kept t None) n i
element-entry s t n u i image f = record {
  number = u;
  known = f.0.ticket;
  alive = f.0.alive;
  kept = f.0.held;
  tells = f.0.tells;
  offsets = offsets-apart s.table s.kept t n u f.0.ticket (apart s.table t u image f.1) ∙ offsets-known s.table s.kept n u f.0.ticket ∙ f.3;
}

-- ---- refusals

-- where what else is asked is the same of both lists of values
by-faults : (w : Table) (kept vs : List (Option Value)) (n : Name) (o : Op) (a b c : Input) → name_taken w n ≡ None → no_room w ≡ None → op_cases w kept o ≡ op_cases w vs o → AreEntries w vs (inputs_wanted o) (a ∷ b ∷ c ∷ [])
    → refusal w kept (call.Run n o) ≡ option_map plan_code (fault_in o a b c)
by-faults w kept vs n o a b c free room same entries =
    ap (λ (cs : List (Option Code)). first_of (name_taken w n ∷ no_room w ∷ first_of (map (wanted_case w) (inputs_wanted o)) ∷ first_of cs ∷ [])) same ∙ run_refused w vs n o a b c free room entries

-- of an image and an element
two : (s : Stored) (n : Name) (o : Op) (f e : Name) (ta tb : Option ℕ) (a b c : Input) → inputs_wanted o ≡ AnImage f ∷ AnElement e ∷ []
    → ((vs : List (Option Value)) → offsets_at s.table vs e ≡ offsets_at s.table s.kept e → op_cases s.table s.kept o ≡ op_cases s.table vs o)
    → name_taken s.table n ≡ None → no_room s.table ≡ None → IsFoundWanted s (AnImage f) ta a → IsFoundWanted s (AnElement e) tb b → refusal s.table s.kept (call.Run n o) ≡ option_map plan_code (fault_in o a b c)
two s n o f e None tb a b c wanted same free room x y = absurd x
two s n o f e (Some t) None a b c wanted same free room x y = absurd y
two s n o f e (Some t) (Some u) a b c wanted same free room x y =
    let vs = set s.kept t None in
    let P : List Wanted → Type 0 = λ ws. AreEntries s.table vs ws (a ∷ b ∷ c ∷ []) in
    by-faults s.table s.kept vs n o a b c free room (same vs (offsets-apart s.table s.kept t e u y.0.ticket (apart s.table t u x.1 y.1)))
    (subst P (sym wanted) (image-entry s f t a x, (element-entry s t e u b x.1 y, tt)))

-- of an image alone
one : (s : Stored) (n : Name) (f : Name) (k : ℕ) (ta : Option ℕ) (a b c : Input) → name_taken s.table n ≡ None → no_room s.table ≡ None → IsFoundWanted s (AnImage f) ta a
    → refusal s.table s.kept (call.Run n (op.Flat (flat.Threshold f k))) ≡ option_map plan_code (fault_in (op.Flat (flat.Threshold f k)) a b c)
one s n f k None a b c free room x = absurd x
one s n f k (Some t) a b c free room x = by-faults s.table s.kept (set s.kept t None) n (op.Flat (flat.Threshold f k)) a b c free room refl (image-entry s f t a x, tt)

-- of an image and two elements
three : (s : Stored) (n : Name) (f hit miss : Name) (ta tb tc : Option ℕ) (a b c : Input) → name_taken s.table n ≡ None → no_room s.table ≡ None → IsFoundWanted s (AnImage f) ta a → IsFoundWanted s (AnElement hit) tb b → IsFoundWanted s (AnElement miss) tc c
    → refusal s.table s.kept (call.Run n (op.Flat (flat.HitMiss f hit miss))) ≡ option_map plan_code (fault_in (op.Flat (flat.HitMiss f hit miss)) a b c)
three s n f hit miss None tb tc a b c free room x y z = absurd x
three s n f hit miss (Some t) None tc a b c free room x y z = absurd y
three s n f hit miss (Some t) (Some u) None a b c free room x y z = absurd z
three s n f hit miss (Some t) (Some u) (Some v) a b c free room x y z =
    let vs = set s.kept t None in
    let p = offsets-apart s.table s.kept t hit u y.0.ticket (apart s.table t u x.1 y.1) in
    let q = offsets-apart s.table s.kept t miss v z.0.ticket (apart s.table t v x.1 z.1) in
    by-faults s.table s.kept vs n (op.Flat (flat.HitMiss f hit miss)) a b c free room
    (ap (λ (d : List Offset). when (overlaps d (offsets_at s.table s.kept miss)) code.Overlap ∷ []) (sym p) ∙ ap (λ (d : List Offset). when (overlaps (offsets_at s.table vs hit) d) code.Overlap ∷ []) (sym q))
    (image-entry s f t a x, (element-entry s t hit u b x.1 y, (element-entry s t miss v c x.1 z, tt)))

pub legal : (s : Stored) (n : Name) (o : Op) (at : Inputs) (a b c : Input) → name_taken s.table n ≡ None → no_room s.table ≡ None → AreFound s (inputs_wanted o) at a b c → refusal s.table s.kept (call.Run n o) ≡ option_map plan_code (fault_in o a b c)
legal s n (op.Flat (flat.Erode f e)) at a b c free room are = two s n (op.Flat (flat.Erode f e)) f e at.a at.b a b c refl (λ vs h. refl) free room are.0 are.1
legal s n (op.Flat (flat.Dilate f e)) at a b c free room are = two s n (op.Flat (flat.Dilate f e)) f e at.a at.b a b c refl (λ vs h. refl) free room are.0 are.1
legal s n (op.Flat (flat.Opening f e)) at a b c free room are = two s n (op.Flat (flat.Opening f e)) f e at.a at.b a b c refl (λ vs h. refl) free room are.0 are.1
legal s n (op.Flat (flat.Closing f e)) at a b c free room are = two s n (op.Flat (flat.Closing f e)) f e at.a at.b a b c refl (λ vs h. refl) free room are.0 are.1
legal s n (op.Flat (flat.Gradient f e)) at a b c free room are = two s n (op.Flat (flat.Gradient f e)) f e at.a at.b a b c refl (λ vs h. refl) free room are.0 are.1
legal s n (op.Flat (flat.WhiteTopHat f e)) at a b c free room are = two s n (op.Flat (flat.WhiteTopHat f e)) f e at.a at.b a b c refl (λ vs h. refl) free room are.0 are.1
legal s n (op.Flat (flat.BlackTopHat f e)) at a b c free room are = two s n (op.Flat (flat.BlackTopHat f e)) f e at.a at.b a b c refl (λ vs h. refl) free room are.0 are.1
legal s n (op.Flat (flat.Rank f e k)) at a b c free room are =
    two s n (op.Flat (flat.Rank f e k)) f e at.a at.b a b c refl
    (λ vs h. ap (λ (d : List Offset). when (not (holds_origin d)) code.NoOrigin ∷ param_case 1 (length d) k ∷ []) (sym h)) free room are.0 are.1
legal s n (op.Flat (flat.Threshold f k)) at a b c free room are = one s n f k at.a a b c free room are.0
legal s n (op.Flat (flat.HitMiss f hit miss)) at a b c free room are = three s n f hit miss at.a at.b at.c a b c free room are.0 are.1 are.2
legal s n (op.Gran (gran.Skeleton f e levels)) at a b c free room are =
    two s n (op.Gran (gran.Skeleton f e levels)) f e at.a at.b a b c refl
    (λ vs h. ap (λ (d : List Offset). binary_case s.table f ∷ when (not (holds_origin d)) code.NoOrigin ∷ param_case 1 254 levels ∷ []) (sym h)) free room are.0 are.1
legal s n (op.Gran (gran.Restore f e levels)) at a b c free room are = two s n (op.Gran (gran.Restore f e levels)) f e at.a at.b a b c refl (λ vs h. refl) free room are.0 are.1
legal s n (op.Gran (gran.Spectrum f e levels)) at a b c free room are = two s n (op.Gran (gran.Spectrum f e levels)) f e at.a at.b a b c refl (λ vs h. refl) free room are.0 are.1

-- ---- what stands in the table

-- entries off some values
abbrev pub HasEntries : Stored → List Wanted → Input → Input → Input → Type 0
HasEntries s wanted a b c = (vs : List (Option Value)) × AreEntries s.table vs wanted (a ∷ b ∷ c ∷ [])

entries-one : (s : Stored) (f : Name) (ta : Option ℕ) (a b c : Input) → IsFoundWanted s (AnImage f) ta a → HasEntries s (AnImage f ∷ []) a b c
entries-one s f None a b c x = absurd x
entries-one s f (Some t) a b c x = (set s.kept t None, (image-entry s f t a x, tt))

entries-two : (s : Stored) (f e : Name) (ta tb : Option ℕ) (a b c : Input) → IsFoundWanted s (AnImage f) ta a → IsFoundWanted s (AnElement e) tb b → HasEntries s (AnImage f ∷ AnElement e ∷ []) a b c
entries-two s f e None tb a b c x y = absurd x
entries-two s f e (Some t) None a b c x y = absurd y
entries-two s f e (Some t) (Some u) a b c x y = (set s.kept t None, (image-entry s f t a x, (element-entry s t e u b x.1 y, tt)))

entries-three : (s : Stored) (f hit miss : Name) (ta tb tc : Option ℕ) (a b c : Input) → IsFoundWanted s (AnImage f) ta a → IsFoundWanted s (AnElement hit) tb b → IsFoundWanted s (AnElement miss) tc c
    → HasEntries s (AnImage f ∷ AnElement hit ∷ AnElement miss ∷ []) a b c
entries-three s f hit miss None tb tc a b c x y z = absurd x
entries-three s f hit miss (Some t) None tc a b c x y z = absurd y
entries-three s f hit miss (Some t) (Some u) None a b c x y z = absurd z
entries-three s f hit miss (Some t) (Some u) (Some v) a b c x y z =
    (set s.kept t None, (image-entry s f t a x, (element-entry s t hit u b x.1 y, (element-entry s t miss v c x.1 z, tt))))

entries-found : (s : Stored) (o : Op) (at : Inputs) (a b c : Input) → AreFound s (inputs_wanted o) at a b c → HasEntries s (inputs_wanted o) a b c
entries-found s (op.Flat (flat.Erode f e)) at a b c are = entries-two s f e at.a at.b a b c are.0 are.1
entries-found s (op.Flat (flat.Dilate f e)) at a b c are = entries-two s f e at.a at.b a b c are.0 are.1
entries-found s (op.Flat (flat.Opening f e)) at a b c are = entries-two s f e at.a at.b a b c are.0 are.1
entries-found s (op.Flat (flat.Closing f e)) at a b c are = entries-two s f e at.a at.b a b c are.0 are.1
entries-found s (op.Flat (flat.Gradient f e)) at a b c are = entries-two s f e at.a at.b a b c are.0 are.1
entries-found s (op.Flat (flat.WhiteTopHat f e)) at a b c are = entries-two s f e at.a at.b a b c are.0 are.1
entries-found s (op.Flat (flat.BlackTopHat f e)) at a b c are = entries-two s f e at.a at.b a b c are.0 are.1
entries-found s (op.Flat (flat.Rank f e k)) at a b c are = entries-two s f e at.a at.b a b c are.0 are.1
entries-found s (op.Flat (flat.Threshold f k)) at a b c are = entries-one s f at.a a b c are.0
entries-found s (op.Flat (flat.HitMiss f hit miss)) at a b c are = entries-three s f hit miss at.a at.b at.c a b c are.0 are.1 are.2
entries-found s (op.Gran (gran.Skeleton f e levels)) at a b c are = entries-two s f e at.a at.b a b c are.0 are.1
entries-found s (op.Gran (gran.Restore f e levels)) at a b c are = entries-two s f e at.a at.b a b c are.0 are.1
entries-found s (op.Gran (gran.Spectrum f e levels)) at a b c are = entries-two s f e at.a at.b a b c are.0 are.1

same-inputs : (i j : Inputs) → i.a ≡ j.a → i.b ≡ j.b → i.c ≡ j.c → i ≡ j
same-inputs i j p q r =
    let f : Option ℕ → Inputs = λ t. record { a = t; b = i.b; c = i.c } in
    let g : Option ℕ → Inputs = λ t. record { a = j.a; b = t; c = i.c } in
    let h : Option ℕ → Inputs = λ t. record { a = j.a; b = j.b; c = t } in
    ap f p ∙ ap g q ∙ ap h r

ticket-found : (s : Stored) (x : Wanted) (t : Option ℕ) (i : Input) → IsFoundWanted s x t i → t ≡ ticket_wanted s.table x
ticket-found s (AnImage n) None i f = absurd f
ticket-found s (AnElement n) None i f = absurd f
ticket-found s (AnImage n) (Some t) i f = sym f.0.ticket
ticket-found s (AnElement n) (Some t) i f = sym f.0.ticket

tickets-found : (s : Stored) (wanted : List Wanted) (at : Inputs) (a b c : Input) → AreFound s wanted at a b c → at ≡ inputs_from s.table wanted
tickets-found s [] at a b c f = same-inputs at no_inputs f.0.0 f.1.0 f.2.0
tickets-found s (x ∷ []) at a b c f = same-inputs at (inputs_from s.table (x ∷ [])) (ticket-found s x at.a a f.0) f.1.0 f.2.0
tickets-found s (x ∷ y ∷ []) at a b c f = same-inputs at (inputs_from s.table (x ∷ y ∷ [])) (ticket-found s x at.a a f.0) (ticket-found s y at.b b f.1) f.2.0
tickets-found s (x ∷ y ∷ z ∷ more) at a b c f =
    same-inputs at (inputs_from s.table (x ∷ y ∷ z ∷ more)) (ticket-found s x at.a a f.0) (ticket-found s y at.b b f.1) (ticket-found s z at.c c f.2)

-- the shape that is made and the tickets that were found are those of the command
pub submission-found : (s : Stored) (o : Op) (x : Shape) (at : Inputs) (a b c : Input) → AreFound s (inputs_wanted o) at a b c → fault_in o a b c ≡ None → x ≡ shape_made o a
    → record { shape = x; command = command.Run o; inputs = at } ≡ run_submission s.table o
submission-found s o x at a b c are none is =
    let entries = entries-found s o at a b c are in
    let f : Shape → Submission = λ y. record { shape = y; command = command.Run o; inputs = at } in
    let g : Inputs → Submission = λ i. record { shape = shape_of_result s.table o; command = command.Run o; inputs = i } in
    ap f (is ∙ sym (shape_same s.table entries.0 o a b c entries.1 none)) ∙ ap g (tickets-found s (inputs_wanted o) at a b c are)

-- the tickets that were found are those of entries
pub below-found : (s : Stored) (wanted : List Wanted) (at : Inputs) (a b c : Input) → AreFound s wanted at a b c → first_of (map (wanted_case s.table) wanted) ≡ None → AllByRecursion (λ i. i < length s.table.names) (tickets at)
below-found s wanted at a b c are none =
    let Below : Inputs → Type 0 = λ i. AllByRecursion (λ t. t < length s.table.names) (tickets i) in
    subst Below (sym (tickets-found s wanted at a b c are)) (inputs_all s.table (λ t. t < length s.table.names) wanted (wanted_within s.table) none)
