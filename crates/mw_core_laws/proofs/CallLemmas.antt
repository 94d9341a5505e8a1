-- What follows for a session call from the parts of its event.
use Rattle.std.proofs.Common.{◌≡◌, ℕ, ◌+◌, ◌<◌, Bool, false, cond, not, [], ◌∷◌, ◌++◌, length, map, Option, Some, None, Result, Ok, Err, IfOk, OnOk, refl, sym, ap, ◌∙◌, subst, arith, append-nil}
use Rattle.mw_model.proofs.mw_facts.Elements.{get_or-push_below}
use Rattle.mw_model.specs.declared.names.Name.{Name}
use Rattle.mw_model.specs.declared.shapes.Shape.{Shape}
use Rattle.mw_model.specs.declared.operations.Op.{Op}
use Rattle.mw_model.specs.declared.codes.Code.{Code}
use Rattle.mw_model.specs.declared.codes.Code.TheVariants as code
use Rattle.mw_model.specs.declared.calls.Outcome.{Outcome}
use Rattle.mw_model.specs.declared.calls.Outcome.TheVariants as outcome
use Rattle.mw_model.specs.declared.calls.Given.TheVariants as given
use Rattle.mw_model.specs.declared.calls.Call.{Call}
use Rattle.mw_model.specs.declared.calls.Call.TheVariants as call
use Rattle.mw_model.specs.declared.calls.Reply.{Reply}
use Rattle.mw_model.specs.declared.calls.Reply.TheVariants as reply
use Rattle.mw_model.specs.declared.calls.LogItem.TheVariants as item
use Rattle.mw_model.specs.Pictures.{Picture, IsImage}
use Rattle.mw_model.specs.Elements.{Figure, IsFigure}
use Rattle.mw_model.specs.Values.{Value, ImageValue, ElementValue, shape_of_picture, shape_of_figure}
use Rattle.mw_model.specs.Refusals.{Table, Wanted, AnImage, AnElement, ticket, ticket_of, shape_at, is_image, is_element, when, input_case, outcome_at, is_pending, is_dead, is_released, first_of, name_taken, no_room, wanted_case, inputs_wanted, refusal}
use Rattle.mw_model.specs.Machine.{Machine, IsWith, reply_to, reply_from, after, with_entry, with_table, killed, settled, given_submission, run_submission, ticket_wanted}
use Rattle.mw_model.specs.Tasks.{Progress}
use Rattle.mw_model.specs.Stands.{CoreView, StandsFor, progress_at, IsWork}
use Rattle.mw_store.proofs.mw_model_laws.RunTables.{first_none, inputs_all, is_known, when_so}
use Rattle.mw_store.proofs.mw_model_laws.RunSteps.{pushed}
use Rattle.mw_store.proofs.mw_model_laws.RunReplay.{quiet}
use Rattle.mw_store.specs.Stored.{DropsSpent}
use Rattle.mw_core_laws.specs.Facts.{IsComplete}
use Rattle.mw_core_laws.specs.Changes.{KeepsWork}
use Rattle.mw_core_laws.specs.Events.{FollowsMachine, WorkStays}
use Rattle.mw_core_laws.proofs.AgreeLemmas.{agrees-push, agrees-released}
use Rattle.mw_core_laws.proofs.StandsLemmas.{stands-sound, stands-refusal, stands-reply, stands-quiet, stands-added, stands-dies, stands-settled}

-- ---- facts about an answer

pub IfOk-from-one : {E : Type 0} → (r : Result Reply E) (x : Reply) (Q : Type 0) (P : Reply → Type 0) → IfOk r (λ y. y ≡ x) → OnOk r Q → (Q → P x) → IfOk r P
IfOk-from-one (Ok y) x Q P is q f = subst P (sym is) (f q)
IfOk-from-one (Err e) x Q P is q f = tt

pub IfOk-from-four : {E : Type 0} → (r : Result Reply E) (x : Reply) (Q R S T : Type 0) (P : Reply → Type 0) → IfOk r (λ y. y ≡ x) → OnOk r Q → OnOk r R → OnOk r S → OnOk r T → (Q → R → S → T → P x) → IfOk r P
IfOk-from-four (Ok y) x Q R S T P is q r s t f = subst P (sym is) (f q r s t)
IfOk-from-four (Err e) x Q R S T P is q r s t f = tt

pub by-each : {E : Type 0} → (r : Result Reply E) (Q P : Reply → Type 0) (S : Reply → Type 0) → IfOk r Q → IfOk r S → ((y : Reply) → Q y → S y → P y) → IfOk r P
by-each (Ok y) Q P S q s f = f y q s
by-each (Err e) Q P S q s f = tt

-- ---- calls that change no entry

quiet-work : (c new : CoreView) (q : Call) (r : Reply) → new ≡ record c { log = c.log ++ item.Call q r ∷ [] } → WorkStays c new
quiet-work c new q r is t within pending = ap (λ (d : CoreView). progress_at d.work t) is

pub serves-quiet : (c new : CoreView) (q : Call) (v : Option Value) (r : Reply) → IsWith q v → ((m : Machine) → StandsFor c m → after m q v ≡ m) → ((m : Machine) → StandsFor c m → r ≡ reply_to m q)
    → new ≡ record c { log = c.log ++ item.Call q r ∷ [] } → FollowsMachine c q v new r
serves-quiet c new q v r with same told is =
    record {
      reply = told;
      stands = λ m s. stands-quiet c new m q v r (same m s) with s (told m s) is;
      log = ap (λ (d : CoreView). d.log) is;
      work = quiet-work c new q r is;
    }

pub serves-refused : (c new : CoreView) (q : Call) (v : Option Value) (x : Code) → IsWith q v → refusal c.table c.kept q ≡ Some x
    → new ≡ record c { log = c.log ++ item.Call q (reply.Refused x) ∷ [] } → FollowsMachine c q v new (reply.Refused x)
serves-refused c new q v x with why is =
    let case : (m : Machine) → StandsFor c m → refusal m.table m.payloads q ≡ Some x = λ m s. sym (stands-refusal c m q s) ∙ why in
    serves-quiet c new q v (reply.Refused x) with (λ m s. rw (case m s) refl) (λ m s. rw (case m s) refl) is

pub serves-status : (c new : CoreView) (n : Name) (r : Reply) → r ≡ reply_from c.table c.kept (call.Status n)
    → new ≡ record c { log = c.log ++ item.Call (call.Status n) r ∷ [] } → FollowsMachine c (call.Status n) None new r
serves-status c new n r told is =
    serves-quiet c new (call.Status n) None r refl (λ m s. quiet (refusal m.table m.payloads (call.Status n)) m) (λ m s. told ∙ stands-reply c m (call.Status n) s) is

pub serves-fetch : (c new : CoreView) (n : Name) (r : Reply) → r ≡ reply_from c.table c.kept (call.Fetch n)
    → new ≡ record c { log = c.log ++ item.Call (call.Fetch n) r ∷ [] } → FollowsMachine c (call.Fetch n) None new r
serves-fetch c new n r told is =
    serves-quiet c new (call.Fetch n) None r refl (λ m s. quiet (refusal m.table m.payloads (call.Fetch n)) m) (λ m s. told ∙ stands-reply c m (call.Fetch n) s) is

-- ---- one entry more

added-work : (c new : CoreView) (x : Option Progress) → IsComplete c → new.work ≡ c.work ++ x ∷ [] → WorkStays c new
added-work c new x whole work t within pending = ap (λ ws. progress_at ws t) work ∙ get_or-push_below c.work x None t (omega (arith, whole.work))

none-some : (p : Progress) (o : Outcome) → None ≡ Some p → o ≡ outcome.Pending
none-some p o h = absurd cc

-- a payload is accepted
pub serves-given : (c new : CoreView) (q : Call) (n : Name) (s : Shape) (v : Value) → IsWith q (Some v) → refusal c.table c.kept q ≡ None
    → ((m : Machine) → refusal m.table m.payloads q ≡ None → after m q (Some v) ≡ pushed m n (given_submission (given.Good s)) outcome.Done (Some v))
    → ((m : Machine) → refusal m.table m.payloads q ≡ None → reply_to m q ≡ reply.Accepted (length m.table.names))
    → IsComplete c → new.table ≡ with_entry c.table n (given_submission (given.Good s)) outcome.Done → new.kept ≡ c.kept ++ Some v ∷ [] → new.work ≡ c.work ++ None ∷ []
    → new.log ≡ c.log ++ item.Call q (reply.Accepted (length c.table.names)) ∷ [] → FollowsMachine c q (Some v) new (reply.Accepted (length c.table.names))
serves-given c new q n s v with free is told whole table kept work log =
    let e = given_submission (given.Good s) in
    let Answers : Machine → Type 0 = λ m. reply.Accepted (length c.table.names) ≡ reply_to m q in
    let answers : (m : Machine) → StandsFor c m → Answers m
    = λ m st. ap (λ w. reply.Accepted (length w.names)) st.table ∙ sym (told m (sym (stands-refusal c m q st) ∙ free)) in
    record {
      reply = answers;
      stands = λ m st.
          let case = sym (stands-refusal c m q st) ∙ free in
          let columns : length c.kept ≡ length m.table.names = whole.stored.kept ∙ ap (λ w. length w.names) st.table in
          let pending : ◌≡◌ {A = Outcome} outcome.Done outcome.Pending → ⊥ = λ h. let f = ap is_pending h in cc in
          stands-added c new m q n e outcome.Done (Some v) None (reply.Accepted (length c.table.names)) whole st with (answers m st) (is m case)
          (agrees-push c.kept m n e outcome.Done (Some v) (stands-sound c m st) columns st.agrees tt (λ u h. h) (λ u h. refl) (λ h. refl) refl)
          (λ h. absurd (pending h), λ p h. none-some p outcome.Done h)
          table kept work log;
      log = log;
      work = added-work c new None whole work;
    }

-- a command is accepted
held-by : (w : Table) (fits : Shape → Bool) (n : Name) (t : ℕ) → input_case w fits n ≡ None → ticket_of w.names n ≡ Some t → is_released (outcome_at w.outcomes t) ≡ false
held-by w fits n t h e =
    let known = is_known (ticket_of w.names n) _ h in
    let kinds = first_none (when (not (fits (shape_at w.submissions known.0))) code.Kind) _ known.2 in
    let dead = first_none (when (is_dead (outcome_at w.outcomes known.0)) code.Dead) _ kinds.1 in
    let held = first_none (when (is_released (outcome_at w.outcomes known.0)) code.Released) [] dead.1 in
    let same : known.0 ≡ t = cc (known.1, e) in
    ap (λ i. is_released (outcome_at w.outcomes i)) (sym same) ∙ when_so (is_released (outcome_at w.outcomes known.0)) code.Released held.0

input-held : (w : Table) (a : Wanted) (t : ℕ) → wanted_case w a ≡ None → ticket_wanted w a ≡ Some t → is_released (outcome_at w.outcomes t) ≡ false
input-held w (AnImage n) t h e = held-by w is_image n t h e
input-held w (AnElement n) t h e = held-by w is_element n t h e

accepted-run : (m : Machine) (n : Name) (o : Op) → refusal m.table m.payloads (call.Run n o) ≡ None → after m (call.Run n o) None ≡ pushed m n (run_submission m.table o) outcome.Pending None
accepted-run m n o free = rw free refl

asked : (m : Machine) (n : Name) (o : Op) → refusal m.table m.payloads (call.Run n o) ≡ None → first_of (map (wanted_case m.table) (inputs_wanted o)) ≡ None
asked m n o free =
    let x = first_none (name_taken m.table n) _ free in
    let y = first_none (no_room m.table) _ x.1 in
    (first_none (first_of (map (wanted_case m.table) (inputs_wanted o))) _ y.1).0

-- A command is accepted with work that means it.
pub stands-run : (c new : CoreView) (m : Machine) (n : Name) (o : Op) (p : Progress) → refusal m.table m.payloads (call.Run n o) ≡ None
    → ((t : ℕ) → t + 1 ≡ length (pushed m n (run_submission m.table o) outcome.Pending None).table.names → IsWork (pushed m n (run_submission m.table o) outcome.Pending None) t p)
    → IsComplete c → StandsFor c m → reply.Accepted (length c.table.names) ≡ reply_to m (call.Run n o)
    → new.table ≡ with_entry c.table n (run_submission c.table o) outcome.Pending → new.kept ≡ c.kept ++ None ∷ [] → new.work ≡ c.work ++ Some p ∷ []
    → new.log ≡ c.log ++ item.Call (call.Run n o) (reply.Accepted (length c.table.names)) ∷ [] → StandsFor new (after m (call.Run n o) None)
stands-run c new m n o p free works whole st told table kept work log =
    let e = run_submission m.table o in
    let sound = stands-sound c m st in
    let columns : length c.kept ≡ length m.table.names = whole.stored.kept ∙ ap (λ w. length w.names) st.table in
    let inputs = asked m n o free in
    stands-added c new m (call.Run n o) n e outcome.Pending None (Some p) (reply.Accepted (length c.table.names)) whole st refl told (accepted-run m n o free)
    (agrees-push c.kept m n e outcome.Pending None sound columns st.agrees
    (inputs_all m.table (λ i. is_released (outcome_at m.table.outcomes i) ≡ false) (inputs_wanted o) (input-held m.table) inputs)
    (λ v h. absurd cc) (λ v h. absurd cc) (λ h. let f = ap is_pending h in absurd cc) refl)
    (λ h. (p, refl, works), λ x h. refl)
    (table ∙ ap (λ w. with_entry c.table n (run_submission w o) outcome.Pending) st.table) kept work log

-- the work of the command is told for each machine that the core stands for
pub serves-run : (c new : CoreView) (n : Name) (o : Op) (p : Progress) → refusal c.table c.kept (call.Run n o) ≡ None
    → ((m : Machine) → StandsFor c m → refusal m.table m.payloads (call.Run n o) ≡ None → (t : ℕ) → t + 1 ≡ length (pushed m n (run_submission m.table o) outcome.Pending None).table.names
    → IsWork (pushed m n (run_submission m.table o) outcome.Pending None) t p)
    → IsComplete c → new.table ≡ with_entry c.table n (run_submission c.table o) outcome.Pending → new.kept ≡ c.kept ++ None ∷ [] → new.work ≡ c.work ++ Some p ∷ []
    → new.log ≡ c.log ++ item.Call (call.Run n o) (reply.Accepted (length c.table.names)) ∷ [] → FollowsMachine c (call.Run n o) None new (reply.Accepted (length c.table.names))
serves-run c new n o p free works whole table kept work log =
    let q = call.Run n o in
    let case : (m : Machine) → StandsFor c m → refusal m.table m.payloads q ≡ None = λ m st. sym (stands-refusal c m q st) ∙ free in
    let answers : (m : Machine) → StandsFor c m → reply.Accepted (length c.table.names) ≡ reply_to m q
    = λ m st. ap (λ w. reply.Accepted (length w.names)) st.table ∙ sym (rw (case m st) refl) in
    record {
      reply = answers;
      stands = λ m st. stands-run c new m n o p (case m st) (works m st (case m st)) whole st (answers m st) table kept work log;
      log = log;
      work = added-work c new (Some p) whole work;
    }

-- ---- payloads

pub serves-load : (c new : CoreView) (n : Name) (f : Picture) → IsImage f → refusal c.table c.kept (call.Load n (given.Good (shape_of_picture f))) ≡ None → IsComplete c
    → new.table ≡ with_entry c.table n (given_submission (given.Good (shape_of_picture f))) outcome.Done → new.kept ≡ c.kept ++ Some (ImageValue f) ∷ [] → new.work ≡ c.work ++ None ∷ []
    → new.log ≡ c.log ++ item.Call (call.Load n (given.Good (shape_of_picture f))) (reply.Accepted (length c.table.names)) ∷ []
    → FollowsMachine c (call.Load n (given.Good (shape_of_picture f))) (Some (ImageValue f)) new (reply.Accepted (length c.table.names))
serves-load c new n f image free whole =
    serves-given c new (call.Load n (given.Good (shape_of_picture f))) n (shape_of_picture f) (ImageValue f) (f, refl, image, refl) free (λ m r. rw r refl) (λ m r. rw r refl) whole

pub serves-element : (c new : CoreView) (n : Name) (b : Figure) → IsFigure b → refusal c.table c.kept (call.Element n (given.Good (shape_of_figure b))) ≡ None → IsComplete c
    → new.table ≡ with_entry c.table n (given_submission (given.Good (shape_of_figure b))) outcome.Done → new.kept ≡ c.kept ++ Some (ElementValue b) ∷ [] → new.work ≡ c.work ++ None ∷ []
    → new.log ≡ c.log ++ item.Call (call.Element n (given.Good (shape_of_figure b))) (reply.Accepted (length c.table.names)) ∷ []
    → FollowsMachine c (call.Element n (given.Good (shape_of_figure b))) (Some (ElementValue b)) new (reply.Accepted (length c.table.names))
serves-element c new n b figure free whole =
    serves-given c new (call.Element n (given.Good (shape_of_figure b))) n (shape_of_figure b) (ElementValue b) (b, refl, figure, refl) free (λ m r. rw r refl) (λ m r. rw r refl) whole

-- ---- cancel

pub dies-work : (c new : CoreView) → KeepsWork new.table c.work new.work → WorkStays c new
dies-work c new work t within pending = work t ∙ ap (λ b. cond b (progress_at c.work t) None) pending

pub serves-cancel : (c new : CoreView) (n : Name) (t : ℕ) → refusal c.table c.kept (call.Cancel n) ≡ None → t ≡ ticket c.table n → IsComplete c → t < length c.table.names
    → outcome_at c.table.outcomes t ≡ outcome.Pending → new.table ≡ killed c.table t outcome.Cancelled → DropsSpent new.table c.kept new.kept → KeepsWork new.table c.work new.work
    → new.log ≡ c.log ++ item.Call (call.Cancel n) (reply.Accepted t) ∷ [] → FollowsMachine c (call.Cancel n) None new (reply.Accepted t)
serves-cancel c new n t free at whole within pending table kept work log =
    let q = call.Cancel n in
    let case : (m : Machine) → StandsFor c m → refusal m.table m.payloads q ≡ None = λ m s. sym (stands-refusal c m q s) ∙ free in
    let here : (m : Machine) → StandsFor c m → t ≡ ticket m.table n = λ m s. at ∙ ap (λ w. ticket w n) s.table in
    let told : (m : Machine) → StandsFor c m → reply.Accepted t ≡ reply_to m q = λ m s. ap reply.Accepted (here m s) ∙ sym (rw (case m s) refl) in
    let is : (m : Machine) → StandsFor c m → after m q None ≡ with_table m (killed m.table t outcome.Cancelled) = λ m s. rw (case m s, append-nil m.payloads, here m s) refl in
    record {
      reply = told;
      stands = λ m s.
          let P : Machine → Type 0 = λ k. StandsFor new k in
          subst P (sym (is m s)) (stands-dies c new m t outcome.Cancelled (item.Call q (reply.Accepted t)) whole s within pending refl
          (None, refl, told m s, sym (is m s)) table kept work log);
      log = log;
      work = dies-work c new work;
    }

-- ---- release

-- a ticket that is done has no work
some-or-none : (x : Option Progress) → ((p : Progress) → x ≡ Some p → ⊥) → x ≡ None
some-or-none None f = refl
some-or-none (Some p) f = absurd (f p refl)

no-work : (c : CoreView) (m : Machine) (t : ℕ) → StandsFor c m → outcome_at m.table.outcomes t ≡ outcome.Done → progress_at c.work t ≡ None
no-work c m t s done = some-or-none (progress_at c.work t) (λ p h. let e = ap is_pending (sym (s.idle t p h) ∙ done) in cc)

pub serves-release : (c new : CoreView) (n : Name) (t : ℕ) → refusal c.table c.kept (call.Release n) ≡ None → t ≡ ticket c.table n → IsComplete c → t < length c.table.names
    → outcome_at c.table.outcomes t ≡ outcome.Done → new.table ≡ settled c.table t outcome.Released → DropsSpent new.table c.kept new.kept → new.work ≡ c.work
    → new.log ≡ c.log ++ item.Call (call.Release n) (reply.Accepted t) ∷ [] → FollowsMachine c (call.Release n) None new (reply.Accepted t)
serves-release c new n t free at whole within done table kept work log =
    let q = call.Release n in
    let case : (m : Machine) → StandsFor c m → refusal m.table m.payloads q ≡ None = λ m s. sym (stands-refusal c m q s) ∙ free in
    let here : (m : Machine) → StandsFor c m → t ≡ ticket m.table n = λ m s. at ∙ ap (λ w. ticket w n) s.table in
    let told : (m : Machine) → StandsFor c m → reply.Accepted t ≡ reply_to m q = λ m s. ap reply.Accepted (here m s) ∙ sym (rw (case m s) refl) in
    let is : (m : Machine) → StandsFor c m → after m q None ≡ with_table m (settled m.table t outcome.Released) = λ m s. rw (case m s, append-nil m.payloads, here m s) refl in
    record {
      reply = told;
      stands = λ m s.
          let P : Machine → Type 0 = λ k. StandsFor new k in
          let sound = stands-sound c m s in
          let Named : Table → Type 0 = λ w. t < length w.names in
          let Done : Table → Type 0 = λ w. outcome_at w.outcomes t ≡ outcome.Done in
          let named : t < length m.table.names = subst Named s.table within in
          let was : outcome_at m.table.outcomes t ≡ outcome.Done = subst Done s.table done in
          let gone : progress_at new.work t ≡ None = ap (λ ws. progress_at ws t) work ∙ no-work c m t s was in
          subst P (sym (is m s)) (stands-settled c new m t outcome.Released c.kept (item.Call q (reply.Accepted t)) whole s within refl refl
          (None, refl, told m s, sym (is m s)) (agrees-released c.kept m t s.agrees named (omega (arith, named, sound.lengths.outcomes)) was) table kept log gone (λ u d. ap (λ ws. progress_at ws u) work));
      log = log;
      work = λ u l p. ap (λ ws. progress_at ws u) work;
    }
