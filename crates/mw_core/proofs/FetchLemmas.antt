-- What a FETCH hands out is the value of the ticket.
use Rattle.std.proofs.Common.{◌≡◌, ◌↔◌, ℕ, ◌<◌, false, Option, Some, None, IsSome, length, refl, sym, ap, ◌∙◌, subst}
use Rattle.std.specs.Prelude.{option_map}
use Rattle.mw_model.specs.declared.names.Name.{Name}
use Rattle.mw_model.specs.declared.shapes.Shape.{Shape}
use Rattle.mw_model.specs.declared.codes.Code.{Code}
use Rattle.mw_model.specs.declared.codes.Code.TheVariants as code
use Rattle.mw_model.specs.declared.calls.Outcome.{Outcome}
use Rattle.mw_model.specs.declared.calls.Outcome.TheVariants as outcome
use Rattle.mw_model.specs.declared.calls.Call.TheVariants as call
use Rattle.mw_model.specs.declared.calls.Reply.{Reply}
use Rattle.mw_model.specs.declared.calls.Reply.TheVariants as reply
use Rattle.mw_model.specs.Values.{Value, ImageValue, ElementValue, CurveValue, value_at, shape_of_figure}
use Rattle.mw_model.specs.Refusals.{Table, ticket, ticket_of, outcome_at, shape_at, is_element, when, refusal}
use Rattle.mw_model.specs.Machine.{Machine, values, answer, fetch_reply, refused_or, reply_to, reply_from}
use Rattle.mw_model.specs.Stands.{CoreView, StandsFor}
use Rattle.mw_core_refusals.specs.mw_model_laws.MachineLaws.{shape_of_value}
use Rattle.mw_core_refusals.proofs.mw_model_laws.RunTables.{is_known, ticket_is, ticket_within, when_so}
use Rattle.mw_core_ledger.specs.mw_core_laws.Events.{handed_out}
use Rattle.mw_core_refusals.specs.mw_store.Fetches.{IsShown, ShowsSome, fetchable, shown_value}
use Rattle.mw_core_refusals.specs.mw_store.declared.fetched.FetchedValue.{FetchedValue}
use Rattle.mw_core_ledger.proofs.mw_core_laws.RefusalLemmas.{some-same}
use Rattle.mw_core_ledger.proofs.mw_core_laws.StandsLemmas.{stands-sound, stands-reply}

-- a value is shown only where the entry is done
shows-done : (t u : ℕ) (s : Shape) (o : Outcome) → fetch_reply t s o ≡ reply.Shown u → (o ≡ outcome.Done) × (t ≡ u)
shows-done t u s outcome.Pending h = absurd cc
shows-done t u s outcome.Done h = (refl, cc)
shows-done t u s outcome.Cancelled h = absurd cc
shows-done t u s outcome.Memory h = absurd cc
shows-done t u s (outcome.Input i) h = absurd cc
shows-done t u s outcome.Released h = absurd cc

-- a reply that is no refusal was not refused
not-refused : (r : Option Code) (a : Reply) (t : ℕ) → refused_or r a ≡ reply.Shown t → (r ≡ None) × (a ≡ reply.Shown t)
not-refused None a t h = (refl, h)
not-refused (Some c) a t h = absurd cc

-- the ticket that is shown is that of a done entry, and no element
record IsDoneTicket (w : Table) (t : ℕ) : Type 0 where
  within : t < length w.names
  done : outcome_at w.outcomes t ≡ outcome.Done
  shape : is_element (shape_at w.submissions t) ≡ false

shown-ticket : (m : Machine) (n : Name) (t : ℕ) → reply_to m (call.Fetch n) ≡ reply.Shown t → IsDoneTicket m.table t
shown-ticket m n t h =
    let w = m.table in
    let parts = not-refused (refusal w m.payloads (call.Fetch n)) (answer w (call.Fetch n)) t h in
    let known = is_known (ticket_of w.names n) (λ u. when (is_element (shape_at w.submissions u)) code.Kind) parts.0 in
    let u = known.0 in
    let at : ticket w n ≡ u = ticket_is w n u known.1 in
    let shown = shows-done (ticket w n) t (shape_at w.submissions (ticket w n)) (outcome_at w.outcomes (ticket w n)) parts.1 in
    let same : u ≡ t = sym at ∙ shown.1 in
    let P : ℕ → Type 0 = λ x. IsDoneTicket w x in
    subst P same (record {
      within = ticket_within w n u known.1;
      done = ap (outcome_at w.outcomes) (sym at) ∙ shown.0;
      shape = when_so (is_element (shape_at w.submissions u)) code.Kind known.2;
    })

-- a value that is no element is handed out
must-be-handed : (v : Option Value) (s : Shape) → option_map shape_of_value v ≡ Some s → is_element s ≡ false → fetchable v ≡ v
must-be-handed None s h e = refl
must-be-handed (Some (ImageValue f)) s h e = refl
must-be-handed (Some (ElementValue b)) s h e = let is : shape_of_figure b ≡ s = cc in let f = ap is_element is in absurd cc
must-be-handed (Some (CurveValue v)) s h e = refl

shown-value : (c : CoreView) (m : Machine) (n : Name) (t : ℕ) (v : FetchedValue) → StandsFor c m → reply_to m (call.Fetch n) ≡ reply.Shown t → shown_value v ≡ fetchable (value_at c.kept t) → shown_value v ≡ value_at (values m) t
shown-value c m n t v s told is =
    let done = shown-ticket m n t told in
    let sound = stands-sound c m s in
    let there = s.agrees.done t done.within done.done in
    let same : value_at (values m) t ≡ value_at c.kept t = some-same (value_at c.kept t) (value_at (values m) t) there (λ x e. s.agrees.own t x e) in
    let shaped = ap (option_map shape_of_value) (sym same) ∙ sound.shapes t done.within in
    is ∙ must-be-handed (value_at c.kept t) (shape_at m.table.submissions t) shaped done.shape ∙ sym same

by-reply : (c : CoreView) (m : Machine) (n : Name) (r : Reply) (v : FetchedValue) → StandsFor c m → r ≡ reply_to m (call.Fetch n) → IsShown c r v → shown_value v ≡ handed_out m r
by-reply c m n (reply.Accepted t) v s told is = is
by-reply c m n (reply.Refused x) v s told is = is
by-reply c m n (reply.Pending t) v s told is = is
by-reply c m n (reply.Done t x) v s told is = is
by-reply c m n (reply.Cancelled t) v s told is = is
by-reply c m n (reply.OutOfMemory t) v s told is = is
by-reply c m n (reply.BadInput t i) v s told is = is
by-reply c m n (reply.Released t) v s told is = is
by-reply c m n (reply.Shown t) v s told is = shown-value c m n t v s (sym told) is

pub fetched-value : (c : CoreView) (m : Machine) (n : Name) (r : Reply) (v : FetchedValue) → StandsFor c m → r ≡ reply_from c.table c.kept (call.Fetch n) → IsShown c r v → shown_value v ≡ handed_out m r
fetched-value c m n r v s told is = by-reply c m n r v s (told ∙ stands-reply c m (call.Fetch n) s) is

-- ---- whether something is handed out

nothing-shown : (r : Reply) (v : FetchedValue) → shown_value v ≡ None → (ShowsSome r → ⊥) → IsSome (shown_value v) ↔ ShowsSome r
nothing-shown r v none other = (λ some. let P : Option Value → Type 0 = IsSome in let f = subst P none some in absurd cc, λ s. absurd (other s))

with-shape : (x : Option Value) (s : Shape) → option_map shape_of_value x ≡ Some s → IsSome x
with-shape None s h = absurd cc
with-shape (Some v) s h = refl

something-shown : (c : CoreView) (m : Machine) (n : Name) (t : ℕ) (v : FetchedValue) → StandsFor c m → reply_to m (call.Fetch n) ≡ reply.Shown t → shown_value v ≡ fetchable (value_at c.kept t) → IsSome (shown_value v)
something-shown c m n t v s told is =
    let P : Option Value → Type 0 = IsSome in
    subst P (sym (shown-value c m n t v s told is)) (with-shape (value_at (values m) t) (shape_at m.table.submissions t) ((stands-sound c m s).shapes t (shown-ticket m n t told).within))

shown-by-reply : (c : CoreView) (m : Machine) (n : Name) (r : Reply) (v : FetchedValue) → StandsFor c m → r ≡ reply_to m (call.Fetch n) → IsShown c r v → IsSome (shown_value v) ↔ ShowsSome r
shown-by-reply c m n (reply.Accepted t) v s told is = nothing-shown (reply.Accepted t) v is (λ h. let e = h.1 in cc)
shown-by-reply c m n (reply.Refused x) v s told is = nothing-shown (reply.Refused x) v is (λ h. let e = h.1 in cc)
shown-by-reply c m n (reply.Pending t) v s told is = nothing-shown (reply.Pending t) v is (λ h. let e = h.1 in cc)
shown-by-reply c m n (reply.Done t x) v s told is = nothing-shown (reply.Done t x) v is (λ h. let e = h.1 in cc)
shown-by-reply c m n (reply.Cancelled t) v s told is = nothing-shown (reply.Cancelled t) v is (λ h. let e = h.1 in cc)
shown-by-reply c m n (reply.OutOfMemory t) v s told is = nothing-shown (reply.OutOfMemory t) v is (λ h. let e = h.1 in cc)
shown-by-reply c m n (reply.BadInput t i) v s told is = nothing-shown (reply.BadInput t i) v is (λ h. let e = h.1 in cc)
shown-by-reply c m n (reply.Released t) v s told is = nothing-shown (reply.Released t) v is (λ h. let e = h.1 in cc)
shown-by-reply c m n (reply.Shown t) v s told is = (λ some. (t, refl), λ h. something-shown c m n t v s (sym told) is)

-- a value is handed out exactly where the reply shows a ticket
pub fetched-shown : (c : CoreView) (m : Machine) (n : Name) (r : Reply) (v : FetchedValue) → StandsFor c m → r ≡ reply_from c.table c.kept (call.Fetch n) → IsShown c r v → IsSome (shown_value v) ↔ ShowsSome r
fetched-shown c m n r v s told is = shown-by-reply c m n r v s (told ∙ stands-reply c m (call.Fetch n) s) is

-- ---- what is kept
