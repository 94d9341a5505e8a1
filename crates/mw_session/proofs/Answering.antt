-- How the answers to requests are turns of a script.
use Rattle.std.proofs.Common.{◌≡◌, ◌≢◌, ℕ, Bool, true, false, ◌⊎◌, inl, inr, List, [], ◌∷◌, ◌++◌, length, Option, Some, None, Result, Ok, Err, refl, sym, ap, ◌∙◌, subst, arith, append_assoc, length-append}
use Rattle.std.specs.Prelude.{IfOk, IsOk, OnErr}
use Rattle.std.proofs.lemmas.List.{append-nil}
use Rattle.mw_model.proofs.mw_facts.Elements.{get_or-push_last}
use Rattle.mw_model.specs.declared.names.Name.{Name}
use Rattle.mw_model.specs.declared.operations.Op.{Op}
use Rattle.mw_model.specs.declared.submissions.Submission.{Submission}
use Rattle.mw_model.specs.declared.codes.Code.{Code}
use Rattle.mw_model.specs.declared.codes.Code.TheVariants as code
use Rattle.mw_model.specs.declared.calls.Given.TheVariants as given
use Rattle.mw_model.specs.declared.calls.Call.{Call}
use Rattle.mw_model.specs.declared.calls.Call.TheVariants as call
use Rattle.mw_model.specs.declared.calls.Outcome.{Outcome}
use Rattle.mw_model.specs.declared.calls.Outcome.TheVariants as outcome
use Rattle.mw_model.specs.declared.calls.Reply.{Reply}
use Rattle.mw_model.specs.declared.calls.Reply.TheVariants as reply
use Rattle.mw_model.specs.declared.calls.LogItem.{LogItem}
use Rattle.mw_model.specs.declared.calls.LogItem.TheVariants as item
use Rattle.mw_model.specs.Pictures.{Picture}
use Rattle.mw_model.specs.Elements.{Figure}
use Rattle.mw_model.specs.Values.{Value, ImageValue, ElementValue, shape_of_picture, shape_of_figure}
use Rattle.mw_model.specs.Refusals.{Table, outcome_at, is_pending, first_of, name_taken, no_room, refusal}
use Rattle.mw_model.specs.Machine.{Machine, answer, refused_or, reply_to, changed, unless_refused, with_entry, killed, after}
use Rattle.mw_model.specs.Tasks.{running_tasks}
use Rattle.mw_model.specs.Stands.{CoreView, StandsFor, running_count}
use Rattle.mw_model.specs.declared.requests.Ask.TheVariants as ask
use Rattle.mw_model.specs.Lines.{Asked, AskLoad, AskElement, AskAlone}
use Rattle.mw_model.specs.Replies.{Handed, reply_text, refusal_text, NoValue}
use Rattle.mw_model.specs.Scripts.{Answers, unread, called, Works, Replies, IsCallOf, runs_work, refused_unread, handed, handed_value, answer_text}
use Rattle.mw_model.specs.Receipts.{IsCallFor}
use Rattle.mw_core_waves.specs.mw_session_laws.Marks.{killed_in}
use Rattle.mw_session.specs.Turns.{TellsWork, TellsCall, logged, unlogged, MayLack}
use Rattle.mw_core_waves.proofs.mw_model_laws.RunStates.{reached}
use Rattle.mw_core_waves.proofs.mw_model_laws.RunReplay.{refused_leaves, fetch_leaves}
use Rattle.mw_core_waves.specs.mw_session_laws.Payloads.{ReadsImage, ReadsElement}
use Rattle.mw_core_waves.specs.mw_core_laws.Payloads.{given_image, image_payload, given_element, element_payload}
use Rattle.mw_core_waves.specs.mw_core_laws.Events.{FollowsMachine, IsFresh, handed_out}
use Rattle.mw_core_waves.proofs.mw_core_laws.ShownLemmas.{IsPlain, answer-not_shown, refused_or-not_shown}
use Rattle.mw_session_fetch.specs.mw_store.Fetches.{shown_value}
use Rattle.mw_session_fetch.specs.mw_store.declared.fetched.FetchedValue.{FetchedValue}
use Rattle.mw_session_fetch.specs.mw_wire.Writes.{told_text}
use Rattle.mw_core_waves.specs.Work.{AllWorked}
use Rattle.mw_session_fetch.specs.Texts.{fetch_text, SaysFetched}
use Rattle.mw_core_waves.specs.mw_core_laws.Rows.{IsLogFull}
use Rattle.mw_session.specs.Answering.{MayWant, Answered}
use Rattle.mw_core_waves.proofs.TicketCounts.{under, none-under, count-under, running_count-stays_none}

-- ---- texts

-- a reply that shows nothing is one text, whatever is handed out
told-alone : (r : Reply) (v : Handed) → ((t : ℕ) → r ≢ reply.Shown t) → reply_text r NoValue ≡ reply_text r v
told-alone (reply.Accepted t) v n = refl
told-alone (reply.Refused c) v n = refl
told-alone (reply.Pending t) v n = refl
told-alone (reply.Done t s) v n = refl
told-alone (reply.Cancelled t) v n = refl
told-alone (reply.OutOfMemory t) v n = refl
told-alone (reply.BadInput t s) v n = refl
told-alone (reply.Released t) v n = refl
told-alone (reply.Shown t) v n = absurd (n t refl)

plain-text : (m : Machine) (c : Call) (r : Reply) → IsPlain c → r ≡ reply_to m c → reply_text r NoValue ≡ answer_text m c
plain-text m c r p e =
    ap (λ x. reply_text x NoValue) e ∙ told-alone (reply_to m c) (handed m (reply_to m c)) (λ u. refused_or-not_shown (refusal m.table m.payloads c) (answer m.table c) u (answer-not_shown m.table c u p))

-- what goes with a reply is the bytes of the value that it hands out
handed-bytes : (m : Machine) (r : Reply) → handed_value (handed_out m r) ≡ handed m r
handed-bytes m (reply.Accepted t) = refl
handed-bytes m (reply.Refused c) = refl
handed-bytes m (reply.Pending t) = refl
handed-bytes m (reply.Done t s) = refl
handed-bytes m (reply.Cancelled t) = refl
handed-bytes m (reply.OutOfMemory t) = refl
handed-bytes m (reply.BadInput t s) = refl
handed-bytes m (reply.Released t) = refl
handed-bytes m (reply.Shown t) = refl

-- what a FETCH hands out is the machine's
fetched-text : (m : Machine) (r : Reply) (v : FetchedValue) → shown_value v ≡ handed_out m r → fetch_text r v ≡ reply_text r (handed m r)
fetched-text m r v e = ap (λ o. reply_text r (handed_value o)) e ∙ ap (reply_text r) (handed-bytes m r)

-- ---- payloads

-- a fault for want of memory is told only where another refusal stands before it
fault-told : (a b : Option Code) (c : Code) → (d : Code) × (first_of (a ∷ b ∷ Some c ∷ []) ≡ Some d) × (d ≢ c → first_of (a ∷ b ∷ []) ≡ Some d)
fault-told (Some a) b c = (a, refl, λ n. refl)
fault-told None (Some b) c = (b, refl, λ n. refl)
fault-told None None c = (c, refl, λ n. absurd (n refl))

-- a submission whose payload found no memory is refused whatever the payload holds
unread-answers : (m n : Machine) (q : Asked) (c : Call) (x y : Option Code) (r : Reply) → refused_unread m.table q ≡ first_of (x ∷ y ∷ []) → refusal m.table m.payloads c ≡ first_of (x ∷ y ∷ Some code.Memory ∷ [])
    → r ≡ reply_to m c → r ≢ reply.Refused code.Memory → n ≡ after m c None → Answers m q (reply_text r NoValue) n
unread-answers m n q c x y r u f told other next =
    let by = fault-told x y code.Memory in
    let why = by.0 in
    let refused : refusal m.table m.payloads c ≡ Some why = f ∙ by.1 in
    let says : r ≡ reply.Refused why = told ∙ ap (λ o. refused_or o (answer m.table c)) refused in
    unread why (u ∙ by.2 (λ e. other (says ∙ ap reply.Refused e))) (ap (λ z. reply_text z NoValue) says) (next ∙ refused_leaves m c None why refused)

pub load-answers : (m n : Machine) (name : Name) (bytes : List ℕ) (image : Result Picture Code) (r : Reply) → ReadsImage bytes image → r ≡ reply_to m (call.Load name (given_image image))
    → r ≢ reply.Refused code.Memory → n ≡ after m (call.Load name (given_image image)) (image_payload image) → Answers m (AskLoad name bytes) (reply_text r NoValue) n
load-answers m n name bytes (Ok f) r read told other next =
    let c = call.Load name (given.Good (shape_of_picture f)) in
    called c (Some (ImageValue f)) (given.Good (shape_of_picture f), (f, read.0, refl, refl), refl) (plain-text m c r tt told) next
load-answers m n name bytes (Err e) r (inl memory) told other next =
    let P : Code → Type 0 = λ d. r ≡ reply_to m (call.Load name (given.Bad d)) → n ≡ after m (call.Load name (given.Bad d)) None → Answers m (AskLoad name bytes) (reply_text r NoValue) n in
    subst P (sym memory) (λ t x. unread-answers m n (AskLoad name bytes) (call.Load name (given.Bad code.Memory)) (name_taken m.table name) (no_room m.table) r refl refl t other x) told next
load-answers m n name bytes (Err e) r (inr why) told other next =
    let c = call.Load name (given.Bad e) in
    called c None (given.Bad e, (why, refl), refl) (plain-text m c r tt told) next

pub element-answers : (m n : Machine) (name : Name) (ox oy : ℕ) (bytes : List ℕ) (element : Result Figure Code) (r : Reply) → ReadsElement bytes ox oy element → r ≡ reply_to m (call.Element name (given_element element))
    → r ≢ reply.Refused code.Memory → n ≡ after m (call.Element name (given_element element)) (element_payload element) → Answers m (AskElement name ox oy bytes) (reply_text r NoValue) n
element-answers m n name ox oy bytes (Ok b) r read told other next =
    let c = call.Element name (given.Good (shape_of_figure b)) in
    called c (Some (ElementValue b)) (given.Good (shape_of_figure b), (b, read, refl, refl), refl) (plain-text m c r tt told) next
element-answers m n name ox oy bytes (Err e) r (inl memory) told other next =
    let P : Code → Type 0 = λ d. r ≡ reply_to m (call.Element name (given.Bad d)) → n ≡ after m (call.Element name (given.Bad d)) None → Answers m (AskElement name ox oy bytes) (reply_text r NoValue) n in
    subst P (sym memory) (λ t x. unread-answers m n (AskElement name ox oy bytes) (call.Element name (given.Bad code.Memory)) (name_taken m.table name) (no_room m.table) r refl refl t other x) told next
element-answers m n name ox oy bytes (Err e) r (inr why) told other next =
    let c = call.Element name (given.Bad e) in
    called c None (given.Bad e, (why, refl), refl) (plain-text m c r tt told) next

-- ---- no task is running after a call

unless-cases : (x : Option Code) (a b : Table) → (unless_refused x a b ≡ a) ⊎ ((x ≡ None) × (unless_refused x a b ≡ b))
unless-cases None a b = inr (refl, refl)
unless-cases (Some c) a b = inl refl

-- where no entry is added
calm-old : (old new : CoreView) (c : Call) (p : Option Value) (r : Reply) (m : Machine) → StandsFor old m → FollowsMachine old c p new r → running_count old ≡ 0 → length (changed m.table c).names ≡ length m.table.names → running_count new ≡ 0
calm-old old new c p r m s e none same =
    let stands = e.stands m s in
    let names : length new.table.names ≡ length m.table.names = elim (unless-cases (refusal m.table m.payloads c) m.table (changed m.table c)) [
      | inl stays ↦ ap (λ (w : Table). length w.names) (stands.table ∙ stays)
      | inr next ↦ ap (λ (w : Table). length w.names) (stands.table ∙ next.1) ∙ same
    ] in
    running_count-stays_none old new (after m c p) stands e.work none (λ u past l. absurd (omega (arith, past, l, names, ap (λ (w : Table). length w.names) s.table)))

-- where an entry is added under which no task is running
calm-more : (old new : CoreView) (c : Call) (p : Option Value) (r : Reply) (m : Machine) (name : Name) (e : Submission) (o : Outcome) → StandsFor old m → FollowsMachine old c p new r → running_count old ≡ 0
    → changed m.table c ≡ with_entry m.table name e o → (refusal m.table m.payloads c ≡ None → (u : ℕ) → u ≡ length m.table.names → under running_tasks new u ≡ 0) → running_count new ≡ 0
calm-more old new c p r m name e o s h none same rests =
    let stands = h.stands m s in
    let names = ap (λ (w : Table). length w.names) s.table in
    running_count-stays_none old new (after m c p) stands h.work none (λ u past l. elim (unless-cases (refusal m.table m.payloads c) m.table (changed m.table c)) [
      | inl stays ↦ let long = ap (λ (w : Table). length w.names) (stands.table ∙ stays) in absurd (omega (arith, past, l, long, names))
      | inr next ↦
          let long : length new.table.names ≡ length (m.table.names ++ name ∷ []) = ap (λ (w : Table). length w.names) (stands.table ∙ next.1 ∙ same) in
          rests next.0 u (omega (arith, past, l, long, names, length-append m.table.names (name ∷ [])))
    ])

-- a given entry is done at once
given-rests : (old new : CoreView) (c : Call) (p : Option Value) (r : Reply) (m : Machine) (name : Name) (e : Submission) → StandsFor old m → FollowsMachine old c p new r → changed m.table c ≡ with_entry m.table name e outcome.Done
    → refusal m.table m.payloads c ≡ None → (u : ℕ) → u ≡ length m.table.names → under running_tasks new u ≡ 0
given-rests old new c p r m name e s h same free u last =
    let sound = reached old.log m s.run in
    let next : (after m c p).table ≡ with_entry m.table name e outcome.Done = ap (λ x. unless_refused x m.table (changed m.table c)) free ∙ same in
    let done : outcome_at (m.table.outcomes ++ outcome.Done ∷ []) u ≡ outcome.Done = get_or-push_last m.table.outcomes outcome.Done outcome.Pending u (omega (arith, last, sound.lengths.outcomes)) in
    none-under running_tasks new (after m c p) u (h.stands m s) (ap (λ (w : Table). is_pending (outcome_at w.outcomes u)) next ∙ ap is_pending done)

pub calm-load : (old new : CoreView) (name : Name) (image : Result Picture Code) (r : Reply) (m : Machine) → StandsFor old m → FollowsMachine old (call.Load name (given_image image)) (image_payload image) new r → running_count old ≡ 0 → running_count new ≡ 0
calm-load old new name image r m s h none =
    let c = call.Load name (given_image image) in
    calm-more old new c (image_payload image) r m name _ outcome.Done s h none refl (given-rests old new c (image_payload image) r m name _ s h refl)

pub calm-element : (old new : CoreView) (name : Name) (element : Result Figure Code) (r : Reply) (m : Machine) → StandsFor old m → FollowsMachine old (call.Element name (given_element element)) (element_payload element) new r → running_count old ≡ 0 → running_count new ≡ 0
calm-element old new name element r m s h none =
    let c = call.Element name (given_element element) in
    calm-more old new c (element_payload element) r m name _ outcome.Done s h none refl (given-rests old new c (element_payload element) r m name _ s h refl)

pub calm-run : (old new : CoreView) (name : Name) (op : Op) (r : Reply) (m : Machine) → StandsFor old m → FollowsMachine old (call.Run name op) None new r → ((t : ℕ) → r ≡ reply.Accepted t → IsFresh new t) → running_count old ≡ 0 → running_count new ≡ 0
calm-run old new name op r m s h fresh none =
    let c = call.Run name op in
    calm-more old new c None r m name _ outcome.Pending s h none refl (λ free u last.
    let told : r ≡ reply.Accepted (length m.table.names) = h.reply m s ∙ ap (λ x. refused_or x (answer m.table c)) free in
    let f = fresh (length m.table.names) told in
    rw last (count-under running_tasks new (length m.table.names) f.progress f.work ∙ f.idle))

pub calm-cancel : (old new : CoreView) (name : Name) (r : Reply) (m : Machine) → StandsFor old m → FollowsMachine old (call.Cancel name) None new r → running_count old ≡ 0 → running_count new ≡ 0
unfolding killed
calm-cancel old new name r m s h none = calm-old old new (call.Cancel name) None r m s h none refl

pub calm-release : (old new : CoreView) (name : Name) (r : Reply) (m : Machine) → StandsFor old m → FollowsMachine old (call.Release name) None new r → running_count old ≡ 0 → running_count new ≡ 0
calm-release old new name r m s h none = calm-old old new (call.Release name) None r m s h none refl

pub calm-status : (old new : CoreView) (name : Name) (r : Reply) (m : Machine) → StandsFor old m → FollowsMachine old (call.Status name) None new r → running_count old ≡ 0 → running_count new ≡ 0
calm-status old new name r m s h none = calm-old old new (call.Status name) None r m s h none refl

pub calm-fetch : (old new : CoreView) (name : Name) (r : Reply) (m : Machine) → StandsFor old m → FollowsMachine old (call.Fetch name) None new r → running_count old ≡ 0 → running_count new ≡ 0
calm-fetch old new name r m s h none = calm-old old new (call.Fetch name) None r m s h none refl

-- ---- turns

-- What stands before a request is answered: the work before it was run, where it runs any.
pub record Ready (m : Machine) (q : Asked) (old mid : CoreView) : Type 0 where
  pub items : List LogItem
  pub state : Machine
  pub log : mid.log ≡ old.log ++ items
  pub tells : TellsWork (runs_work q) (killed_in items) items
  pub works : Works (runs_work q) m (killed_in items) state
  pub stands : StandsFor mid state
  pub idle : running_count mid ≡ 0

pub ready-at-once : (m : Machine) (q : Asked) (c : CoreView) → StandsFor c m → running_count c ≡ 0 → runs_work q ≡ false → Ready m q c c
ready-at-once m q c s none quiet =
    let P : Bool → Type 0 = λ b. Works b m [] m in
    let Q : Bool → Type 0 = λ b. TellsWork b [] [] in
    record { items = []; state = m; log = sym (append-nil c.log); tells = subst Q (sym quiet) refl; works = subst P (sym quiet) (refl, refl); stands = s; idle = none }

pub ready-by-work : (m : Machine) (q : Asked) (old mid : CoreView) → AllWorked m old mid → runs_work q ≡ true → Ready m q old mid
ready-by-work m q old mid w busy =
    let P : Bool → Type 0 = λ b. Works b m (killed_in w.items) w.state in
    let Q : Bool → Type 0 = λ b. TellsWork b (killed_in w.items) w.items in
    record { items = w.items; state = w.state; log = w.log; tells = subst Q (sym busy) (w.only, refl); works = subst P (sym busy) w.works; stands = w.stands; idle = w.idle }

-- a request was answered so
answered : (m : Machine) (q : Asked) (old mid new : CoreView) (h : Ready m q old mid) (b : Bool) (text : List ℕ) (n : Machine) (more : List LogItem)
    → Replies b h.state q text n → StandsFor new n → running_count new ≡ 0 → new.log ≡ mid.log ++ more → TellsCall (record { request = q; kills = killed_in h.items; no_memory = b }) more → (b ≡ true → MayLack m q) → (b ≡ true → MayWant new q) → Answered m old q text new
answered m q old mid new h b text n more replies stands none log calls lacks wants = record {
  turn = record { request = q; kills = killed_in h.items; no_memory = b };
  state = n;
  items = h.items ++ more;
  asked = refl;
  made = record {
    made = (h.state, h.works, replies);
    tells = record { before = h.items; call = more; all = refl; work = h.tells; calls = calls };
    lacks = lacks;
  };
  wants = wants;
  stands = stands;
  idle = none;
  log = log ∙ ap (λ l. l ++ more) h.log ∙ append_assoc old.log h.items more;
}

not_marked : {A : Type 0} → false ≡ true → A
not_marked e = cc

-- what held of the core before, where a call left it so
kept_on_err : {E : Type 0} → (got : Result Reply E) (e : E) (old new : CoreView) (P : CoreView → Type 0) → got ≡ Err e → OnErr got (new ≡ old) → OnErr got (P old) → P new
kept_on_err (Ok r) e old new P is failed held = cc
kept_on_err (Err d) e old new P is failed held = subst P (sym failed) held

-- a call that hands out no value was made for it, or found no memory
pub answered-told : {E : Type 0} → (m : Machine) (q : Asked) (old mid new : CoreView) (h : Ready m q old mid) (c : Call) (p : Option Value) (got : Result Reply E)
    → IsCallFor q c → ((e : E) → got ≡ Err e → MayLack m q) → ((e : E) → got ≡ Err e → MayWant new q) → IfOk got (FollowsMachine mid c p new) → OnErr got (new ≡ mid)
    → ((r : Reply) → got ≡ Ok r → FollowsMachine mid c p new r → Answers h.state q (reply_text r NoValue) (after h.state c p) × (running_count new ≡ 0))
    → Answered m old q (told_text got) new
answered-told m q old mid new h c p (Ok r) fits lacks wants served failed answers =
    let a = answers r refl served in
    answered m q old mid new h false (reply_text r NoValue) (after h.state c p) (item.Call c r ∷ []) a.0 (served.stands h.state h.stands) a.1 served.log (logged c r fits not_marked refl) not_marked not_marked
answered-told m q old mid new h c p (Err e) fits lacks wants served failed answers =
    let P : CoreView → Type 0 = λ s. StandsFor s h.state in
    let Q : CoreView → Type 0 = λ s. running_count s ≡ 0 in
    answered m q old mid new h true (refusal_text code.Memory) h.state [] (refl, refl) (subst P (sym failed) h.stands) (subst Q (sym failed) h.idle) (ap (λ (s : CoreView). s.log) failed ∙ sym (append-nil mid.log)) (unlogged refl refl) (λ k. lacks e refl) (λ k. wants e refl)

-- a call that answers what the machine does, where the request calls it
pub called-plain : (m : Machine) (q : Asked) (c : Call) (p : Option Value) (r : Reply) → IsCallOf q c p → IsPlain c → r ≡ reply_to m c → Answers m q (reply_text r NoValue) (after m c p)
called-plain m q c p r is plain told = called c p is (plain-text m c r plain told) refl

-- a FETCH was answered
pub answered-fetch : (m : Machine) (name : Name) (old mid new : CoreView) (h : Ready m (AskAlone (ask.Fetch name)) old mid) (r : Reply) (v : FetchedValue) (text : List ℕ)
    → FollowsMachine mid (call.Fetch name) None new r → shown_value v ≡ handed_out h.state r → SaysFetched r v text → Answered m old (AskAlone (ask.Fetch name)) text new
answered-fetch m name old mid new h r v text served value (inl says) =
    let c = call.Fetch name in
    let told = served.reply h.state h.stands in
    let same : text ≡ answer_text h.state c = says ∙ fetched-text h.state r v value ∙ ap (λ z. reply_text z (handed h.state z)) told in
    answered m (AskAlone (ask.Fetch name)) old mid new h false text (after h.state c None) (item.Call c r ∷ []) (called c None (refl, refl) same refl)
    (served.stands h.state h.stands) (calm-fetch mid new name r h.state h.stands served h.idle) served.log (logged c r refl not_marked refl) not_marked not_marked
answered-fetch m name old mid new h r v text served value (inr says) =
    let c = call.Fetch name in
    let P : Machine → Type 0 = λ n. StandsFor new n in
    answered m (AskAlone (ask.Fetch name)) old mid new h true text h.state (item.Call c r ∷ []) (says.1, refl)
    (subst P (fetch_leaves h.state name None) (served.stands h.state h.stands)) (calm-fetch mid new name r h.state h.stands served h.idle) served.log (logged c r refl (λ e. says.0) refl) (λ e. tt) (λ e. tt)

-- it found no memory
pub answered-memory : (m : Machine) (q : Asked) (old mid new : CoreView) (h : Ready m q old mid) → MayLack m q → MayWant new q → new ≡ mid → Answered m old q (refusal_text code.Memory) new
answered-memory m q old mid new h lacks wants failed =
    let P : CoreView → Type 0 = λ s. StandsFor s h.state in
    let Q : CoreView → Type 0 = λ s. running_count s ≡ 0 in
    answered m q old mid new h true (refusal_text code.Memory) h.state [] (refl, refl) (subst P (sym failed) h.stands) (subst Q (sym failed) h.idle) (ap (λ (s : CoreView). s.log) failed ∙ sym (append-nil mid.log)) (unlogged refl refl) (λ e. lacks) (λ e. wants)

-- ---- the kinds of requests

pub answered-load : {E : Type 0} → (m : Machine) (name : Name) (bytes : List ℕ) (image : Result Picture Code) (old new : CoreView) (got : Result Reply E)
    → StandsFor old m → running_count old ≡ 0 → ReadsImage bytes image → IfOk got (FollowsMachine old (call.Load name (given_image image)) (image_payload image) new) → IfOk got (λ r. r ≢ reply.Refused code.Memory) → OnErr got (new ≡ old)
    → OnErr got (IsLogFull old ⊎ (refused_unread old.table (AskLoad name []) ≡ None)) → Answered m old (AskLoad name bytes) (told_text got) new
unfolding ready-at-once
answered-load {E} m name bytes image old new got s none read served other failed first =
    let q = AskLoad name bytes in
    let c = call.Load name (given_image image) in
    let P : Result Reply E → Type 0 = λ t. IfOk t (λ r. r ≢ reply.Refused code.Memory) in
    let W : CoreView → Type 0 = λ v. MayWant v q in
    answered-told m q old old new (ready-at-once m q old s none refl) c (image_payload image) got (given_image image, refl) (λ e is. tt) (λ e is. kept_on_err got e old new W is failed first) served failed
    (λ r is h. (load-answers m (after m c (image_payload image)) name bytes image r read (h.reply m s) (subst P is other) refl, calm-load old new name image r m s h none))

pub answered-element : {E : Type 0} → (m : Machine) (name : Name) (ox oy : ℕ) (bytes : List ℕ) (element : Result Figure Code) (old new : CoreView) (got : Result Reply E)
    → StandsFor old m → running_count old ≡ 0 → ReadsElement bytes ox oy element → IfOk got (FollowsMachine old (call.Element name (given_element element)) (element_payload element) new) → IfOk got (λ r. r ≢ reply.Refused code.Memory) → OnErr got (new ≡ old)
    → OnErr got (IsLogFull old ⊎ (refused_unread old.table (AskElement name 0 0 []) ≡ None)) → Answered m old (AskElement name ox oy bytes) (told_text got) new
unfolding ready-at-once
answered-element {E} m name ox oy bytes element old new got s none read served other failed first =
    let q = AskElement name ox oy bytes in
    let c = call.Element name (given_element element) in
    let P : Result Reply E → Type 0 = λ t. IfOk t (λ r. r ≢ reply.Refused code.Memory) in
    let W : CoreView → Type 0 = λ v. MayWant v q in
    answered-told m q old old new (ready-at-once m q old s none refl) c (element_payload element) got (given_element element, refl) (λ e is. tt) (λ e is. kept_on_err got e old new W is failed first) served failed
    (λ r is h. (element-answers m (after m c (element_payload element)) name ox oy bytes element r read (h.reply m s) (subst P is other) refl, calm-element old new name element r m s h none))

pub answered-run : {E : Type 0} → (m : Machine) (name : Name) (op : Op) (old new : CoreView) (got : Result Reply E)
    → StandsFor old m → running_count old ≡ 0 → IfOk got (FollowsMachine old (call.Run name op) None new) → ((t : ℕ) → IfOk got (λ r. r ≡ reply.Accepted t → IsFresh new t)) → OnErr got (new ≡ old)
    → Answered m old (AskAlone (ask.Run name op)) (told_text got) new
unfolding ready-at-once
answered-run {E} m name op old new got s none served fresh failed =
    let q = AskAlone (ask.Run name op) in
    let c = call.Run name op in
    let P : ℕ → Result Reply E → Type 0 = λ t r. IfOk r (λ a. a ≡ reply.Accepted t → IsFresh new t) in
    answered-told m q old old new (ready-at-once m q old s none refl) c None got refl (λ e is. tt) (λ e is. tt) served failed
    (λ r is h. (called-plain m q c None r (refl, refl) tt (h.reply m s), calm-run old new name op r m s h (λ t. subst (P t) is (fresh t)) none))

pub answered-cancel : {E : Type 0} → (m : Machine) (name : Name) (old new : CoreView) (got : Result Reply E)
    → StandsFor old m → running_count old ≡ 0 → (refusal m.table m.payloads (call.Cancel name) ≡ None → IsOk got) → IfOk got (FollowsMachine old (call.Cancel name) None new) → OnErr got (new ≡ old) → OnErr got (IsLogFull old) → Answered m old (AskAlone (ask.Cancel name)) (told_text got) new
unfolding ready-at-once
answered-cancel {E} m name old new got s none succeeds served failed full =
    let q = AskAlone (ask.Cancel name) in
    let c = call.Cancel name in
    let P : Result Reply E → Type 0 = λ t. IsOk t in
    answered-told m q old old new (ready-at-once m q old s none refl) c None got refl (λ e is free. let ok = subst P is (succeeds free) in absurd cc) (λ e is. kept_on_err got e old new IsLogFull is failed full) served failed
    (λ r is h. (called-plain m q c None r (refl, refl) tt (h.reply m s), calm-cancel old new name r m s h none))

pub answered-release : {E : Type 0} → (m : Machine) (name : Name) (old new : CoreView) (got : Result Reply E)
    → StandsFor old m → running_count old ≡ 0 → IfOk got (FollowsMachine old (call.Release name) None new) → OnErr got (new ≡ old) → OnErr got (IsLogFull old) → Answered m old (AskAlone (ask.Release name)) (told_text got) new
unfolding ready-at-once
answered-release m name old new got s none served failed full =
    let q = AskAlone (ask.Release name) in
    let c = call.Release name in
    answered-told m q old old new (ready-at-once m q old s none refl) c None got refl (λ e is. tt) (λ e is. kept_on_err got e old new IsLogFull is failed full) served failed
    (λ r is h. (called-plain m q c None r (refl, refl) tt (h.reply m s), calm-release old new name r m s h none))

-- STATUS, and WAIT
pub answered-status : {E : Type 0} → (m : Machine) (q : Asked) (name : Name) (old mid new : CoreView) (got : Result Reply E)
    → IsCallOf q (call.Status name) None → IsCallFor q (call.Status name) → ((e : E) → got ≡ Err e → MayLack m q) → (IsLogFull new → MayWant new q) → runs_work q ≡ true → AllWorked m old mid → IfOk got (FollowsMachine mid (call.Status name) None new) → OnErr got (new ≡ mid) → OnErr got (IsLogFull mid) → Answered m old q (told_text got) new
answered-status m q name old mid new got is fits lacks wants busy w served failed full =
    let c = call.Status name in
    let h = ready-by-work m q old mid w busy in
    answered-told m q old mid new h c None got fits lacks (λ e same. wants (kept_on_err got e mid new IsLogFull same failed full)) served failed
    (λ r same k. (called-plain h.state q c None r is tt (k.reply h.state h.stands), calm-status mid new name r h.state h.stands k h.idle))
