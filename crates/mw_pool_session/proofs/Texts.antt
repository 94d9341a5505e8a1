-- One request at a board: its receipt, and what is written for it.
use Rattle.std.proofs.Common.{◌≡◌, ◌↔◌, ℕ, List, Result, Ok, Err, IfOk, OnErr, refl, subst, inl, inr}
use Rattle.std.specs.Prelude.{IsSome}
use Rattle.mw_model.specs.declared.names.Name.{Name}
use Rattle.mw_model.specs.declared.calls.Given.{Given}
use Rattle.mw_model.specs.declared.calls.Call.{Call}
use Rattle.mw_model.specs.declared.calls.Call.TheVariants as call
use Rattle.mw_model.specs.declared.calls.Reply.{Reply}
use Rattle.mw_model.specs.declared.calls.Reply.TheVariants as reply
use Rattle.mw_model.specs.declared.receipts.Receipt.{Receipt}
use Rattle.mw_model.specs.declared.requests.Ask.{Ask}
use Rattle.mw_model.specs.declared.requests.Ask.TheVariants as ask
use Rattle.mw_model.specs.Lines.{AskLoad, AskElement, AskAlone}
use Rattle.mw_model.specs.Replies.{NoValue, reply_text}
use Rattle.mw_model.specs.Receipts.{MayHand, IsTextOf}
use Rattle.mw_model.specs.Scripts.{Calls, handed_value}
use Rattle.mw_session_fetch.specs.mw_store.declared.fetched.FetchedValue.{FetchedValue}
use Rattle.mw_session_fetch.specs.mw_store.declared.fetched.FetchedValue.TheVariants as shown
use Rattle.mw_session_fetch.specs.mw_store.Fetches.{ShowsSome, shown_value}
use Rattle.mw_session_fetch.specs.Texts.{SaysFetched}
use Rattle.mw_pool.specs.mw_pool_passes.Passes.{AddsReceipt}
use Rattle.mw_pool.specs.Payloads.{TellsImage, TellsElement}
use Rattle.mw_session_fetch.specs.mw_wire.Writes.{told_text}
use Rattle.mw_pool_session.specs.Serving.{RequestServed, refused, received}

-- no value goes with a reply that shows none
no-value : (a : Reply) → (ShowsSome a → ⊥) → MayHand a NoValue
no-value (reply.Accepted t) none = refl
no-value (reply.Refused c) none = refl
no-value (reply.Pending t) none = refl
no-value (reply.Done t s) none = refl
no-value (reply.Cancelled t) none = refl
no-value (reply.OutOfMemory t) none = refl
no-value (reply.BadInput t i) none = refl
no-value (reply.Released t) none = refl
no-value (reply.Shown t) none = absurd (none (t, refl))

-- the text of a reply to a call that hands out no value
plain-text : (a : Reply) → (ShowsSome a → ⊥) → IsTextOf a (reply_text a NoValue)
plain-text a none = inl (NoValue, no-value a none, refl)

pub served-load : {E : Type 0} (name : Name) (bytes : List ℕ) (old new : List Receipt) (r : Result Reply E) → IfOk r (λ a. (g : Given) × TellsImage bytes g × AddsReceipt old new (call.Load name g) a) → IfOk r (λ a. ShowsSome a → ⊥) → OnErr r (new ≡ old)
    → RequestServed old (AskLoad name bytes) (told_text r) new
served-load name bytes old new (Ok a) (g, tells, adds) none stays =
    received (call.Load name g) a (g, tells, refl) adds (plain-text a none)
served-load name bytes old new (Err e) made none stays = refused stays refl

pub served-element : {E : Type 0} (name : Name) (ox oy : ℕ) (bytes seen : List ℕ) (old new : List Receipt) (r : Result Reply E) → seen ≡ bytes → IfOk r (λ a. (g : Given) × TellsElement seen ox oy g × AddsReceipt old new (call.Element name g) a) → IfOk r (λ a. ShowsSome a → ⊥) → OnErr r (new ≡ old)
    → RequestServed old (AskElement name ox oy bytes) (told_text r) new
served-element name ox oy bytes seen old new (Ok a) same (g, tells, adds) none stays =
    let P : List ℕ → Type 0 = λ l. TellsElement l ox oy g in received (call.Element name g) a (g, subst P same tells, refl) adds (plain-text a none)
served-element name ox oy bytes seen old new (Err e) same made none stays = refused stays refl

pub served-alone : {E : Type 0} (q : Ask) (c : Call) (old new : List Receipt) (r : Result Reply E) → Calls q c → IfOk r (λ a. AddsReceipt old new c a) → IfOk r (λ a. ShowsSome a → ⊥) → OnErr r (new ≡ old) → RequestServed old (AskAlone q) (told_text r) new
served-alone q c old new (Ok a) calls adds none stays = received c a calls adds (plain-text a none)
served-alone q c old new (Err e) calls adds none stays = refused stays refl

-- what a FETCH hands out goes with its reply
may-hand : (a : Reply) (v : FetchedValue) → IsSome (shown_value v) ↔ ShowsSome a → MayHand a (handed_value (shown_value v))
may-hand a shown.Nothing h = no-value a (λ w. let e = h.1 w in cc)
may-hand a (shown.Image f) h =
    let w = h.0 refl in
    rw w.1 (inl (f, refl))
may-hand a (shown.Curve volumes) h =
    let w = h.0 refl in
    rw w.1 (inr (volumes, refl))

pub served-fetched : (name : Name) (old new : List Receipt) (a : Reply) (v : FetchedValue) (text : List ℕ) → AddsReceipt old new (call.Fetch name) a → IsSome (shown_value v) ↔ ShowsSome a → SaysFetched a v text → RequestServed old (AskAlone (ask.Fetch name)) text new
served-fetched name old new a v text adds h (inl e) = received (call.Fetch name) a refl adds (inl (handed_value (shown_value v), may-hand a v h, e))
served-fetched name old new a v text adds h (inr e) = received (call.Fetch name) a refl adds (inr e)
