-- Calls whose payload holds nothing.
use Rattle.std.proofs.Common.{◌≡◌, ℕ, Bool, true, false, ◌++◌, ◌∷◌, [], Option, Some, None, Result, Ok, Err, OnErr, ◌⊎◌, inl, inr, refl, sym, subst, ◌∙◌}
use Rattle.std.specs.Option.{option_map_or}
use Rattle.mw_model.specs.declared.names.Name.{Name}
use Rattle.mw_model.specs.declared.codes.Code.{Code}
use Rattle.mw_model.specs.declared.codes.Code.TheVariants as code
use Rattle.mw_model.specs.declared.calls.Given.TheVariants as given
use Rattle.mw_model.specs.declared.calls.Call.TheVariants as call
use Rattle.mw_model.specs.declared.calls.Reply.{Reply}
use Rattle.mw_model.specs.declared.calls.LogItem.TheVariants as item
use Rattle.mw_model.specs.Refusals.{first_of, when}
use Rattle.mw_model.specs.Stands.{CoreView}
use Rattle.mw_core_refusals.specs.Faults.{IsFault}
use Rattle.mw_core_ledger.specs.mw_core_laws.Events.{FollowsMachine}
use Rattle.mw_core_ledger.proofs.mw_core_laws.CallLemmas.{serves-refused}

pub serves-fault-load : (c new : CoreView) (n : Name) (x : Code) (r : Reply) → IsFault c.table n x r → new ≡ record c { log = c.log ++ item.Call (call.Load n (given.Bad x)) r ∷ [] }
    → FollowsMachine c (call.Load n (given.Bad x)) None new r
serves-fault-load c new n x r told is =
    let q = call.Load n (given.Bad x) in
    let P : Reply → Type 0 = λ y. new ≡ record c { log = c.log ++ item.Call q y ∷ [] } → FollowsMachine c q None new y in
    subst P (sym told.reply) (λ e. serves-refused c new q None told.why refl told.case e) is

pub serves-fault-element : (c new : CoreView) (n : Name) (x : Code) (r : Reply) → IsFault c.table n x r → new ≡ record c { log = c.log ++ item.Call (call.Element n (given.Bad x)) r ∷ [] }
    → FollowsMachine c (call.Element n (given.Bad x)) None new r
serves-fault-element c new n x r told is =
    let q = call.Element n (given.Bad x) in
    let P : Reply → Type 0 = λ y. new ≡ record c { log = c.log ++ item.Call q y ∷ [] } → FollowsMachine c q None new y in
    subst P (sym told.reply) (λ e. serves-refused c new q None told.why refl told.case e) is

-- where the payload's want of memory is told, the name is free and there is room
pub none-before-memory : (o : Option ℕ) (b : Bool) (x : Code) → Some code.Memory ≡ first_of (option_map_or (λ t. Some code.NameTaken) o None ∷ when b code.Full ∷ Some x ∷ [])
    → first_of (option_map_or (λ t. Some code.NameTaken) o None ∷ when b code.Full ∷ []) ≡ None
none-before-memory (Some t) b x e = cc
none-before-memory None true x e = cc
none-before-memory None false x e = refl

-- so they are where nothing refuses a call
pub none-before-none : (a b : Option Code) → None ≡ first_of (a ∷ b ∷ None ∷ []) → first_of (a ∷ b ∷ []) ≡ None
none-before-none (Some c) b e = sym e
none-before-none None (Some c) e = sym e
none-before-none None None e = refl

-- where an item is not long, its want of memory tells that the log is full
pub short-full : {X E A B : Type 0} (r : Result X E) (long : Bool) → long ≡ false → OnErr r ((long ≡ true) ⊎ A) → (A → B) → OnErr r B
short-full (Ok x) long short h f = tt
short-full (Err e) long short (inl is) f = let no : false ≡ true = sym short ∙ is in cc
short-full (Err e) long short (inr full) f = f full
