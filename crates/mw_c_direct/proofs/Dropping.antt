-- Planes that no step reads any more are dropped.
use Rattle.std.proofs.Common.{◌≡◌, ℕ, zero, suc, true, false, Bool, List, [], ◌∷◌, length, Option, Some, None, refl, sym, subst, arith, ◌∙◌, eq-eqb}
use Rattle.std.specs.Prelude.{slice_index_or, slice_set, IsSome, IfSome, ◌||◌, nat_eq}
use Rattle.std.specs.List.{AllByRecursion, list_any}
use Rattle.mw_model.specs.Pictures.{Picture}
use Rattle.mw_model.specs.Plans.{Plan, Source, FromInput, FromStep}
use Rattle.mw_model.specs.Tasks.{is_step, nothing_planned}
use Rattle.mw_c_direct.specs.Kept.{IsThereIfMade, IsKeptWanted, IsWanted, KeepsRead, kept_at}

itself : (o : Option Picture) → IfSome o (λ f. o ≡ Some f)
itself None = tt
itself (Some f) = refl

through : (new middle old : Option Picture) → IfSome new (λ f. middle ≡ Some f) → IfSome middle (λ f. old ≡ Some f) → IfSome new (λ f. old ≡ Some f)
through None middle old p q = tt
through (Some f) None old p q = absurd cc
through (Some f) (Some g) old p q = q ∙ p

pub keeps_on : (plan : Plan) (made : List Bool) (old middle new : List (Option Picture)) → KeepsRead plan made old middle → KeepsRead plan made middle new → KeepsRead plan made old new
keeps_on plan made old middle new p q = record {
  count = q.count ∙ p.count;
  same = λ j. through (kept_at new j) (kept_at middle j) (kept_at old j) (q.same j) (p.same j);
  read = λ i lt unmade there. q.read i lt unmade (p.read i lt unmade there);
}

-- ---- what was dropped stays so

some_still : (W : Type 0) (new old : Option Picture) → IfSome new (λ f. old ≡ Some f) → IfSome old (λ f. W) → IfSome new (λ f. W)
some_still W None old same is = tt
some_still W (Some f) None same is = absurd cc
some_still W (Some f) (Some g) same is = is

pub wanted_still : (plan : Plan) (made : List Bool) (old new : List (Option Picture)) (s : Source) → KeepsRead plan made old new → IsKeptWanted plan made old s → IsKeptWanted plan made new s
wanted_still plan made old new (FromInput i) keeps is = tt
wanted_still plan made old new (FromStep i) keeps is = some_still (IsWanted plan made i) (kept_at new i) (kept_at old i) (keeps.same i) is

pub all_still : (plan : Plan) (made : List Bool) (old new : List (Option Picture)) (ss : List Source) → KeepsRead plan made old new → AllByRecursion (IsKeptWanted plan made old) ss → AllByRecursion (IsKeptWanted plan made new) ss
all_still plan made old new [] keeps is = tt
all_still plan made old new (s ∷ ss) keeps is = (wanted_still plan made old new s keeps is.0, all_still plan made old new ss keeps is.1)

-- ---- a plane that no step reads from here on

set_count : (planes : List (Option Picture)) (k : ℕ) → length (slice_set planes k None) ≡ length planes
set_count [] k = refl
set_count (y ∷ planes) zero = refl
set_count (y ∷ planes) (suc k) = omega (arith, set_count planes k)

set_keeps : (planes : List (Option Picture)) (k j : ℕ) → IfSome (kept_at (slice_set planes k None) j) (λ f. kept_at planes j ≡ Some f)
set_keeps [] k j = tt
set_keeps (y ∷ planes) zero zero = tt
set_keeps (y ∷ planes) zero (suc j) = itself (kept_at planes j)
set_keeps (y ∷ planes) (suc k) zero = itself y
set_keeps (y ∷ planes) (suc k) (suc j) = set_keeps planes k j

set_other : (planes : List (Option Picture)) (k j : ℕ) → (j ≡ k → ⊥) → kept_at (slice_set planes k None) j ≡ kept_at planes j
set_other [] k j other = refl
set_other (y ∷ planes) zero zero other = absurd (other refl)
set_other (y ∷ planes) zero (suc j) other = refl
set_other (y ∷ planes) (suc k) zero other = refl
set_other (y ∷ planes) (suc k) (suc j) other = set_other planes k j (λ e. other (omega arith))

set_gone : (W : Type 0) (planes : List (Option Picture)) (k : ℕ) → IfSome (kept_at (slice_set planes k None) k) (λ f. W)
set_gone W [] k = tt
set_gone W (y ∷ planes) zero = tt
set_gone W (y ∷ planes) (suc k) = set_gone W planes k

later_true : (b t : Bool) → t ≡ true → (b || t) ≡ true
later_true true t e = refl
later_true false t e = e

first_true : (b t : Bool) → b ≡ true → (b || t) ≡ true
first_true b t e = rw e refl

still_there : (made : List Bool) (k : ℕ) (planes : List (Option Picture)) (ss : List Source) → (list_any (is_step k) ss ≡ true → ⊥) → AllByRecursion (IsThereIfMade made planes) ss → AllByRecursion (IsThereIfMade made (slice_set planes k None)) ss
still_there made k planes [] unread there = tt
still_there made k planes (FromInput i ∷ ss) unread there = (tt, still_there made k planes ss (λ e. unread (later_true false (list_any (is_step k) ss) e)) there.1)
still_there made k planes (FromStep i ∷ ss) unread there = (
  λ is. subst (λ (o : Option Picture). IsSome o) (sym (set_other planes k i (λ e. unread (first_true (nat_eq i k) (list_any (is_step k) ss) (eq-eqb i k e))))) (there.0 is),
  still_there made k planes ss (λ e. unread (later_true (nat_eq i k) (list_any (is_step k) ss) e)) there.1,
)

pub drops_unwanted : (plan : Plan) (made : List Bool) (k : ℕ) (planes : List (Option Picture)) → (IsWanted plan made k → ⊥) → KeepsRead plan made planes (slice_set planes k None)
drops_unwanted plan made k planes spent = record {
  count = set_count planes k;
  same = set_keeps planes k;
  read = λ i lt unmade there. still_there made k planes (slice_index_or plan i nothing_planned).sources (λ reads. spent (record { reader = i; within = lt; unmade = unmade; reads = reads })) there;
}

pub dropped : (plan : Plan) (made : List Bool) (k : ℕ) (planes : List (Option Picture)) → IfSome (kept_at (slice_set planes k None) k) (λ f. IsWanted plan made k)
dropped plan made k planes = set_gone (IsWanted plan made k) planes k
