-- Names, lists with one element more, and what an accepted call has found.
use Rattle.std.proofs.Common.{◌≡◌, ℕ, ◌<◌, ◌≤◌, Bool, true, false, not, ltb, inl, inr, List, [], ◌∷◌, ◌++◌, length, map, Option, Some, None, refl, sym, ap, ◌∙◌, subst, arith, length-append}
use Rattle.std.specs.Prelude.{unwrap_or}
use Rattle.std.specs.List.{AllByRecursion, position}
use Rattle.std.specs.Option.{option_map_or}
use Rattle.std.proofs.lemmas.List.Quantifiers.{position-Some}
use Rattle.std.proofs.lemmas.Cmp.{nat_list_eq_equiv}
use Rattle.std.proofs.lemmas.Bool.{ltb-true, lt-ltb, le-ltb, cases_lt, both_ways}
use Rattle.mw_model.proofs.mw_facts.Elements.{get_or-push_below, get_or-push_last}
use Rattle.mw_model.proofs.mw_facts.Finds.{position-none, position-is}
use Rattle.mw_model.proofs.mw_facts.Numbers.{below_or_last}
use Rattle.mw_model.specs.declared.names.Name.{Name}
use Rattle.mw_model.specs.declared.shapes.Shape.{Shape}
use Rattle.mw_model.specs.declared.codes.Code.{Code}
use Rattle.mw_model.specs.declared.codes.Code.TheVariants as code
use Rattle.mw_model.specs.declared.operations.Op.{Op}
use Rattle.mw_model.specs.declared.calls.Call.{Call}
use Rattle.mw_model.specs.declared.calls.Call.TheVariants as call
use Rattle.mw_model.specs.declared.calls.Outcome.{Outcome}
use Rattle.mw_model.specs.declared.calls.Outcome.TheVariants as outcome
use Rattle.mw_model.specs.Names.{name_of, same_name}
use Rattle.mw_model.specs.Values.{Value, option_list, tickets}
use Rattle.mw_model.specs.Refusals.{Table, Wanted, AnImage, AnElement, ticket, ticket_of, outcome_at, shape_at, is_dead, is_released, is_image, is_element, first_of, when, no_room, inputs_wanted, op_cases, refusal, input_case, wanted_case, cancel_case, release_case}
use Rattle.mw_model.specs.Machine.{ticket_wanted, inputs_from}
use Rattle.mw_model_laws.specs.MachineLaws.{name_at, new_name, old_name}

-- ---- names

pub same_name_reflexive : (n : Name) → same_name n n ≡ true
same_name_reflexive n = nat_list_eq_equiv.refl n.bytes

-- a name that was found stands at its ticket
pub ticket_within : (w : Table) (n : Name) (t : ℕ) → ticket_of w.names n ≡ Some t → t < length w.names
unfolding ticket_of
ticket_within w n t h = (position-Some (same_name n) w.names t n h).0

pub ticket_is : (w : Table) (n : Name) (t : ℕ) → ticket_of w.names n ≡ Some t → ticket w n ≡ t
ticket_is w n t h = ap (λ o. unwrap_or o 0) h

-- a name that is not found is added at the end, and each name leads on to its entry
pub names_push : (names : List Name) (n : Name) → ((t : ℕ) → t < length names → ticket_of names (name_at names t) ≡ Some t) → ticket_of names n ≡ None
    → (t : ℕ) → t < length (names ++ n ∷ []) → ticket_of (names ++ n ∷ []) (name_at (names ++ n ∷ []) t) ≡ Some t
unfolding ticket_of
names_push names n lead fresh t within =
    let all = names ++ n ∷ [] in
    let P : Name → Type 0 = λ x. position (same_name x) all ≡ Some t in
    elim (below_or_last (length names) t (omega (arith, length-append names (n ∷ [])))) [
      | inl h ↦
          let x = name_at names t in
          let was = position-Some (same_name x) names t n (lead t h) in
          subst P (sym (get_or-push_below names n _ t h)) (position-is (same_name x) all t n within
          (λ k l. ap (same_name x) (get_or-push_below names n n k (omega arith)) ∙ was.2 k l)
          (ap (same_name x) (get_or-push_below names n n t h) ∙ was.1))
      | inr e ↦
          subst P (sym (get_or-push_last names n _ t e)) (position-is (same_name n) all t n within
          (λ k l. ap (same_name n) (get_or-push_below names n n k (omega arith)) ∙ position-none (same_name n) names fresh k n (omega arith))
          (ap (same_name n) (get_or-push_last names n n t e) ∙ same_name_reflexive n))
    ]

-- ---- cases that did not hold

pub first_none : (a : Option Code) (cases : List (Option Code)) → first_of (a ∷ cases) ≡ None → (a ≡ None) × (first_of cases ≡ None)
first_none None cases h = (refl, h)
first_none (Some c) cases h = cc

pub not_taken : (o : Option ℕ) → option_map_or (λ t. Some code.NameTaken) o None ≡ None → o ≡ None
not_taken None h = refl
not_taken (Some t) h = cc

-- a case that did not hold
pub when_not : (b : Bool) (c : Code) → when (not b) c ≡ None → b ≡ true
when_not true c h = refl
when_not false c h = cc

pub when_so : (b : Bool) (c : Code) → when b c ≡ None → b ≡ false
when_so true c h = cc
when_so false c h = refl

pub has_room : (w : Table) → no_room w ≡ None → length w.names < 65536
has_room w h = ltb-true (length w.names) 65536 (when_not (ltb (length w.names) 65536) code.Full h)

pub is_known : (o : Option ℕ) (holds : ℕ → Option Code) → option_map_or holds o (Some code.Unknown) ≡ None → (t : ℕ) × (o ≡ Some t) × (holds t ≡ None)
is_known None holds h = absurd cc
is_known (Some t) holds h = (t, refl, h)

-- what was found of an input
pub record IsInput (w : Table) (fits : Shape → Bool) (n : Name) (t : ℕ) : Type 0 where
  pub found : ticket_of w.names n ≡ Some t
  pub within : t < length w.names
  pub kind : fits (shape_at w.submissions t) ≡ true
  pub alive : is_dead (outcome_at w.outcomes t) ≡ false

pub input_found : (w : Table) (fits : Shape → Bool) (n : Name) → input_case w fits n ≡ None → (t : ℕ) × IsInput w fits n t
input_found w fits n h =
    let known = is_known (ticket_of w.names n) _ h in
    let t = known.0 in
    let kinds = first_none (when (not (fits (shape_at w.submissions t))) code.Kind) _ known.2 in
    let dead = first_none (when (is_dead (outcome_at w.outcomes t)) code.Dead) _ kinds.1 in (
      t,
      record {
        found = known.1;
        within = ticket_within w n t known.1;
        kind = when_not (fits (shape_at w.submissions t)) code.Kind kinds.0;
        alive = when_so (is_dead (outcome_at w.outcomes t)) code.Dead dead.0;
      },
    )

-- each input of a command, where none of them was refused
options_all : (P : ℕ → Type 0) (a b c : Option ℕ) → ((t : ℕ) → a ≡ Some t → P t) → ((t : ℕ) → b ≡ Some t → P t) → ((t : ℕ) → c ≡ Some t → P t)
    → AllByRecursion P (option_list a ++ option_list b ++ option_list c)
options_all P None None None f g h = tt
options_all P None None (Some t) f g h = (h t refl, tt)
options_all P None (Some s) None f g h = (g s refl, tt)
options_all P None (Some s) (Some t) f g h = (g s refl, (h t refl, tt))
options_all P (Some r) None None f g h = (f r refl, tt)
options_all P (Some r) None (Some t) f g h = (f r refl, (h t refl, tt))
options_all P (Some r) (Some s) None f g h = (f r refl, (g s refl, tt))
options_all P (Some r) (Some s) (Some t) f g h = (f r refl, (g s refl, (h t refl, tt)))

none_some : (P : ℕ → Type 0) (t : ℕ) → None ≡ Some t → P t
none_some P t h = absurd cc

pub inputs_all : (w : Table) (P : ℕ → Type 0) (ws : List Wanted) → ((a : Wanted) (t : ℕ) → wanted_case w a ≡ None → ticket_wanted w a ≡ Some t → P t)
    → first_of (map (wanted_case w) ws) ≡ None → AllByRecursion P (tickets (inputs_from w ws))
inputs_all w P [] f h = tt
inputs_all w P (a ∷ []) f h = let x = first_none (wanted_case w a) _ h in options_all P (ticket_wanted w a) None None (λ t e. f a t x.0 e) (none_some P) (none_some P)
inputs_all w P (a ∷ b ∷ []) f h =
    let x = first_none (wanted_case w a) _ h in
    let y = first_none (wanted_case w b) _ x.1 in
    options_all P (ticket_wanted w a) (ticket_wanted w b) None (λ t e. f a t x.0 e) (λ t e. f b t y.0 e) (none_some P)
inputs_all w P (a ∷ b ∷ c ∷ more) f h =
    let x = first_none (wanted_case w a) _ h in
    let y = first_none (wanted_case w b) _ x.1 in
    let z = first_none (wanted_case w c) _ y.1 in
    options_all P (ticket_wanted w a) (ticket_wanted w b) (ticket_wanted w c) (λ t e. f a t x.0 e) (λ t e. f b t y.0 e) (λ t e. f c t z.0 e)

pub wanted_within : (w : Table) (a : Wanted) (t : ℕ) → wanted_case w a ≡ None → ticket_wanted w a ≡ Some t → t < length w.names
wanted_within w (AnImage n) t h e = ticket_within w n t e
wanted_within w (AnElement n) t h e = ticket_within w n t e

input_alive : (w : Table) (fits : Shape → Bool) (n : Name) (t : ℕ) → input_case w fits n ≡ None → ticket_of w.names n ≡ Some t → is_dead (outcome_at w.outcomes t) ≡ false
input_alive w fits n t h e =
    let found = input_found w fits n h in
    let same : found.0 ≡ t = cc (found.1.found, e) in
    ap (λ i. is_dead (outcome_at w.outcomes i)) (sym same) ∙ found.1.alive

pub wanted_alive : (w : Table) (a : Wanted) (t : ℕ) → wanted_case w a ≡ None → ticket_wanted w a ≡ Some t → is_dead (outcome_at w.outcomes t) ≡ false
wanted_alive w (AnImage n) t h e = input_alive w is_image n t h e
wanted_alive w (AnElement n) t h e = input_alive w is_element n t h e

pub may_cancel : (o : Outcome) → cancel_case o ≡ None → o ≡ outcome.Pending
may_cancel outcome.Pending h = refl
may_cancel outcome.Done h = cc
may_cancel outcome.Cancelled h = cc
may_cancel outcome.Memory h = cc
may_cancel (outcome.Input s) h = cc
may_cancel outcome.Released h = cc

pub may_release : (o : Outcome) → release_case o ≡ None → o ≡ outcome.Done
may_release outcome.Pending h = cc
may_release outcome.Done h = refl
may_release outcome.Cancelled h = cc
may_release outcome.Memory h = cc
may_release (outcome.Input s) h = cc
may_release outcome.Released h = cc

-- two entries with one name are one
pub names_differ : (names : List Name) → ((t : ℕ) → t < length names → ticket_of names (name_at names t) ≡ Some t) → (t u : ℕ) → t < length names → u < length names
    → same_name (name_at names t) (name_at names u) ≡ true → t ≡ u
unfolding ticket_of
names_differ names lead t u p q e =
    let a = name_at names t in
    let b = name_at names u in
    let first = position-Some (same_name a) names t (name_of []) (lead t p) in
    let second = position-Some (same_name b) names u (name_of []) (lead u q) in
    let back : same_name b a ≡ true = nat_list_eq_equiv.symm b.bytes a.bytes ∙ e in
    elim (cases_lt t u) [
      | inl l ↦ absurd (both_ways (same_name b a) (second.2 t l) back)
      | inr g ↦ elim (cases_lt u t) [ inl l ↦ absurd (both_ways (same_name a b) (first.2 u l) e) | inr h ↦ omega arith ]
    ]

-- ---- why a call is refused

-- cases before the first that holds
pub first_holds : (before after : List (Option Code)) (d : Code) → AllByRecursion (λ x. x ≡ None) before → first_of (before ++ Some d ∷ after) ≡ Some d
first_holds [] after d h = refl
first_holds (None ∷ before) after d h = first_holds before after d h.1
first_holds (Some x ∷ before) after d h = let e = h.0 in cc

pub no_case_holds : (cases : List (Option Code)) → AllByRecursion (λ x. x ≡ None) cases → first_of cases ≡ None
no_case_holds [] h = refl
no_case_holds (None ∷ cases) h = no_case_holds cases h.1
no_case_holds (Some x ∷ cases) h = let e = h.0 in cc

-- a name that is taken
pub taken_first : (w : Table) (vs : List (Option Value)) (c : Call) (n : Name) (t : ℕ) → new_name c ≡ Some n → ticket_of w.names n ≡ Some t → refusal w vs c ≡ Some code.NameTaken
taken_first w vs (call.Load x g) n t e h = let same : x ≡ n = cc in rw (same, h) refl
taken_first w vs (call.Element x g) n t e h = let same : x ≡ n = cc in rw (same, h) refl
taken_first w vs (call.Run x o) n t e h = let same : x ≡ n = cc in rw (same, h) refl
taken_first w vs (call.Cancel x) n t e h = cc
taken_first w vs (call.Status x) n t e h = cc
taken_first w vs (call.Fetch x) n t e h = cc
taken_first w vs (call.Release x) n t e h = cc

full_then : (o : Option ℕ) (size : ℕ) (cases : List (Option Code)) → o ≡ None → 65536 ≤ size
    → first_of (option_map_or (λ t. Some code.NameTaken) o None ∷ when (not (ltb size 65536)) code.Full ∷ cases) ≡ Some code.Full
full_then o size cases h le = rw (h, le-ltb size 65536 le) refl

-- no room for one more
pub full_next : (w : Table) (vs : List (Option Value)) (c : Call) (n : Name) → new_name c ≡ Some n → ticket_of w.names n ≡ None → 65536 ≤ length w.names → refusal w vs c ≡ Some code.Full
full_next w vs (call.Load x g) n e h le = let same : x ≡ n = cc in full_then (ticket_of w.names x) (length w.names) _ (ap (ticket_of w.names) same ∙ h) le
full_next w vs (call.Element x g) n e h le = let same : x ≡ n = cc in full_then (ticket_of w.names x) (length w.names) _ (ap (ticket_of w.names) same ∙ h) le
full_next w vs (call.Run x o) n e h le = let same : x ≡ n = cc in full_then (ticket_of w.names x) (length w.names) _ (ap (ticket_of w.names) same ∙ h) le
full_next w vs (call.Cancel x) n e h le = cc
full_next w vs (call.Status x) n e h le = cc
full_next w vs (call.Fetch x) n e h le = cc
full_next w vs (call.Release x) n e h le = cc

-- a name that no entry has
pub unknown_first : (w : Table) (vs : List (Option Value)) (c : Call) (n : Name) → old_name c ≡ Some n → ticket_of w.names n ≡ None → refusal w vs c ≡ Some code.Unknown
unknown_first w vs (call.Load x g) n e h = cc
unknown_first w vs (call.Element x g) n e h = cc
unknown_first w vs (call.Run x o) n e h = cc
unknown_first w vs (call.Cancel x) n e h = let same : x ≡ n = cc in rw (same, h) refl
unknown_first w vs (call.Status x) n e h = let same : x ≡ n = cc in rw (same, h) refl
unknown_first w vs (call.Fetch x) n e h = let same : x ≡ n = cc in rw (same, h) refl
unknown_first w vs (call.Release x) n e h = let same : x ≡ n = cc in rw (same, h) refl

-- a command with room and a new name
pub run_then : (w : Table) (vs : List (Option Value)) (n : Name) (o : Op) → ticket_of w.names n ≡ None → length w.names < 65536
    → refusal w vs (call.Run n o) ≡ first_of (first_of (map (wanted_case w) (inputs_wanted o)) ∷ first_of (op_cases w vs o) ∷ [])
run_then w vs n o h room =
    by_cases (ticket_of w.names n) (ltb (length w.names) 65536) (first_of (map (wanted_case w) (inputs_wanted o)) ∷ first_of (op_cases w vs o) ∷ []) h (lt-ltb (length w.names) 65536 room)
  where
    by_cases : (x : Option ℕ) (b : Bool) (cases : List (Option Code)) → x ≡ None → b ≡ true → first_of (option_map_or (λ t. Some code.NameTaken) x None ∷ when (not b) code.Full ∷ cases) ≡ first_of cases
    by_cases x b cases p q = rw (p, q) refl

-- an input, by how its entry stands
pub input_told : (w : Table) (fits : Shape → Bool) (n : Name) (t : ℕ) → ticket_of w.names n ≡ Some t
    → input_case w fits n ≡ first_of (when (not (fits (shape_at w.submissions t))) code.Kind ∷ when (is_dead (outcome_at w.outcomes t)) code.Dead ∷ when (is_released (outcome_at w.outcomes t)) code.Released ∷ [])
input_told w fits n t h =
    ap (λ o. option_map_or (λ u. first_of (when (not (fits (shape_at w.submissions u))) code.Kind ∷ when (is_dead (outcome_at w.outcomes u)) code.Dead ∷ when (is_released (outcome_at w.outcomes u)) code.Released ∷ [])) o (Some code.Unknown)) h
