-- Calls of reconstruction with which nothing is wrong.
use Rattle.std.proofs.Common.{◌≡◌, ℕ, Bool, true, false, not, ◌&&◌, [], ◌∷◌, Option, Some, None, refl, ap, sym, ◌∙◌}
use Rattle.std.specs.Prelude.{◌==◌}
use Rattle.std.proofs.lemmas.Bool.{and_parts, eqb-true}
use Rattle.mw_model.specs.declared.codes.Code.{Code}
use Rattle.mw_model.specs.Refusals.{first_of}
use Rattle.mw_c_arrays.proofs.FirstCases.{first_of-none}
use Rattle.mw_c_calls.specs.Calls.{room_case}
use Rattle.mw_c_geodesic.specs.declared.refusals.Refusal.{Refusal}
use Rattle.mw_c_geodesic.specs.declared.refusals.Refusal.TheVariants as refusal
use Rattle.mw_c_geodesic.specs.CallFaults.{frame_case, levels_case, or_else, rebuild_fault, refuse_when}
use Rattle.mw_c_geodesic.specs.Told.{of_code}
use Rattle.mw_c_geodesic.proofs.Passed.{room_is}

both_none : (a b : Option Refusal) → or_else a b ≡ None → (a ≡ None) × (b ≡ None)
both_none None b none = (refl, none)
both_none (Some c) b none = absurd cc

code_none : (o : Option Code) → of_code o ≡ None → o ≡ None
code_none None none = refl
code_none (Some c) none = absurd cc

case_none : (b : Bool) (c : Refusal) → refuse_when (not b) c ≡ None → b ≡ true
case_none true c none = refl
case_none false c none = absurd cc

pub record RebuildPassed (first second : Option Code) (w h w' h' m m' places count : ℕ) (third : Option Code) : Type 0 where
  pub marker : first ≡ None
  pub mask : second ≡ None
  pub width : w ≡ w'
  pub height : h ≡ h'
  pub maxval : m ≡ m'
  pub room : places ≡ count
  pub element : third ≡ None

pub rebuild_passed : (method marker mask : Option Code) (w h w' h' m m' room count : ℕ) (element : Option Code) → rebuild_fault method marker mask (frame_case w h w' h') (levels_case m m') (room_case room count) element ≡ None
    → RebuildPassed marker mask w h w' h' m m' room count element
rebuild_passed method marker mask w h w' h' m m' room count element none =
    let first = both_none (of_code (first_of (method ∷ marker ∷ mask ∷ []))) (or_else (frame_case w h w' h') (or_else (levels_case m m') (of_code (first_of (room_case room count ∷ element ∷ []))))) none in
    let second = both_none (frame_case w h w' h') (or_else (levels_case m m') (of_code (first_of (room_case room count ∷ element ∷ [])))) first.1 in
    let third = both_none (levels_case m m') (of_code (first_of (room_case room count ∷ element ∷ []))) second.1 in
    let images = first_of-none method (marker ∷ mask ∷ []) (code_none (first_of (method ∷ marker ∷ mask ∷ [])) first.0) in
    let pair = first_of-none marker (mask ∷ []) images.1 in
    let last = first_of-none mask [] pair.1 in
    let rest = first_of-none (room_case room count) (element ∷ []) (code_none (first_of (room_case room count ∷ element ∷ [])) third.1) in
    let end = first_of-none element [] rest.1 in
    let sides = and_parts (w == w') (h == h') (case_none (w == w' && h == h') refusal.Frame second.0) in
    record {
      marker = pair.0;
      mask = last.0;
      width = eqb-true w w' sides.0;
      height = eqb-true h h' sides.1;
      maxval = eqb-true m m' (case_none (m == m') refusal.Levels third.0);
      room = room_is room count rest.0;
      element = end.0;
    }

-- the same by the cases one by one
pub rebuild_passed_by : (method marker mask images rest element room : Option Code) (frame levels result : Option Refusal) (w h w' h' m m' places count : ℕ) → result ≡ None → result ≡ or_else (of_code images) (or_else frame (or_else levels (of_code rest)))
    → images ≡ first_of (method ∷ marker ∷ mask ∷ []) → frame ≡ frame_case w h w' h' → levels ≡ levels_case m m' → rest ≡ first_of (room ∷ element ∷ []) → room ≡ room_case places count → RebuildPassed marker mask w h w' h' m m' places count element
rebuild_passed_by method marker mask images rest element room frame levels result w h w' h' m m' places count none is images_is frame_is levels_is rest_is room_is =
    rebuild_passed method marker mask w h w' h' m m' places count element
    (ap (λ (o : Option Code). or_else (of_code (first_of (method ∷ marker ∷ mask ∷ []))) (or_else (frame_case w h w' h') (or_else (levels_case m m') (of_code (first_of (o ∷ element ∷ [])))))) (sym room_is)
    ∙ ap (λ (o : Option Code). or_else (of_code (first_of (method ∷ marker ∷ mask ∷ []))) (or_else (frame_case w h w' h') (or_else (levels_case m m') (of_code o)))) (sym rest_is)
    ∙ ap (λ (o : Option Refusal). or_else (of_code (first_of (method ∷ marker ∷ mask ∷ []))) (or_else (frame_case w h w' h') (or_else o (of_code rest)))) (sym levels_is)
    ∙ ap (λ (o : Option Refusal). or_else (of_code (first_of (method ∷ marker ∷ mask ∷ []))) (or_else o (or_else levels (of_code rest)))) (sym frame_is)
    ∙ ap (λ (o : Option Code). or_else (of_code o) (or_else frame (or_else levels (of_code rest)))) (sym images_is)
    ∙ sym is ∙ none)
