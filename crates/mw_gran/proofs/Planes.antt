-- The planes of a plan that grows step by step, for a command with one image.
use Rattle.std.proofs.Common.{◌≡◌, ℕ, Bool, true, false, List, [], ◌∷◌, ◌++◌, length, map, sum, refl, ap, sym, arith, ◌∙◌}
use Rattle.std.specs.Prelude.{slice_index_or}
use Rattle.std.proofs.Math.ListN.{get_or-append}
use Rattle.std.proofs.Math.Seq.{get_or-append_seam}
use Rattle.mw_model.specs.Pictures.{Picture}
use Rattle.mw_plan.proofs.Planes.{length-planes}
use Rattle.mw_model.specs.Plans.{Source, FromInput, FromStep, Planned, Plan, no_picture, plane_of_source, plane_of, planes_from, planes, IsSourceAt, is_sum, with_number, numbers_from}

-- the plane of one more step
abbrev pub plane_behind : List Picture → List Picture → ℕ → ℕ → Planned → Picture
plane_behind inputs made width height s = plane_of s.step (map (plane_of_source inputs made) s.sources) width height

pub planes_from-push : (p : Plan) (s : Planned) (inputs made : List Picture) (width height : ℕ)
    → planes_from (p ++ s ∷ []) inputs made width height ≡ planes_from p inputs made width height ++ plane_behind inputs (planes_from p inputs made width height) width height s ∷ []
planes_from-push [] s inputs made width height = refl
planes_from-push (t ∷ p) s inputs made width height = planes_from-push p s inputs (made ++ plane_behind inputs made width height t ∷ []) width height

-- a source of a plan shows the same when a step is added
pub source_kept : (p : Plan) (s : Planned) (inputs : List Picture) (width height n : ℕ) (r : Source) → IsSourceAt n (length p) r
    → plane_of_source inputs (planes (p ++ s ∷ []) inputs width height) r ≡ plane_of_source inputs (planes p inputs width height) r
source_kept p s inputs width height n (FromInput k) is = refl
source_kept p s inputs width height n (FromStep k) is =
    let made = planes p inputs width height in
    let plane = plane_behind inputs made width height s in
    ap (λ (t : List Picture). slice_index_or t k no_picture) (planes_from-push p s inputs [] width height)
    ∙ get_or-append made (plane ∷ []) no_picture k (omega (arith, length-planes p inputs width height))

-- and the added step shows its plane
pub source_pushed : (p : Plan) (s : Planned) (inputs : List Picture) (width height : ℕ)
    → plane_of_source inputs (planes (p ++ s ∷ []) inputs width height) (FromStep (length p)) ≡ plane_behind inputs (planes p inputs width height) width height s
source_pushed p s inputs width height =
    let made = planes p inputs width height in
    let plane = plane_behind inputs made width height s in
    ap (λ (t : List Picture). slice_index_or t (length p) no_picture) (planes_from-push p s inputs [] width height)
    ∙ ap (λ (k : ℕ). slice_index_or (made ++ plane ∷ []) k no_picture) (sym (length-planes p inputs width height))
    ∙ get_or-append_seam made plane [] no_picture

with-number_append : (b : Bool) (n : ℕ) (ns ms : List ℕ) → with_number b n (ns ++ ms) ≡ with_number b n ns ++ ms
with-number_append true n ns ms = refl
with-number_append false n ns ms = refl

numbers_from-push : (p : Plan) (s : Planned) (made : List Picture) (f : Picture) → length made ≡ length p
    → numbers_from (p ++ s ∷ []) (made ++ f ∷ []) ≡ numbers_from p made ++ with_number (is_sum s.step) (sum f.samples) []
numbers_from-push [] s [] f e = refl
numbers_from-push [] s (g ∷ made) f e = absurd (omega arith)
numbers_from-push (t ∷ p) s [] f e = absurd (omega arith)
numbers_from-push (t ∷ p) s (g ∷ made) f e =
    ap (with_number (is_sum t.step) (sum g.samples)) (numbers_from-push p s made f (omega arith))
    ∙ with-number_append (is_sum t.step) (sum g.samples) (numbers_from p made) (with_number (is_sum s.step) (sum f.samples) [])

pub numbers-push : (p : Plan) (s : Planned) (inputs : List Picture) (width height : ℕ)
    → numbers_from (p ++ s ∷ []) (planes (p ++ s ∷ []) inputs width height)
    ≡ numbers_from p (planes p inputs width height) ++ with_number (is_sum s.step) (sum (plane_behind inputs (planes p inputs width height) width height s).samples) []
numbers-push p s inputs width height =
    let made = planes p inputs width height in
    ap (numbers_from (p ++ s ∷ [])) (planes_from-push p s inputs [] width height)
    ∙ numbers_from-push p s made (plane_behind inputs made width height s) (length-planes p inputs width height)
