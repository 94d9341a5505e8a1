-- The planes of a plan are those of its steps.
use Rattle.std.proofs.Common.{◌≡◌, ℕ, zero, suc, ◌+◌, ◌<◌, List, [], ◌∷◌, ◌++◌, length, map, refl, ap, sym, arith, ◌∙◌, length-append}
use Rattle.std.specs.Prelude.{slice_index_or}
use Rattle.std.specs.List.{AllByRecursion}
use Rattle.std.proofs.Math.ListN.{get_or-append}
use Rattle.std.proofs.Math.Seq.{get_or-append_seam}
use Rattle.mw_model.specs.Pictures.{Picture}
use Rattle.mw_model.specs.Plans.{Plan, Planned, Source, FromInput, FromStep, IsSourceAt, no_picture, plane_of, plane_of_source, planes, planes_from}
use Rattle.mw_model.specs.Tasks.{nothing_planned}

-- the plane of a step behind those made so far
abbrev next : Planned → List Picture → List Picture → ℕ → ℕ → Picture
next s images made width height = plane_of s.step (map (plane_of_source images made) s.sources) width height

pub length-planes_from : (plan : Plan) (images made : List Picture) (width height : ℕ) → length (planes_from plan images made width height) ≡ length made + length plan
length-planes_from [] images made width height = omega arith
length-planes_from (s ∷ ss) images made width height =
    omega (arith, length-planes_from ss images (made ++ next s images made width height ∷ []) width height, length-append made (next s images made width height ∷ []))

-- what was made before stays
planes_from-before : (plan : Plan) (images made : List Picture) (width height i : ℕ) → i < length made → slice_index_or (planes_from plan images made width height) i no_picture ≡ slice_index_or made i no_picture
planes_from-before [] images made width height i lt = refl
planes_from-before (s ∷ ss) images made width height i lt =
    let p = next s images made width height in
    planes_from-before ss images (made ++ p ∷ []) width height i (omega (arith, length-append made (p ∷ [])))
    ∙ get_or-append made (p ∷ []) no_picture i lt

-- sources before k are read alike in lists that are alike below k
same_sources : (images made more : List Picture) (inputs k : ℕ) (sources : List Source) → ((i : ℕ) → i < k → slice_index_or more i no_picture ≡ slice_index_or made i no_picture)
    → AllByRecursion (IsSourceAt inputs k) sources → map (plane_of_source images made) sources ≡ map (plane_of_source images more) sources
same_sources images made more inputs k [] alike all = refl
same_sources images made more inputs k (FromInput i ∷ ss) alike all = ap (λ (t : List Picture). slice_index_or images i no_picture ∷ t) (same_sources images made more inputs k ss alike all.1)
same_sources images made more inputs k (FromStep i ∷ ss) alike all =
    ap (λ (t : Picture). t ∷ map (plane_of_source images made) ss) (sym (alike i all.0))
    ∙ ap (λ (t : List Picture). slice_index_or more i no_picture ∷ t) (same_sources images made more inputs k ss alike all.1)

each_from : (plan : Plan) (images made : List Picture) (width height k j inputs : ℕ) → j ≡ length made + k → k < length plan
    → AllByRecursion (IsSourceAt inputs j) (slice_index_or plan k nothing_planned).sources
    → slice_index_or (planes_from plan images made width height) j no_picture ≡ next (slice_index_or plan k nothing_planned) images (planes_from plan images made width height) width height
each_from [] images made width height k j inputs at lt all = absurd (omega arith)
each_from (s ∷ ss) images made width height zero j inputs at lt all =
    let p = next s images made width height in
    let more = planes_from ss images (made ++ p ∷ []) width height in
    let here : j ≡ length made = omega arith in
    ap (λ (t : ℕ). slice_index_or more t no_picture) here
    ∙ planes_from-before ss images (made ++ p ∷ []) width height (length made) (omega (arith, length-append made (p ∷ [])))
    ∙ get_or-append_seam made p [] no_picture
    ∙ ap (λ (t : List Picture). plane_of s.step t width height)
    (same_sources images made more inputs j s.sources (λ i below. planes_from-before (s ∷ ss) images made width height i (omega arith)) all)
each_from (s ∷ ss) images made width height (suc k) j inputs at lt all =
    let p = next s images made width height in
    each_from ss images (made ++ p ∷ []) width height k j inputs (omega (arith, length-append made (p ∷ []))) (omega arith) all

pub length-planes : (plan : Plan) (images : List Picture) (width height : ℕ) → length (planes plan images width height) ≡ length plan
length-planes plan images width height = omega (arith, length-planes_from plan images [] width height)

pub plane_is : (plan : Plan) (images : List Picture) (width height k inputs : ℕ) → k < length plan → AllByRecursion (IsSourceAt inputs k) (slice_index_or plan k nothing_planned).sources
    → slice_index_or (planes plan images width height) k no_picture ≡ next (slice_index_or plan k nothing_planned) images (planes plan images width height) width height
plane_is plan images width height k inputs lt all = each_from plan images [] width height k k inputs (omega arith) lt all
