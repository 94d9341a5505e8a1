-- Complements, and operators on sets.
use Rattle.std.proofs.Common.{◌≡◌, ℕ, ◌-◌, ◌≤◌, List, refl, ap, sym, subst, arith, ◌∙◌}
use Rattle.mw_model.specs.declared.offsets.Offset.{Offset}
use Rattle.mw_model.specs.Pictures.{Picture, sample, IsPicture, IsSet}
use Rattle.mw_model.specs.Flat.{under, least, erosion, dilation, reflected, opening, closing, complement, threshold, hit_or_miss, set_hit_or_miss}
use Rattle.mw_model.specs.Iterates.{restoration}
use Rattle.mw_model.proofs.ImagePlaces.{sample-redrawn, drawn_same, redrawn_itself, sample_bounded}
use Rattle.mw_model.proofs.ImageOrder.{sample-erosion}
use Rattle.mw_model_laws.proofs.SampleMaps.{erosion-complement, hit-or-miss_of_set}
use Rattle.mw_model.proofs.ImageLaws.{drawn_picture, erosion_picture, dilation_picture, minus_picture, threshold_picture}
use Rattle.mw_model.proofs.SkeletonLaws.{restoration_picture, restoration_shape}

pub complement_picture : (f : Picture) → IsPicture (complement f)
complement_picture f = drawn_picture f.kind f.width f.height f.maxval (λ x y. f.maxval - sample f x y) (λ x y p q. omega arith)

pub opening_picture : (b : List Offset) (f : Picture) → IsPicture (opening b f)
opening_picture b f = dilation_picture (reflected b) (erosion b f) (erosion_picture b f)

pub closing_picture : (b : List Offset) (f : Picture) → IsPicture (closing b f)
closing_picture b f = erosion_picture (reflected b) (dilation b f)

pub erosion_of_complement : (b : List Offset) (f : Picture) → erosion b (complement f) ≡ complement (dilation b f)
erosion_of_complement b f =
    drawn_same f.kind f.width f.height f.maxval (λ x y. least f.maxval (under (complement f) b x y)) (λ x y. f.maxval - sample (dilation b f) x y)
    (λ x y p q. sym (sample-erosion b (complement f) x y p q) ∙ erosion-complement b f x y p q)

pub complement_twice : (f : Picture) → IsPicture f → complement (complement f) ≡ f
complement_twice f picture =
    drawn_same f.kind f.width f.height f.maxval (λ x y. f.maxval - sample (complement f) x y) (sample f)
    (λ x y p q. back _ _ _ (sample-redrawn f (λ x y. f.maxval - sample f x y) x y p q) (sample_bounded f picture x y p q))
    ∙ redrawn_itself f picture.size
  where
    back : (c m s : ℕ) → c ≡ m - s → s ≤ m → m - c ≡ s
    back c m s is le = omega arith

pub dilation_of_complement : (b : List Offset) (f : Picture) → IsPicture f → dilation b (complement f) ≡ complement (erosion b f)
dilation_of_complement b f picture =
    sym (complement_twice (dilation b (complement f)) (dilation_picture b (complement f) (complement_picture f)))
    ∙ ap complement (sym (erosion_of_complement b (complement f)) ∙ ap (erosion b) (complement_twice f picture))

pub erosion_set : (b : List Offset) (f : Picture) → IsSet f → IsSet (erosion b f)
erosion_set b f set = record { picture = erosion_picture b f; kind = set.kind; maxval = set.maxval }

pub dilation_set : (b : List Offset) (f : Picture) → IsSet f → IsSet (dilation b f)
dilation_set b f set = record { picture = dilation_picture b f set.picture; kind = set.kind; maxval = set.maxval }

pub opening_set : (b : List Offset) (f : Picture) → IsSet f → IsSet (opening b f)
opening_set b f set = record { picture = opening_picture b f; kind = set.kind; maxval = set.maxval }

pub closing_set : (b : List Offset) (f : Picture) → IsSet f → IsSet (closing b f)
closing_set b f set = record { picture = closing_picture b f; kind = set.kind; maxval = set.maxval }

pub complement_set : (f : Picture) → IsSet f → IsSet (complement f)
complement_set f set = record { picture = complement_picture f; kind = set.kind; maxval = set.maxval }

pub hit-or-miss_set : (hit miss : List Offset) (f : Picture) → IsSet f → IsSet (hit_or_miss hit miss f)
hit-or-miss_set hit miss f set = record { picture = minus_picture (erosion hit f) (dilation miss f) (erosion_picture hit f); kind = set.kind; maxval = set.maxval }

pub set_hit-or-miss_set : (hit miss : List Offset) (f : Picture) → IsSet f → IsSet (set_hit_or_miss hit miss f)
set_hit-or-miss_set hit miss f set = subst IsSet (hit-or-miss_of_set hit miss f set.maxval) (hit-or-miss_set hit miss f set)

pub threshold_set : (k : ℕ) (f : Picture) → IsSet (threshold k f)
threshold_set k f = record { picture = threshold_picture k f; kind = refl; maxval = refl }

pub restoration_set : (b : List Offset) (depth : ℕ) (g : Picture) → IsSet (restoration b depth g)
restoration_set b depth g =
    let shape = restoration_shape b depth g in
    record { picture = restoration_picture b depth g; kind = shape.kind; maxval = shape.maxval }
