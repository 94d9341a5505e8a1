use Rattle.std.proofs.Common.{ℕ, ◌-◌, List, length}
use Rattle.std.specs.Prelude.{min, nat_le, if◌then◌else◌, slice_index}
use Rattle.mw_model.specs.declared.shapes.Kind.TheVariants as kind
use Rattle.mw_model.specs.Flat.{greatest, in_rising_order, least, under}
use Rattle.mw_model.specs.Pictures.{sample}
use Rattle.mw_model.proofs.ImagePlaces.{sample-drawn, sample-redrawn}
use Rattle.mw_c_arrays.proofs.laws.one_pixel.Goals as goal

pub returns-clause-erosion : goal.returns-clause-erosion
returns-clause-erosion c = λ e f x y across down. sample-redrawn f (λ u v. least f.maxval (under f e u v)) x y across down

pub returns-clause-dilation : goal.returns-clause-dilation
returns-clause-dilation c = λ e f x y across down. sample-redrawn f (λ u v. greatest (under f e u v)) x y across down

pub returns-clause-rank : goal.returns-clause-rank
returns-clause-rank c = λ e k f x y across down.
    sample-redrawn f (λ u v. slice_index (in_rising_order (under f e u v)) (min k (length (under f e u v)) - 1)) x y across down

pub returns-clause-threshold : goal.returns-clause-threshold
returns-clause-threshold c = λ k f x y across down.
    sample-drawn kind.Bit f.width f.height 1 (λ u v. if nat_le k (sample f u v) then 1 else 0) x y across down
