-- Elements that cover alike make the same of images and sets.
use Rattle.std.proofs.Common.{◌≡◌, ℕ, ◌*◌, List, length, arith, inl, inr}
use Rattle.mw_model.specs.declared.offsets.Offset.{Offset}
use Rattle.mw_model.specs.Pictures.{Picture}
use Rattle.mw_geodesic.specs.Geodesics.{reconstruction}
use Rattle.mw_geodesic.specs.Labels.{IsLabelling}
use Rattle.mw_geodesic.specs.Paths.{Joined, ends, goes, AreConnected, point}
use Rattle.mw_geodesic.proofs.Geodesic.{IsClosed, spread_least, reconstruction_closed, only_reconstruction}
use Rattle.mw_geodesic.proofs.Reconstructed.{rebuilt_shape, rebuilt_size, rebuilt_above}
use Rattle.mw_geodesic_labels.specs.declared.regions.Region.{Region}
use Rattle.mw_geodesic_labels.specs.Regions.{AreRegionsOf, AreRegionsTold, AreRegionsWithLabels}
use Rattle.mw_c_geodesic.specs.Alike.{CoverAlike, CoversOthers}

pub turned : (e e' : List Offset) → CoverAlike e e' → CoverAlike e' e
turned e e' alike = record { there = alike.back; back = alike.there }

-- what is closed by one is closed by the other
closed_by : (e e' : List Offset) (mask h : Picture) → CoversOthers e e' → IsClosed e mask h → IsClosed e' mask h
closed_by e e' mask h covers closed = record {
  closed = λ x y u v p q p' q' c. elim (covers x y u v c) [
    | inl there ↦ closed.closed x y u v p q p' q' there
    | inr same ↦ rw (same.0, same.1) (omega arith)
  ];
}

-- the same is reconstructed
pub rebuilt_alike : (e e' : List Offset) (mask marker : Picture) → CoverAlike e e' → reconstruction e mask marker ≡ reconstruction e' mask marker
rebuilt_alike e e' mask marker alike =
    let r = reconstruction e mask marker in
    let r' = reconstruction e' mask marker in
    only_reconstruction e' mask marker r (rebuilt_shape e mask marker) (rebuilt_size e mask marker) (rebuilt_above e mask marker)
    (closed_by e e' mask r alike.there (reconstruction_closed e mask marker))
    (spread_least e mask marker r' (marker.height * marker.width) (rebuilt_shape e' mask marker) (rebuilt_above e' mask marker)
    (closed_by e' e mask r' alike.back (reconstruction_closed e' mask marker)))

-- the same paths lead from place to place
joined_alike : (e e' : List Offset) (f marker : Picture) (k x y : ℕ) → CoversOthers e e' → Joined e' f marker k x y → Joined e f marker k x y
joined_alike e e' f marker k x y covers (ends x' y' place high top) = ends x' y' (record { column = place.column; row = place.row }) high top
joined_alike e e' f marker k x y covers (goes x' y' u v place high c rest) =
    elim (covers x' y' u v c) [
      | inl there ↦ goes x' y' u v (record { column = place.column; row = place.row }) high there (joined_alike e e' f marker k u v covers rest)
      | inr same ↦ rw (same.0, same.1) (joined_alike e e' f marker k u v covers rest)
    ]

-- places that are connected
connected_alike : (e e' : List Offset) (f : Picture) (x y u v : ℕ) → CoversOthers e e' → AreConnected e' f x y u v → AreConnected e f x y u v
connected_alike e e' f x y u v covers way = joined_alike e e' f (point f u v) 1 x y covers way

-- the same labels
pub labelling_alike : (e e' : List Offset) (f : Picture) (count : ℕ) (labels : List ℕ) → CoverAlike e e' → IsLabelling e' f count labels → IsLabelling e f count labels
labelling_alike e e' f count labels alike are = record {
  size = are.size;
  outside = are.outside;
  one = λ x y u v p q s. (λ same. connected_alike e e' f x y u v alike.there ((are.one x y u v p q s).0 same), λ way. (are.one x y u v p q s).1 (connected_alike e' e f x y u v alike.back way));
  rises = are.rises;
  counted = are.counted;
}

-- the same regions
pub regions_alike : (e e' : List Offset) (f : Picture) (regions : List Region) → CoverAlike e e' → AreRegionsOf e' f regions → AreRegionsOf e f regions
regions_alike e e' f regions alike are = record { labels = are.labels; labelling = labelling_alike e e' f (length regions) are.labels alike are.labelling; each = are.each }

-- the same is told of them
pub told_alike : (e e' : List Offset) (f : Picture) (count : ℕ) (old new : List ℕ) → CoverAlike e e' → AreRegionsTold e' f count old new → AreRegionsTold e f count old new
told_alike e e' f count old new alike told = record {
  components = record { labels = told.components.labels; labelling = labelling_alike e e' f count told.components.labels alike told.components.labelling };
  written = λ le.
      let was = told.written le in
      record { regions = was.regions; are = regions_alike e e' f was.regions alike was.are; counted = was.counted; written = was.written };
  unwritten = told.unwritten;
}

-- the same is told of them, and the same labels
pub told_with_labels_alike : (e e' : List Offset) (f : Picture) (count : ℕ) (old_rows rows old new : List ℕ) → CoverAlike e e' → AreRegionsWithLabels e' f count old_rows rows old new → AreRegionsWithLabels e f count old_rows rows old new
told_with_labels_alike e e' f count old_rows rows old new alike are = record {
  told = told_alike e e' f count old_rows rows alike are.told;
  labels = λ le. labelling_alike e e' f count new alike (are.labels le);
  unlabelled = are.unlabelled;
}
