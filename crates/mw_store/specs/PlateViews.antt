-- What is seen of a share of an image.
use Rattle.mw_model.specs.Pictures.{Picture}
use Rattle.mw_store.specs.declared.plates.PlateView.{PlateView}
use Rattle.mw_store.specs.declared.plates.PlateView.TheVariants as view

-- the image that is looked at, in one piece or in tiles
abbrev pub picture_seen : PlateView → Picture
picture_seen (view.Image f) = f.now
picture_seen (view.Tiles f) = f.now
