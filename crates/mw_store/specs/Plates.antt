-- What a share of an image shows.
use Rattle.mw_model.specs.Pictures.{Picture}
use Rattle.mw_store.specs.declared.plates.Share.{Share}
use Rattle.mw_store.specs.declared.plates.Share.TheVariants as share

-- the image that is shared, in one piece or in tiles
abbrev pub picture_shared : Share → Picture
picture_shared (share.Image f) = f
picture_shared (share.Tiles f) = f
