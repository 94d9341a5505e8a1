-- What the faults of this crate are called, and what a scan tells of a bitmap.
use Rattle.std.specs.Prelude.{ℕ, ◌*◌, ◌==◌, List, count_by, Result, Ok}
use Rattle.mw_model.specs.declared.codes.Code.{Code}
use Rattle.mw_model.specs.declared.codes.Code.TheVariants as code
use Rattle.mw_model.specs.Rasters.{Raster}
use Rattle.mw_netpbm_plain.specs.declared.fault.ReadFault.{ReadFault}
use Rattle.mw_netpbm_plain.specs.declared.fault.ReadFault.TheVariants as read
use Rattle.mw_netpbm_plain.specs.declared.fault.BitmapFault.{BitmapFault}
use Rattle.mw_netpbm_plain.specs.declared.fault.BitmapFault.TheVariants as bitmap
use Rattle.mw_netpbm_plain.specs.declared.bitmap.BitmapFacts.{BitmapFacts}
use Rattle.mw_netpbm_plain.specs.Reading.{◌>>=◌}
use Rattle.mw_netpbm_plain.specs.Plain.{plain_at, pixel_in_text}
use Rattle.mw_netpbm_plain.specs.PlainSamples.{ones_of}
use Rattle.mw_netpbm_plain.specs.Whole.{bitmap_head_at}

-- the refusal that a fault of a file stands for
abbrev pub code_of : ReadFault → Code
code_of read.Magic = code.Magic
code_of read.Header = code.Header
code_of read.Size = code.Size
code_of read.Maxval = code.Maxval
code_of read.Short = code.Short
code_of read.Sample = code.Sample
code_of read.Trailing = code.Trailing
code_of read.NoMemory = code.Memory

-- the refusal that a fault of a bitmap stands for
abbrev pub bitmap_code_of : BitmapFault → Code
bitmap_code_of bitmap.NotPlain = code.NotPlain
bitmap_code_of bitmap.Header = code.Header
bitmap_code_of bitmap.Size = code.Size
bitmap_code_of bitmap.Short = code.Short
bitmap_code_of bitmap.Sample = code.Sample
bitmap_code_of bitmap.Trailing = code.Trailing
bitmap_code_of bitmap.NoMemory = code.Memory

-- a fault of a file as one of a bitmap, which has no maxval
abbrev pub as_bitmap : ReadFault → BitmapFault
as_bitmap read.Magic = bitmap.NotPlain
as_bitmap read.Header = bitmap.Header
as_bitmap read.Size = bitmap.Size
as_bitmap read.Maxval = bitmap.Size
as_bitmap read.Short = bitmap.Short
as_bitmap read.Sample = bitmap.Sample
as_bitmap read.Trailing = bitmap.Trailing
as_bitmap read.NoMemory = bitmap.NoMemory

-- the sides of a bitmap, and how many of its pixels are 1
abbrev pub facts_of : Raster ℕ → BitmapFacts
facts_of f = record { width = f.width; height = f.height; ones = count_by (λ s. s == 1) f.cells }

-- the facts that a scan computes
unfoldable pub facts_at : ℕ → List ℕ → Result BitmapFacts ReadFault
facts_at side bytes =
    bitmap_head_at side bytes >>= λ h. ones_of (plain_at pixel_in_text (h.0.height * h.0.width) h.1) >>= λ ones. Ok (record { width = h.0.width; height = h.0.height; ones = ones })
