-- A header at the front of a file is read.
use Rattle.std.proofs.Common.{◌≡◌, ℕ, ◌≤◌, List, Ok, refl, ap, ◌∙◌, arith}
use Rattle.mw_model.specs.declared.formats.Format.{Format}
use Rattle.mw_model.specs.declared.formats.Format.TheVariants.{PlainBits, PlainGrey, RawBits, RawGrey}
use Rattle.mw_model.specs.declared.formats.Header.{Header as Head}
use Rattle.mw_netpbm_plain.specs.Heading.{head_at}
use Rattle.mw_model.specs.NetpbmGrammar.{IsMaxval, BeginsImage}
use Rattle.mw_netpbm_plain.proofs.Headers.{head_whole, capped}
use Rattle.mw_netpbm_plain.proofs.Blanks.{cap}

-- ---- limits

pub head_cap : (h : Head) → h.width ≤ 4294967295 → h.height ≤ 4294967295 → h.maxval ≤ 4294967295 → capped h ≡ h
head_cap h a b c = let e1 : cap h.width ≡ h.width = omega arith in let e2 : cap h.height ≡ h.height = omega arith in let e3 : cap h.maxval ≡ h.maxval = omega arith in rw (e1, e2, e3) refl

-- ---- rasters under a header

-- the maxval of a set
abbrev pub SetMaxval : Format → ℕ → Type 0
SetMaxval PlainBits m = m ≡ 1
SetMaxval RawBits m = m ≡ 1
SetMaxval PlainGrey m = Unit {0}
SetMaxval RawGrey m = Unit {0}

pub set_maxval : (format : Format) (text : List ℕ) (m : ℕ) → IsMaxval format text m → SetMaxval format m
set_maxval PlainBits text m is = is.1
set_maxval RawBits text m is = is.1
set_maxval PlainGrey text m is = tt
set_maxval RawGrey text m is = tt

pub begun_maxval : (bytes raster : List ℕ) (h : Head) → BeginsImage bytes h raster → SetMaxval h.format h.maxval
begun_maxval bytes raster h b = set_maxval h.format b.is_header.maxval h.maxval b.is_header.is_maxval

-- ---- the whole file

-- a header at the front is read
pub begun_read : (bytes raster : List ℕ) (h : Head) → BeginsImage bytes h raster → head_at bytes ≡ Ok (capped h, raster)
begun_read bytes raster h b = ap head_at b.parts ∙ head_whole b.text raster h b.is_header
