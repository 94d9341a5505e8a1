-- What is seen of a window in pieces (own).
use Rattle.std.specs.Prelude.{◌≡◌, ℕ, ◌≤◌, unwrap_or}
use Rattle.mw_model.specs.declared.shapes.Kind.{Kind}
use Rattle.mw_model.specs.declared.shapes.Kind.TheVariants as kind
use Rattle.mw_model.specs.Tasks.{cells_in}
use Rattle.mw_tile.specs.Windows.{SourceWindow}
use Rattle.mw_tile.specs.Cuts.{view_of}
use Rattle.mw_tile_pieces.specs.Patches.{Joint, IsJoint, value_in}
use Rattle.mw_tile_pieces.specs.declared.shared.PiecesView.{PiecesView}
use Rattle.mw_tile_pieces.specs.declared.shared.PiecesView.TheVariants as view
use Rattle.mw_tile_pieces.specs.declared.shared.Held.{Held}
use Rattle.mw_tile_pieces.specs.declared.shared.Held.TheVariants.{Bits, Grey8, Grey16}

-- the level at a place of the window
abbrev pub level_in : Joint ℕ → ℕ → ℕ → ℕ
level_in j x y = unwrap_or (value_in j.pieces x y) 0

-- the window that the pieces make, of a source of this kind and maxval
abbrev pub source_joint : Kind → ℕ → Joint ℕ → SourceWindow
source_joint k maxval j = record { kind = k; maxval = maxval; view = view_of j.frame_width j.frame_height j.place (cells_in j.place (level_in j)) }

-- of a set
abbrev pub set_joint : Joint ℕ → SourceWindow
set_joint j = source_joint kind.Bit 1 j

-- of a source in levels of grey up to the maxval
abbrev pub grey_joint : Joint ℕ → ℕ → SourceWindow
grey_joint j maxval = source_joint kind.Grey maxval j

-- the window that is held
abbrev pub joint_held : Held → SourceWindow
joint_held (Bits j) = set_joint j
joint_held (Grey8 j maxval) = grey_joint j maxval
joint_held (Grey16 j maxval) = grey_joint j maxval

-- the maxval is one of this size of samples: up to 255 in one byte, and else in two
abbrev pub JointIsHeld : Held → Type 0
JointIsHeld (Bits j) = IsJoint j
JointIsHeld (Grey8 j maxval) = IsJoint j × (1 ≤ maxval) × (maxval ≤ 255)
JointIsHeld (Grey16 j maxval) = IsJoint j × (256 ≤ maxval)

-- what is looked at is this window
abbrev pub ShowsPieces : SourceWindow → PiecesView → Type 0
ShowsPieces s (view.Bits p) = (s ≡ set_joint p.now) × IsJoint p.now
ShowsPieces s (view.Grey8 p maxval) = (s ≡ grey_joint p.now maxval) × IsJoint p.now × (1 ≤ maxval) × (maxval ≤ 255)
ShowsPieces s (view.Grey16 p maxval) = (s ≡ grey_joint p.now maxval) × IsJoint p.now × (256 ≤ maxval)
