-- What two extrema under elements of any shape make of an image.
use Rattle.std.specs.Prelude.{◌≡◌, ◌+◌, ◌≤◌}
use Rattle.mw_model.specs.declared.offsets.Reach.{Reach}
use Rattle.mw_model.specs.Flat.{minus}
use Rattle.mw_model.specs.Pictures.{Picture}
use Rattle.mw_model.specs.Rectangles.{WithinReach}
use Rattle.mw_c_arrays.specs.Sources.{IsArrayImage, picture_in}
use Rattle.mw_c_lent.specs.declared.composites.Composite.{Composite}
use Rattle.mw_c_lent.specs.declared.composites.Composite.TheVariants as composite
use Rattle.mw_c_lent.specs.declared.composites.Composition.{Composition}
use Rattle.mw_c_lent.specs.declared.rules.Rule.{Rule}
use Rattle.mw_c_lent.specs.InTurn.{IsElementRule, rule_offsets}
use Rattle.mw_c_lent.specs.Rules.{rule_picture}

-- what is made of an image
abbrev pub composite_picture : Composite → Picture → Picture
composite_picture (composite.InTurn a b) f = rule_picture b (rule_picture a f)
composite_picture (composite.Taken a b) f = minus f (rule_picture b (rule_picture a f))
composite_picture (composite.Added a b) f = minus (rule_picture b (rule_picture a f)) f
composite_picture (composite.Less a b) f = minus (rule_picture a f) (rule_picture b f)

-- ---- its rules (own)

abbrev pub first_rule : Composite → Rule
first_rule (composite.InTurn a b) = a
first_rule (composite.Taken a b) = a
first_rule (composite.Added a b) = a
first_rule (composite.Less a b) = a

abbrev pub last_rule : Composite → Rule
last_rule (composite.InTurn a b) = b
last_rule (composite.Taken a b) = b
last_rule (composite.Added a b) = b
last_rule (composite.Less a b) = b

-- the one whose rows are made first
abbrev pub first_made : Composite → Rule
first_made (composite.InTurn a b) = a
first_made (composite.Taken a b) = a
first_made (composite.Added a b) = a
first_made (composite.Less a b) = b

-- both are extrema under elements
abbrev pub AreElementRules : Composite → Type 0
AreElementRules c = IsElementRule (first_rule c) × IsElementRule (last_rule c)

-- rows of the one that is made first are not looked at beyond the reach
abbrev pub LooksWithin : Reach → Composite → Type 0
LooksWithin r (composite.InTurn a b) = WithinReach r (rule_offsets b)
LooksWithin r (composite.Taken a b) = WithinReach r (rule_offsets b)
LooksWithin r (composite.Added a b) = WithinReach r (rule_offsets b)
LooksWithin r (composite.Less a b) = (r.up ≡ 0) × (r.down ≡ 0)

-- it can be made by strips
pub record IsComposition (c : Composition) : Type 0 where
  pub image : IsArrayImage c.f
  pub rules : AreElementRules c.composite
  pub reach : LooksWithin c.reach c.composite
  pub near : c.reach.up + c.reach.down ≤ 255
  pub wide : 32 ≤ (picture_in c.f).width
