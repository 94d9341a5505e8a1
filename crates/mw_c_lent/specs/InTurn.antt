-- Extrema under elements of any shape, one after the other (own).
use Rattle.std.specs.Prelude.{ℕ, List, [], ⊤}
use Rattle.std.specs.Arc.{arc_value}
use Rattle.mw_model.specs.declared.offsets.Offset.{Offset}
use Rattle.mw_model.specs.Flat.{greatest, least}
use Rattle.mw_model.specs.Rectangles.{WithinReach}
use Rattle.mw_c_arrays.specs.Sources.{IsArrayImage}
use Rattle.mw_c_lent.specs.declared.in_turn.Sequence.{Sequence}
use Rattle.mw_c_lent.specs.declared.rules.Rule.{Rule}
use Rattle.mw_c_lent.specs.declared.rules.Rule.TheVariants as rule

-- the rule is an extremum under an element
abbrev pub IsElementRule : Rule → Type 0
IsElementRule (rule.Least e) = ⊤
IsElementRule (rule.Greatest e) = ⊤
IsElementRule r = ⊥

-- the offsets of its element
abbrev pub rule_offsets : Rule → List Offset
rule_offsets (rule.Least e) = (arc_value e.now).offsets
rule_offsets (rule.Greatest e) = (arc_value e.now).offsets
rule_offsets r = []

-- the extremum of levels, where the least of none is the top
abbrev pub rule_value : ℕ → Rule → List ℕ → ℕ
rule_value top (rule.Least e) ns = least top ns
rule_value top r ns = greatest ns

-- both rules are such, and the second does not look beyond the reach
pub record IsSequence (s : Sequence) : Type 0 where
  pub image : IsArrayImage s.f
  pub first : IsElementRule s.first
  pub second : IsElementRule s.second
  pub within : WithinReach s.reach (rule_offsets s.second)
