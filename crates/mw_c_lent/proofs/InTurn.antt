-- What extrema under elements make, one after the other, of some rows of an image.
use Rattle.std.proofs.Common.{◌≡◌, ℕ, ◌<◌, List, map, refl, ap, sym, ◌∙◌}
use Rattle.mw_model.specs.declared.offsets.Reach.{Reach}
use Rattle.mw_model.specs.declared.offsets.Rect.{Rect}
use Rattle.mw_model.specs.Flat.{greatest, least, under}
use Rattle.mw_model.specs.Laws.{SameShape}
use Rattle.mw_model.specs.Pictures.{IsPicture, Picture, sample}
use Rattle.mw_model.specs.Rectangles.{WithinReach, grown}
use Rattle.mw_model.specs.Tasks.{cells_in}
use Rattle.mw_model.specs.Windows.{seen_at}
use Rattle.std.specs.Arc.{arc_value}
use Rattle.mw_tile.specs.Cuts.{view_of}
use Rattle.mw_c_lent.specs.declared.rules.Rule.{Rule}
use Rattle.mw_c_lent.specs.declared.rules.Rule.TheVariants as rules
use Rattle.mw_c_lent.specs.Boxes.{IsMadeUnder}
use Rattle.mw_c_lent.specs.InTurn.{IsElementRule, rule_offsets, rule_value}
use Rattle.mw_c_lent.specs.Rows.{IsStrip}
use Rattle.mw_c_lent.specs.Rules.{rule_picture}
use Rattle.mw_c_lent.proofs.Rows.{read_strip}
use Rattle.mw_c_lent.proofs.Slid.{alike_strip}
use Rattle.mw_c_lent.proofs.Steps.{greatest_there, least_there, rule_is_picture}
use Rattle.mw_c_lent.proofs.UnderBoxes.{made_shown}
use Rattle.mw_c_lent.proofs.Views.{levels_window, rows_window}

pub rule_there : (r : Rule) (top : ℕ) (f : Picture) (x y : ℕ) → IsElementRule r → f.maxval ≡ top → x < f.width → y < f.height → rule_value top r (under f (rule_offsets r) x y) ≡ sample (rule_picture r f) x y
rule_there (rules.Least e) top f x y is same across down =
    ap (λ (t : ℕ). least t (under f (arc_value e.now).offsets x y)) (sym same)
    ∙ least_there (arc_value e.now).offsets (arc_value e.now).offsets f x y (least f.maxval (under f (arc_value e.now).offsets x y)) across down refl refl
rule_there (rules.Greatest e) top f x y is same across down =
    greatest_there (arc_value e.now).offsets (arc_value e.now).offsets f x y (greatest (under f (arc_value e.now).offsets x y)) across down refl refl
rule_there (rules.LeastBox b) top f x y is same across down = absurd is
rule_there (rules.GreatestBox b) top f x y is same across down = absurd is
rule_there (rules.Nth e k) top f x y is same across down = absurd is
rule_there (rules.AtLeast k) top f x y is same across down = absurd is

pub under_shape : (r : Rule) (f : Picture) → IsElementRule r → SameShape (rule_picture r f) f
under_shape (rules.Least e) f is = record { kind = refl; width = refl; height = refl; maxval = refl }
under_shape (rules.Greatest e) f is = record { kind = refl; width = refl; height = refl; maxval = refl }
under_shape (rules.LeastBox b) f is = absurd is
under_shape (rules.GreatestBox b) f is = absurd is
under_shape (rules.Nth e k) f is = absurd is
under_shape (rules.AtLeast k) f is = absurd is

-- what the second makes of rows of what the first makes, of which as many stand as it looks at
pub in_turn_made : {A : Type 0} (level : A → ℕ) (f : Picture) (first second : Rule) (reach : Reach) (top : A) (m n : ℕ) (place strip : Rect) (part out : List A) → IsElementRule first → IsElementRule second → IsPicture f
    → f.maxval ≡ level top → m ≡ f.width → n ≡ f.height → IsStrip strip f → place ≡ grown m n reach strip → WithinReach reach (rule_offsets second)
    → map level part ≡ cells_in place (sample (rule_picture first f)) → IsMadeUnder (rule_value (level top) second) level (seen_at (view_of m n place part)) (rule_offsets second) strip out
    → map level out ≡ cells_in strip (sample (rule_picture second (rule_picture first f)))
in_turn_made level f first second reach top m n place strip part out one two picture is wide high strip-is place-is within rows made =
    let g : Picture = rule_picture first f in
    let shape = under_shape first f one in
    let size = (rule_is_picture first f picture).size in
    let own : IsStrip place f = rw (place-is) (read_strip m n strip reach f wide high strip-is) in
    let window = rows_window level g m n place strip reach (rule_offsets second) part (wide ∙ sym shape.width) (high ∙ sym shape.height) size (alike_strip f g place shape own) place-is within rows in
    made_shown (rule_value (level top) second) level (view_of m n place part) g (rule_picture second g) (rule_offsets second) strip out (alike_strip f g strip shape strip-is)
    (λ i j across down. levels_window level (view_of m n place part) g (rule_offsets second) strip size window i j across down)
    (λ x y across down. rule_there second (level top) g x y two (shape.maxval ∙ is) across down) made
