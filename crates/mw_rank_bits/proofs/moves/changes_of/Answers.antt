use Rattle.std.proofs.Common.{◌≡◌, ℕ, ◌*◌, List, length, ap, arith, sum_by, ◌∙◌}
use Rattle.mw_rank_bits.specs.Moves.{weighed, marks_at}
use Rattle.mw_rank_bits.proofs.Weights.{changed_balance, changed_part}
use Rattle.mw_rank_bits.proofs.moves.changes_of.Goals as goal

pub changes_by_marks-requires : goal.changes_by_marks-requires
changes_by_marks-requires c = record { some = c.requires.some; size = omega (arith, c.as_slice.ensures.len, c.in_ok-marks.ensures.size); room = c.requires.room; fits = c.requires.fits }

pub returns : goal.returns
returns c =
    let columns = c.args.sheet.columns in
    let wide = c.args.sheet.wide in
    let count = c.args.sheet.rows * columns in
    let marks = c.as_slice.result.now in
    let made = c.in_ok-made.made in
    let size : length marks ≡ count = omega (arith, c.as_slice.ensures.len, c.in_ok-marks.ensures.size) in
    let sums : (f : ℕ → ℕ) → weighed (marks_at marks) f count ≡ sum_by f c.args.places.now = λ f. ap (λ (t : List ℕ). weighed (marks_at t) f count) c.as_slice.ensures.value ∙ c.in_ok-marks.ensures.sums f in
    let done = c.in_ok-made.ensures in
    record {
      balance = changed_balance c.args.places.now marks count columns wide _ made.entered.items made.left.items c.requires.some size sums done;
      part = changed_part c.args.places.now marks count columns wide _ made.entered.items made.left.items size sums done;
      entered = done.entered_below;
      left = done.left_below;
    }
