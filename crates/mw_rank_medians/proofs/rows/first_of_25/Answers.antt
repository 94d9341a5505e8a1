use Rattle.std.proofs.Common.{◌≡◌, ℕ, ◌+◌, ◌*◌, ◌∙◌, ◌<◌, ap, arith, refl, subst, sym}
use Rattle.mw_rank_medians.specs.declared.five.Five.{Five}
use Rattle.mw_rank_medians.specs.declared.five.Ten.{Ten}
use Rattle.mw_rank_medians.specs.Numbered.{lanes_of_five, lanes_of_ten, AreFive, AreTen}
use Rattle.mw_rank_medians.specs.Columns.{column_below, block_below}
use Rattle.mw_rank_medians.proofs.Further.{ahead_holds}
use Rattle.mw_rank_medians.proofs.Columns.{all_counted, line_more}
use Rattle.mw_rank_medians.proofs.rows.first_of_25.Goals as goal

pub by_vector-init : goal.by_vector-init
by_vector-init g c =
    let lane = g.P.Vectored.lane in
    let width = g.P.Vectored.WIDTH in
    let sheet = c.args.sheet in
    let column = λ (j t : ℕ). column_below g.P.Pixel.level g.P.Pixel.TOP sheet.samples.now sheet.from sheet.stride 5 j t in
    let is_five : ℕ → Five ℕ → Type 0 = λ j x. AreFive (column j) x in
    let here : (i : ℕ) → i < width → is_five (0 + i) (lanes_of_five lane c.columns_of_five-here.result i) = c.columns_of_five-here.ensures in
    let next : (i : ℕ) → i < width → is_five (0 + width + i) (lanes_of_five lane c.columns_of_five-next.result i) = λ i lt.
    let place : c.WIDTH-width.result + i ≡ 0 + width + i = omega (arith, c.WIDTH-width.ensures) in
    subst (λ (j : ℕ). is_five j (lanes_of_five lane c.columns_of_five-next.result i)) place (c.columns_of_five-next.ensures i lt) in
    let moved = ahead_holds (lanes_of_five lane) is_five width 1 0 c.columns_of_five-here.result c.columns_of_five-next.result c.five_one_ahead-second.result (omega (arith, g.met.P.Vectored.is_wide)) c.five_one_ahead-second.ensures here next in
    record {
      within = omega arith;
      size = refl;
      columns = here;
      columns_next = next;
      pairs = λ i lt.
          let place : 0 + 1 + i ≡ 0 + i + 1 = omega arith in
          c.five_merged-left.ensures i (column (0 + i)) (column (0 + i + 1)) (here i lt) (subst (λ (j : ℕ). is_five j (lanes_of_five lane c.five_one_ahead-second.result i)) place (moved i lt));
      medians = λ i lt. absurd (omega arith);
    }

pub by_vector-preserved : goal.by_vector-preserved
by_vector-preserved g c =
    let level = g.P.Pixel.level in
    let top = g.P.Pixel.TOP in
    let lane = g.P.Vectored.lane in
    let width = g.P.Vectored.WIDTH in
    let sheet = c.args.sheet in
    let done = c.by_vector.done in
    let count = block_below level top sheet.samples.now sheet.from sheet.stride 5 in
    let column = λ (j t : ℕ). column_below level top sheet.samples.now sheet.from sheet.stride 5 j t in
    let is_five : ℕ → Five ℕ → Type 0 = λ j x. AreFive (column j) x in
    let is_pair : ℕ → Ten ℕ → Type 0 = λ j x. AreTen (λ t. column j t + column (j + 1) t) x in
    let here = c.by_vector.invariant.columns in
    let next = c.by_vector.invariant.columns_next in
    let left = c.by_vector.invariant.pairs in
    let last : (i : ℕ) → i < width → is_five (done + width + width + i) (lanes_of_five lane c.columns_of_five-last.result i) = λ i lt.
    let place : done + 2 * c.WIDTH-width.result + i ≡ done + width + width + i = omega (arith, c.WIDTH-width.ensures) in
    subst (λ (j : ℕ). is_five j (lanes_of_five lane c.columns_of_five-last.result i)) place (c.columns_of_five-last.ensures i lt) in
    let moved = ahead_holds (lanes_of_five lane) is_five width 1 (done + width) c.by_vector.next c.columns_of_five-last.result c.five_one_ahead-beside.result (omega (arith, g.met.P.Vectored.is_wide)) c.five_one_ahead-beside.ensures next last in
    let following : (i : ℕ) → i < width → is_pair (done + width + i) (lanes_of_ten lane c.five_merged-following.result i) = λ i lt.
    let place : done + width + 1 + i ≡ done + width + i + 1 = omega arith in
    c.five_merged-following.ensures i (column (done + width + i)) (column (done + width + i + 1)) (next i lt) (subst (λ (j : ℕ). is_five j (lanes_of_five lane c.five_one_ahead-beside.result i)) place (moved i lt)) in
    let right = ahead_holds (lanes_of_ten lane) is_pair width 2 done c.by_vector.left c.five_merged-following.result c.ten_two_ahead-right.result (omega (arith, g.met.P.Vectored.is_wide)) c.ten_two_ahead-right.ensures left following in
    let fifth = ahead_holds (lanes_of_five lane) is_five width 4 done c.by_vector.here c.by_vector.next c.five_four_ahead-fifth.result (omega (arith, g.met.P.Vectored.is_wide)) c.five_four_ahead-fifth.ensures here next in
    let again = sym c.WIDTH-width.ensures in
    record {
      within = omega (arith, c.store.ensures.size, c.by_vector.invariant.size, c.WIDTH-width.ensures);
      size = c.store.ensures.size ∙ c.by_vector.invariant.size;
      columns = subst (λ (w : ℕ). (i : ℕ) → i < width → is_five (done + w + i) (lanes_of_five lane c.by_vector.next i)) again next;
      columns_next = subst (λ (w : ℕ). (i : ℕ) → i < width → is_five (done + w + width + i) (lanes_of_five lane c.columns_of_five-last.result i)) again last;
      pairs = subst (λ (w : ℕ). (i : ℕ) → i < width → is_pair (done + w + i) (lanes_of_ten lane c.five_merged-following.result i)) again following;
      medians = line_more level top count 13 done done width _ c.by_vector.out c.store.new.out (lane c.median_of_tens-medians.result) (omega arith) (ap (λ (n : ℕ). done + n) c.WIDTH-width.ensures) c.store.ensures.put c.store.ensures.before
          (λ i lt.
          all_counted level top sheet.samples.now sheet.from sheet.stride (done + i) (done + i + 1) (done + 2 + i) (done + 2 + i + 1) (done + 4 + i) _ (omega arith) (omega arith) (omega arith) (omega arith)
          (c.median_of_tens-medians.ensures i (λ t. column (done + i) t + column (done + i + 1) t) (λ t. column (done + 2 + i) t + column (done + 2 + i + 1) t) (column (done + 4 + i)) (left i lt) (right i lt) (fifth i lt)))
          c.by_vector.invariant.medians;
    }
