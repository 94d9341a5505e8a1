use Rattle.std.proofs.Common.{◌≡◌, ◌∙◌, ◌+◌, ◌*◌, ◌<◌, ◌≤◌, ◌++◌, ◌∷◌, [], ℕ, List, length, refl, sym, subst, ap, append_assoc, arith, inl, inr}
use Rattle.std.proofs.lemmas.Bool.{cases_lt}
use Rattle.std.proofs.lemmas.List.{length_push}
use Rattle.mw_pixel.specs.Images.{set_of}
use Rattle.mw_geodesic_runs.specs.declared.runs.Run.{Run}
use Rattle.mw_geodesic_runs.specs.Runs.{RunsBefore}
use Rattle.mw_geodesic_runs.proofs.Cuts.{HoldRow, InRow, row_begins, row_on, cutting_begins, cutting_by, end_in_row, row_done, room_left}
use Rattle.mw_geodesic_runs.proofs.runs.cut_row.Goals as goal

pub cuts-init : goal.cuts-init
cuts-init c =
    let f = set_of c.args.set.now in
    let words = c.row-words.result.now in
    let row : HoldRow f c.args.y words = record { samples = c.row-words.ensures.samples; clean = c.row-words.ensures.clean; size = omega (arith, c.row-words.ensures.length) } in
    record {
      cutting = λ above before. cutting_begins f words c.next_place-at.result c.args.y (above ++ c.args.runs.now.items) row c.next_place-at.ensures.none before;
      row = row_begins f words c.next_place-at.result c.args.y (length c.args.runs.now.items) row c.next_place-at.ensures.within c.next_place-at.ensures.none c.next_place-at.ensures.found;
      room = refl;
      left = c.changes_behind-left.ensures;
    }

pub changes_behind-left-requires-clause-zeros : goal.changes_behind-left-requires-clause-zeros
changes_behind-left-requires-clause-zeros c = λ x lt. c.next_place-at.ensures.none x (omega arith) lt

pub changes_behind-left-requires-clause-one : goal.changes_behind-left-requires-clause-one
changes_behind-left-requires-clause-one c = c.next_place-at.ensures.found

pub overflow_cast-end : goal.overflow_cast-end
overflow_cast-end c =
    let f = set_of c.args.set.now in
    let words = c.row-words.result.now in
    let row : HoldRow f c.args.y words = record { samples = c.row-words.ensures.samples; clean = c.row-words.ensures.clean; size = omega (arith, c.row-words.ensures.length) } in
    let within = end_in_row f words c.cuts.at c.next_change-end.result c.args.y _ _ row c.cuts.invariant.row c.cuts-test.true c.next_change-end.ensures.next in
    let narrow = c.requires.narrow in
    omega arith

pub push_reserved-requires : goal.push_reserved-requires
push_reserved-requires c =
    let f = set_of c.args.set.now in
    let words = c.row-words.result.now in
    let row : HoldRow f c.args.y words = record { samples = c.row-words.ensures.samples; clean = c.row-words.ensures.clean; size = omega (arith, c.row-words.ensures.length) } in
    let left = room_left f words c.cuts.at c.args.y (length c.args.runs.now.items) (length c.cuts.runs.items) row c.cuts-test.true c.cuts.invariant.row in
    let all = c.cuts.invariant.room in
    let room = c.requires.room in
    omega (arith, c.cuts.runs.ok.0)

pub cuts-preserved : goal.cuts-preserved
cuts-preserved c =
    let f = set_of c.args.set.now in
    let words = c.row-words.result.now in
    let y = c.args.y in
    let at = c.cuts.at in
    let end = c.next_change-end.result in
    let next = c.next_change-at.result in
    let old = c.cuts.runs.items in
    let m = length c.args.runs.now.items in
    let run : Run = record { row = y; first = at; end = end } in
    let row : HoldRow f y words = record { samples = c.row-words.ensures.samples; clean = c.row-words.ensures.clean; size = omega (arith, c.row-words.ensures.length) } in
    let was = c.cuts.invariant.row in
    let ends = c.next_change-end.ensures.next in
    let begins = c.next_change-at.ensures.next in
    let size : length c.push_reserved.new.self.items ≡ length old + 1 = ap (λ (t : List Run). length t) c.push_reserved.ensures.items ∙ length_push old run in
    record {
      cutting = λ above before.
          subst (λ (t : List Run). RunsBefore f next y (above ++ t)) (sym c.push_reserved.ensures.items)
          (subst (λ (t : List Run). RunsBefore f next y t) (append_assoc above old (run ∷ []))
          (cutting_by f words at end next y m (length old) (above ++ old) run row refl refl refl was c.cuts-test.true ends begins (c.cuts.invariant.cutting above before)));
      row = subst (λ (t : ℕ). InRow f words next y m t) (sym size) (row_on f words at end next y m (length old) row was c.cuts-test.true ends begins);
      room = c.push_reserved.ensures.capacity ∙ c.cuts.invariant.room;
      left = c.next_change-at.ensures.left;
    }

pub cuts-smaller : goal.cuts-smaller
cuts-smaller c =
    let ends = c.next_change-end.ensures.next in
    let begins = c.next_change-at.ensures.next in
    let from = ends.from in
    let from' = begins.from in
    let within = begins.within in
    let some : c.cuts.at < c.next_change-end.result = elim (cases_lt c.next_change-end.result (64 * length c.row-words.result.now)) [ inl lt ↦ ends.later lt | inr past ↦ omega arith ] in
    omega arith

pub returns-clause-runs : goal.returns-clause-runs
returns-clause-runs c =
    let f = set_of c.args.set.now in
    let size : f.width ≤ 64 * length c.row-words.result.now = omega (arith, c.row-words.ensures.length) in
    λ above before. row_done f c.cuts.at c.args.y (above ++ c.cuts.runs.items) (omega arith) (c.cuts.invariant.cutting above before)
