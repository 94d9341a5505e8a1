-- Calls that come one after another make a run.
use Rattle.std.proofs.Common.{List, [], ◌∷◌, ◌++◌, None, refl, arith}
use Rattle.std.specs.List.{IsDistinct}
use Rattle.std.proofs.lemmas.Map.Keys.{IsDistinct-cons, IsDistinct-from_apart}
use Rattle.std.proofs.lemmas.Int.{ints}
use Rattle.mw_model.specs.declared.calls.Call.TheVariants as call
use Rattle.mw_model.specs.declared.calls.Reply.TheVariants as reply
use Rattle.mw_model.specs.declared.calls.LogItem.{LogItem}
use Rattle.mw_model.specs.declared.calls.LogItem.TheVariants as item
use Rattle.mw_model.specs.Pictures.{IsPicture, IsImage}
use Rattle.mw_model.specs.Elements.{same_offset, IsFigure}
use Rattle.mw_model.specs.Refusals.{ticket_of}
use Rattle.mw_model.specs.Machine.{Machine, Run, start_state, after, CanFinish, CanDie}
use Rattle.mw_model_laws.specs.MachineExamples.{Arrival, AreWithPayloads, logged, state_after, named, five_in_a_row, three_in_a_row, two_runs, finished_erosion, starved_erosion}
use Rattle.mw_model_laws.proofs.RunReplay.{run_join}

pub calls_run : (m : Machine) (arrivals : List Arrival) → AreWithPayloads arrivals → Run m (logged m arrivals) (state_after m arrivals)
calls_run m [] h = refl
calls_run m (q ∷ arrivals) h = (after m q.call q.payload, (q.payload, h.0, refl, refl), calls_run (after m q.call q.payload) arrivals h.1)

five_picture : IsPicture five_in_a_row
five_picture = search arith

five_image : IsImage five_in_a_row
five_image = record { picture = five_picture; maxval = (omega arith, omega arith); width = (omega arith, omega arith); height = (omega arith, omega arith); area = omega arith }

-- no offset stands twice
three_distinct : IsDistinct same_offset three_in_a_row.offsets
three_distinct = IsDistinct-cons same_offset _ _ (refl, (refl, tt)) (IsDistinct-cons same_offset _ _ (refl, tt) (IsDistinct-cons same_offset _ _ tt (IsDistinct-from_apart same_offset [] (λ i j d p q. absurd (omega arith)))))

three_figure : IsFigure three_in_a_row
three_figure = record {
  distinct = three_distinct;
  some = λ h. cc;
  near = (record { left = omega (arith, ints); right = omega (arith, ints); top = omega (arith, ints); bottom = omega (arith, ints) }, (record { left = omega (arith, ints); right = omega (arith, ints); top = omega (arith, ints); bottom = omega (arith, ints) }, (record { left = omega (arith, ints); right = omega (arith, ints); top = omega (arith, ints); bottom = omega (arith, ints) }, tt)));
  sides = record { some_column = omega arith; some_row = omega arith; narrow = omega arith; low = omega arith };
}

two_runs_start : Run start_state (logged start_state two_runs) (state_after start_state two_runs)
two_runs_start = calls_run start_state two_runs ((five_in_a_row, refl, five_image, refl), ((three_in_a_row, refl, three_figure, refl), (refl, (refl, tt))))

pub erosion_run : Run start_state (logged start_state two_runs ++ item.Finished 2 ∷ item.Call (call.Fetch (named "a")) (reply.Shown 2) ∷ item.Call (call.Status (named "c")) (reply.Pending 3) ∷ []) finished_erosion
unfolding ticket_of
erosion_run =
    let m = state_after start_state two_runs in
    let can : CanFinish m.table 2 = record { within = omega arith; pending = refl; inputs_there = (refl, (refl, tt)) } in
    let rest : List LogItem = item.Finished 2 ∷ item.Call (call.Fetch (named "a")) (reply.Shown 2) ∷ item.Call (call.Status (named "c")) (reply.Pending 3) ∷ [] in
    run_join (logged start_state two_runs) rest start_state m finished_erosion two_runs_start
    (finished_erosion, (can, refl), (finished_erosion, (None, refl, refl, refl), (finished_erosion, (None, refl, refl, refl), refl)))

pub starving_run : Run start_state (logged start_state two_runs ++ item.Killed 2 ∷ []) starved_erosion
unfolding ticket_of
starving_run =
    let m = state_after start_state two_runs in
    let can : CanDie m.table 2 = record { within = omega arith; pending = refl } in
    let rest : List LogItem = item.Killed 2 ∷ [] in
    run_join (logged start_state two_runs) rest start_state m starved_erosion two_runs_start (starved_erosion, (can, refl), refl)
