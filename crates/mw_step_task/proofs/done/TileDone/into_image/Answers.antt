use Rattle.std.proofs.Common.{◌≡◌, ◌≤◌, false, sym, subst, ◌∙◌, All}
use Rattle.std.specs.List.{AllByRecursion}
use Rattle.mw_model.specs.Pictures.{Picture}
use Rattle.mw_model.specs.Plans.{is_sum}
use Rattle.mw_step_task.specs.WindowTasks.{WindowTask, FitsStep, IsBounded, tile_made}
use Rattle.mw_step_task.specs.Products.{IsMade}
use Rattle.mw_step_task.specs.declared.tile_result.TileResult.{TileResult}
use Rattle.mw_step_task.specs.declared.tile_result.TileResult.TheVariants.{Bits, Grey8, Grey16}
use Rattle.mw_step_task.proofs.Bounded.{made_below}
use Rattle.mw_step_task.proofs.done.TileDone.into_image.Goals as goal

made_as : (t u : WindowTask) (m n : TileResult) → t ≡ u → m ≡ n → IsMade t m → IsMade u n
made_as t u m n task is made = subst (λ (k : TileResult). IsMade u k) is (subst (λ (r : WindowTask). IsMade r m) task made)

below : (t u : WindowTask) (f : Picture) → t ≡ u → FitsStep t.step t.rect t.windows → AllByRecursion IsBounded u.windows → is_sum u.step ≡ false → tile_made u ≡ f → All (λ n. n ≤ f.maxval) f.samples
below t u f task fits bounded plane is =
    let kinds = (subst (λ (r : WindowTask). FitsStep r.step r.rect r.windows) task fits).kinds in
    subst (λ (f : Picture). All (λ n. n ≤ f.maxval) f.samples) is (made_below u kinds bounded plane)

pub bits-requires : goal.bits-requires
bits-requires c =
    let made = made_as _ c.args.self _ (Bits c.in-Bits.plane) c.self.view_is c.in-Bits.is c.self.invariant in
    below _ c.args.self _ (c.work.view_is ∙ c.self.view_is) c.work.invariant c.requires.bounded c.requires.plane made.1

pub grey8-requires-clause-within : goal.grey8-requires-clause-within
grey8-requires-clause-within c =
    let made = made_as _ c.args.self _ (Grey8 c.in-Grey8.plane c.in-Grey8.maxval) c.self.view_is c.in-Grey8.is c.self.invariant in
    below _ c.args.self _ (c.work.view_is ∙ c.self.view_is) c.work.invariant c.requires.bounded c.requires.plane made.1.0

pub grey16-requires-clause-within : goal.grey16-requires-clause-within
grey16-requires-clause-within c =
    let made = made_as _ c.args.self _ (Grey16 c.in-Grey16.plane c.in-Grey16.maxval) c.self.view_is c.in-Grey16.is c.self.invariant in
    below _ c.args.self _ (c.work.view_is ∙ c.self.view_is) c.work.invariant c.requires.bounded c.requires.plane made.1.0

pub returns-in-Bits : goal.returns-in-Bits
returns-in-Bits c = c.bits.ensures ∙ sym (made_as _ c.args.self _ (Bits c.in-Bits.plane) c.self.view_is c.in-Bits.is c.self.invariant).1

pub returns-in-Grey8 : goal.returns-in-Grey8
returns-in-Grey8 c = c.grey8.ensures ∙ sym (made_as _ c.args.self _ (Grey8 c.in-Grey8.plane c.in-Grey8.maxval) c.self.view_is c.in-Grey8.is c.self.invariant).1.0

pub returns-in-Grey16 : goal.returns-in-Grey16
returns-in-Grey16 c = c.grey16.ensures ∙ sym (made_as _ c.args.self _ (Grey16 c.in-Grey16.plane c.in-Grey16.maxval) c.self.view_is c.in-Grey16.is c.self.invariant).1.0
