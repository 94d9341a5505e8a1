use Rattle.std.proofs.lemmas.Result.{IfOk-weaker}
use Rattle.mw_plan.specs.Asked.{offsets_of_input}
use Rattle.mw_plan.specs.Steps.{IsChain, Makes, filtering}
use Rattle.mw_plan.proofs.OneImage.{chain_makes}
use Rattle.mw_plan.proofs.flat.opening_plan.Goals as goal

pub returns-clause-makes : goal.returns-clause-makes
returns-clause-makes c =
    let e = offsets_of_input c.args.b in
    IfOk-weaker c.chain.result (IsChain c.args.extremum e) (Makes 2 (filtering c.args.extremum e)) (chain_makes c.args.extremum e) c.chain.ensures
