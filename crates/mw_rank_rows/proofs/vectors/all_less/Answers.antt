use Rattle.std.proofs.Common.{ltb}
use borrow.Author.Tests.{ltb-true}
use Rattle.std.proofs.lemmas.Bool.{lt-ltb}
use Rattle.std.specs.Int.{w16}
use Rattle.mw_rank_rows.proofs.Eights.{all_tests}
use Rattle.mw_rank_rows.proofs.vectors.all_less.Goals as goal

pub returns : goal.returns
returns c =
    let both = all_tests w16 ltb c.args.a c.args.b c.requires.first c.requires.second in
    ((λ yes j lt. ltb-true _ _ (both.0 yes j lt)), (λ less. both.1 (λ j lt. lt-ltb _ _ (less j lt))))
