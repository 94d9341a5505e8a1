use Rattle.std.proofs.Common.{leb}
use borrow.Author.Tests.{leb-true}
use Rattle.std.proofs.lemmas.Bool.{le-leb}
use Rattle.std.specs.Int.{w16}
use Rattle.mw_rank_rows.proofs.Eights.{all_tests}
use Rattle.mw_rank_rows.proofs.vectors.none_less.Goals as goal

pub returns : goal.returns
returns c =
    let both = all_tests w16 leb c.args.b c.args.a c.requires.second c.requires.first in
    ((λ yes j lt. leb-true _ _ (both.0 yes j lt)), (λ less. both.1 (λ j lt. le-leb _ _ (less j lt))))
