use Rattle.std.proofs.Common.{◌++◌, ap, length}
use Rattle.std.proofs.lemmas.List.{drop-replicate}
use Rattle.mw_model.proofs.names.padded_bytes.Goals as goal

pub returns : goal.returns
returns c = rw c.copy_from_slice.ensures.after (ap (λ l. c.args.text.now ++ l) (drop-replicate (length c.args.text.now) 32 0))
