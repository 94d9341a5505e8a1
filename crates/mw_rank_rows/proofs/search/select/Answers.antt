use Rattle.mw_rank_rows.proofs.search.select.Goals as goal

pub raise-raised-requires-clause-held : goal.raise-raised-requires-clause-held
raise-raised-requires-clause-held c =
    let held = c.requires.held in
    (held.0, held.1, c.lower-lowered.ensures.counts held.0 held.1 held.2, held.3)

pub scan-found-requires-clause-held : goal.scan-found-requires-clause-held
scan-found-requires-clause-held c =
    let held = c.requires.held in
    (held.0, held.1, c.raise-raised.ensures.counts held.0 held.1 (c.lower-lowered.ensures.counts held.0 held.1 held.2), held.3)

pub returns-clause-counts : goal.returns-clause-counts
returns-clause-counts c = λ levels u t. c.raise-raised.ensures.counts levels u (c.lower-lowered.ensures.counts levels u t)

pub returns-clause-found : goal.returns-clause-found
returns-clause-found c = λ levels u t. c.scan-found.ensures.found levels u (c.raise-raised.ensures.counts levels u (c.lower-lowered.ensures.counts levels u t))
