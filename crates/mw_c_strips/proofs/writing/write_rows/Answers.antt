use Rattle.mw_c_strips.proofs.writing.write_rows.Goals as goal

pub end_of-end-requires : goal.end_of-end-requires
end_of-end-requires g c = record { sound = c.requires.sound; rows = c.requires.rows }
