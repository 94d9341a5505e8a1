use Rattle.mw_line_lent.proofs.tiles.put_with_room.Goals as goal

pub begin_lines-requires-clause-part : goal.begin_lines-requires-clause-part
begin_lines-requires-clause-part g c = c.requires.part.within
