-- `characters::white_space::trim_codes_part` meets its contract. A part of a part is a part.
use Rattle.characters.proofs.white_space.PartLaws.{part_in}
use Rattle.characters.proofs.white_space.trim_codes_part.Goals as goal

pub returns : goal.returns
returns c = rw (c.behind.ensures.0, c.behind.ensures.1) (part_in c.requires c.trim_codes.ensures)
