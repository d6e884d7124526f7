-- `characters::white_space::trim_codes` meets its contract, by what its two callees ensure.
use Rattle.characters.proofs.white_space.PartLaws.{trimmed_both}
use Rattle.characters.proofs.white_space.trim_codes.Goals as goal

pub returns : goal.returns
returns c = trimmed_both _ c.codes_start-from.ensures.1 c.codes_end-to.ensures
