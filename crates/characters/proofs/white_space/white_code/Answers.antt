-- `characters::white_space::white_code` meets its contract.
use Rattle.characters.proofs.white_space.WhiteLaws.{white-blank}
use Rattle.characters.proofs.white_space.white_code.Goals as goal

pub returns-then-c-eq32 : goal.returns-then-c-eq32
returns-then-c-eq32 c = white-blank _ c.if-c-eq32.true

pub returns : goal.returns
returns c = c.white_space.ensures
