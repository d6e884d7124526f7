-- `characters::white_space::white_space` meets its contract.
use native.Mathlib.Omega.{arith}
use Rattle.characters.proofs.white_space.WhiteLaws.{dark_ascii, dark_low, white-blank, white-high, white_low}
use Rattle.characters.proofs.white_space.white_space.Goals as goal

pub returns-then-c-gt8287 : goal.returns-then-c-gt8287
returns-then-c-gt8287 c = white-high _ (omega arith)

pub returns-then-c-lt133 : goal.returns-then-c-lt133
returns-then-c-lt133 c = dark_ascii _ (omega arith) (omega arith)

pub returns-then-c-gt32 : goal.returns-then-c-gt32
returns-then-c-gt32 c = c.listed.ensures

pub returns-then-c-eq32 : goal.returns-then-c-eq32
returns-then-c-eq32 c = white-blank _ c.if-c-eq32.true

pub returns-then-c-lt9 : goal.returns-then-c-lt9
returns-then-c-lt9 c = dark_low _ (omega arith)

pub returns : goal.returns
returns c = white_low _ (omega arith) (omega arith)
