-- `plane::hit_policies::letter_policy` meets its contract.
use Rattle.plane.specs.hit_policies.Letters.{by_letters, same_text}
use Rattle.plane.proofs.hit_policies.LetterLaws.{no_letter}
use Rattle.plane.proofs.hit_policies.letter_policy.Goals as goal

pub returns-in-85 : goal.returns-in-85
unfolding by_letters same_text
returns-in-85 c = rw c.in-85.is

pub returns-in-65 : goal.returns-in-65
unfolding by_letters same_text
returns-in-65 c = rw c.in-65.is

pub returns-in-80 : goal.returns-in-80
unfolding by_letters same_text
returns-in-80 c = rw c.in-80.is

pub returns-in-70 : goal.returns-in-70
unfolding by_letters same_text
returns-in-70 c = rw c.in-70.is

pub returns-in-82 : goal.returns-in-82
unfolding by_letters same_text
returns-in-82 c = rw c.in-82.is

pub returns-in-79 : goal.returns-in-79
unfolding by_letters same_text
returns-in-79 c = rw c.in-79.is

pub returns-in-67 : goal.returns-in-67
unfolding by_letters same_text
returns-in-67 c = rw c.in-67.is

pub returns-in_default : goal.returns-in_default
unfolding by_letters same_text
returns-in_default c = let r = c.in_default.in_default-own.rest in no_letter _ r.0.0.0.0.0.0.1 r.0.0.0.0.0.1 r.0.0.0.0.1 r.0.0.0.1 r.0.0.1 r.0.1 r.1
