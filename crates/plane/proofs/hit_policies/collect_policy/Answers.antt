-- `plane::hit_policies::collect_policy` meets its contract.
use Rattle.plane.specs.hit_policies.Letters.{by_letters, same_text}
use Rattle.plane.proofs.hit_policies.LetterLaws.{no_sign}
use Rattle.plane.proofs.hit_policies.collect_policy.Goals as goal

pub returns-in-43 : goal.returns-in-43
unfolding by_letters same_text
returns-in-43 c = rw c.in-43.is

pub returns-in-35 : goal.returns-in-35
unfolding by_letters same_text
returns-in-35 c = rw c.in-35.is

pub returns-in-60 : goal.returns-in-60
unfolding by_letters same_text
returns-in-60 c = rw c.in-60.is

pub returns-in-62 : goal.returns-in-62
unfolding by_letters same_text
returns-in-62 c = rw c.in-62.is

pub returns-in_default : goal.returns-in_default
unfolding by_letters same_text
returns-in_default c = let r = c.in_default.in_default-own.rest in no_sign _ r.0.0.0.1 r.0.0.1 r.0.1 r.1
