-- The numbers that tell an outcome: document 01, "If an answer is an enum, a definition lists this paper's number and values for each of its cases".
use Rattle.std.specs.Prelude.{List, ◌≡◌, ℕ, length, Option, None, Some, Ok, Err}
use Rattle.model.specs.Refusals.{numbers, Reading}
use Rattle.model.specs.declared.Refusal.{Refusal}
use Rattle.values.specs.utils.Split.{split_of, scratch_of, answered, Places}
use Rattle.values.specs.declared.Rewritten.{Rewritten}
use Rattle.builder.specs.declared.numbers.Answer.{Answer}
use Rattle.builder.specs.declared.numbers.SplitAnswer.{SplitAnswer}

-- N, A and B
abbrev pub refusal_answer : Refusal → Answer
refusal_answer r = record { n = (numbers r).n; a = (numbers r).a; b = (numbers r).b }

-- a record is number 0, with its total bytes
abbrev pub answer_of : Reading ℕ → Answer
answer_of (Ok total) = record { n = 0; a = total; b = 0 }
answer_of (Err r) = refusal_answer r

-- the value split: the text itself, the places of rewritten values, or a refusal
abbrev pub split_answer : Reading (Option Rewritten) → SplitAnswer
split_answer (Ok None) = record { n = 0; a = 0; b = 0; rewritten = 0; length = 0; from = 0; to = 0 }
split_answer (Ok (Some r)) = record { n = 0; a = 0; b = 0; rewritten = 1; length = r.bytes; from = r.from; to = r.to }
split_answer (Err r) = record { n = (numbers r).n; a = (numbers r).a; b = (numbers r).b; rewritten = 0; length = 0; from = 0; to = 0 }

-- what the split's numbers tell, with the scratch slice before and after
pub record SplitTold (r : SplitAnswer) (text scratch after : List ℕ) : Type 0 where
  pub split : Reading (Option Rewritten)
  pub told : r ≡ split_answer split
  pub answer : answered split text after ≡ split_of text (length scratch)
  pub places : Places split text after
  pub changed : after ≡ scratch_of text scratch
