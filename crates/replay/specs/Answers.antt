-- The answers to lines.
use Rattle.std.specs.Prelude.{Bool, true, false, List, [], ◌∷◌, ◌++◌, ◌⊎◌, ◌≡◌, ℕ, ◌+◌, ◌<◌, length, drop, Option, None, Some}
use Rattle.std.specs.Option.{option_map}
use Rattle.policies.specs.DrawnPolicy.{walked_policy}
use Rattle.print.specs.Decimal.{Written}
use Rattle.print.specs.Lines.{line_feed}
use Rattle.answers.specs.lent_lists.LentText.{◌>>=◌, lent_in}
use Rattle.answers.specs.lines.Texts.{before, text_of}
use Rattle.answers.specs.drawings.DrawingLines.{drawing_lines}
use Rattle.answers.specs.lines.Room.{line_bytes}
use Rattle.answers.specs.SplitLines.{split_line}
use Rattle.reports.specs.outcome_lines.PolicyLines.{record_bytes, policy_lines}
use Rattle.answers.specs.lent_answers.Lines.{lines_by}
use Rattle.answers.specs.declared.lent_answers.Asked.TheVariants.{Upright, Record}
use Rattle.replay.specs.Kinds.{kind_of, word_of, rest_of}
use Rattle.replay.specs.declared.Kind.{Kind}
use Rattle.replay.specs.declared.Kind.TheVariants.{Split, Drawing, Plane, Sheet, Table}

-- the lines of a sheet's record, or of its refusal
abbrev pub sheet_lines : List ℕ → List ℕ
sheet_lines s = policy_lines record_bytes (walked_policy s)

-- the answer to a text by its kind, with a scratch slice of so many bytes
abbrev pub text_answer : Kind → ℕ → List ℕ → Option (List ℕ)
text_answer Split room t = Some (split_line room t)
text_answer Drawing room t = Some (drawing_lines t)
text_answer Plane room t = option_map (lines_by Upright) (lent_in t)
text_answer Sheet room t = Some (sheet_lines t)
text_answer Table room t = option_map (lines_by Record) (lent_in t)

-- the answer to what stands behind a kind: the text there may be absent
abbrev pub answer_by : Kind → ℕ → List ℕ → Option (List ℕ)
answer_by kind room s = ◌>>=◌ (text_of room s) (text_answer kind room)

-- the answer to a line without its line feed, if it is none that is malformed
unfoldable pub answer_of : ℕ → List ℕ → Option (List ℕ)
answer_of room line = ◌>>=◌ (kind_of (word_of line)) (λ kind. answer_by kind room (rest_of line))

-- the answers to whole lines, one after the other
pub data Replayed (room : ℕ) : List ℕ → List ℕ → Type 0 where
  nothing : Replayed room [] []
  line : {lines answers : List ℕ} (l a : List ℕ) → Replayed room lines answers → answer_of room l ≡ Some a
      → Replayed room (lines ++ (l ++ (line_feed ∷ []))) (answers ++ a)

-- what became of the bytes `old` where x answers: the answer stands behind them; or there is none, and they are as they were
abbrev pub AnsweredIn : Option (Unit {0}) → Option (List ℕ) → List ℕ → List ℕ → Type 0
AnsweredIn (Some tt) x old new = (a : List ℕ) × ((x ≡ Some a) × Written old new a line_bytes)
AnsweredIn None x old new = (x ≡ None) × (new ≡ old)

-- why answering stopped at a place of the input, with the answers o and room for `most` bytes: the line there has no answer; or no whole line is left, or little room
abbrev pub Stopped : Bool → ℕ → List ℕ → ℕ → ℕ → List ℕ → Type 0
Stopped false room s at most o = answer_of room (before line_feed (drop at s)) ≡ None
Stopped true room s at most o = (before line_feed (drop at s) ≡ drop at s) ⊎ (most < length o + line_bytes)
