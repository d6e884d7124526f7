-- Lines that are being answered.
use Rattle.std.specs.Prelude.{Option, ℕ, Some, None}
use mathlib.Core.Path.{◌≡◌, refl, sym, ap, subst, ◌∙◌}
use mathlib.Core.Bool.{true}
use mathlib.Core.List.{List, [], ◌∷◌, ◌++◌}
use mathlib.Core.Logic.{inl, inr}
use Prim.Native.Nat.{ℕ, suc, ◌+◌, ◌-◌, ◌≤◌, ◌<◌}
use native.Mathlib.Omega.{arith}
use lib.ListN.{length, take, drop, drop_of_length-le}
use lib.Seq.{take-add, length-take-le}
use Rattle.lists.proofs.Parts.{at_cons, part_add, part_end}
use Rattle.model.specs.Limits.{text_bytes}
use Rattle.plane.specs.numerals.RuleNumbers.{number_of}
use Rattle.print.specs.Lines.{blank, line_feed}
use Rattle.answers.specs.lent_lists.LentText.{◌>>=◌}
use Rattle.answers.specs.lines.Texts.{before, FirstAt, text_of}
use Rattle.answers.specs.lines.Room.{line_bytes}
use Rattle.replay.specs.Answers.{text_answer, answer_by, answer_of, AnsweredIn, Replayed, nothing, line, Stopped}
use Rattle.replay.specs.Kinds.{kind_of, word_of, rest_of}
use Rattle.replay.specs.declared.Kind.{Kind}

-- the answer to a text by a kind, where it is known
pub by_kind : (t : List ℕ) {k K : Kind} → k ≡ K → text_answer k text_bytes t ≡ text_answer K text_bytes t
by_kind t e = ap (λ (k : Kind). text_answer k text_bytes t) e

-- the answer to what stands behind a kind, where there is a text, and where there is none
pub by_text : (k : Kind) (s : List ℕ) {t : List ℕ} → text_of text_bytes s ≡ Some t → text_answer k text_bytes t ≡ answer_by k text_bytes s
by_text k s e = rw e refl

pub no_text : (k : Kind) (s : List ℕ) → text_of text_bytes s ≡ None → answer_by k text_bytes s ≡ None
no_text k s e = rw e refl

pub answered_as : (r : Option (Unit {0})) {x y : Option (List ℕ)} (d o : List ℕ) → AnsweredIn r x d o → x ≡ y → AnsweredIn r y d o
answered_as r {x} {y} d o a e = subst (λ (x : Option (List ℕ)). AnsweredIn r x d o) e a

-- a line's answer is that of its kind to what stands behind the kind
module _ {line : List ℕ} {end : ℕ} (f : FirstAt line 0 blank end) where
  word_long : length (before blank line) ≡ end
  word_long =
      let z : end - 0 ≡ end = omega arith in
      ap length (sym f.same) ∙ length-take-le (end - 0) line (omega (arith, f.high)) ∙ z

  pub answer-is : {K : Kind} → Some K ≡ kind_of (take (end - 0) (drop 0 line))
      → answer_by K text_bytes (take (length line - (end + 1)) (drop (end + 1) line)) ≡ answer_of text_bytes line
  unfolding answer_of
  answer-is {K} e =
      let z : suc (length (before blank line)) ≡ end + 1 = omega (arith, word_long) in
      let w : kind_of (word_of line) ≡ Some K = ap kind_of (sym f.same) ∙ sym e in
      ap (answer_by K text_bytes) (part_end line (end + 1)) ∙ sym (rw (w, z))

  pub no_kind : None ≡ kind_of (take (end - 0) (drop 0 line)) → answer_of text_bytes line ≡ None
  unfolding answer_of
  no_kind e =
      let w : kind_of (word_of line) ≡ None = ap kind_of (sym f.same) ∙ sym e in
      rw w

  pub no_rest : end ≡ length line → answer_of text_bytes line ≡ None
  unfolding answer_of text_of before number_of
  no_rest e =
      let z : length line ≤ suc (length (before blank line)) = omega (arith, word_long) in
      go (drop_of_length-le line z) (kind_of (word_of line))
    where
      go : rest_of line ≡ [] → (x : Option Kind) → ◌>>=◌ x (λ kind. answer_by kind text_bytes (rest_of line)) ≡ None
      go d None = refl
      go d (Some k) = ap (answer_by k text_bytes) d

-- the lines of the input up to `at` are answered
pub record Answering (input out : List ℕ) (at : ℕ) : Type 0 where
  pub inside : at ≤ length input
  pub done : Replayed text_bytes (take at input) out

pub answering_start : {input out : List ℕ} → out ≡ [] → Answering input out 0
answering_start e = rw e (record { inside = omega arith; done = nothing })

-- what is promised of the answers, where they end at a place of the input and no line was malformed
abbrev pub Ended : List ℕ → ℕ → ℕ → List ℕ → Type 0
Ended input at most out =
    Replayed text_bytes (take at input) out × ((at ≤ length input) × Stopped true text_bytes input at most out)

-- a line with its line feed
whole : {s : List ℕ} {at end : ℕ} → FirstAt s at line_feed end → end < length s → take (end + 1) s ≡ take at s ++ (take (end - at) (drop at s) ++ (line_feed ∷ []))
whole {s} {at} {end} f l =
    let e : end + 1 ≡ at + (end + 1 - at) = omega (arith, f.low) in
    ap (λ (n : ℕ). take n s) e ∙ take-add at (end + 1 - at) s
    ∙ ap (λ (x : List ℕ). take at s ++ x) (part_add s at end 1 f.low ∙ ap (λ (x : List ℕ). take (end - at) (drop at s) ++ x) (rw (at_cons s end 0 l, f.ends l)))

module _ {input out : List ℕ} {at : ℕ} (q : Answering input out at) (r : Option (Unit {0})) (o l : List ℕ) (a : AnsweredIn r (answer_of text_bytes l) out o)
    {end : ℕ} (f : FirstAt input at line_feed end) (g : l ≡ take (end - at) (drop at input)) where
  pub answering_more : end < length input → r ≡ Some tt → Answering input o (end + 1)
  answering_more h e =
      let b : AnsweredIn (Some tt) (answer_of text_bytes l) out o = subst (λ (r : Option (Unit {0})). AnsweredIn r (answer_of text_bytes l) out o) e a in
      let x : o ≡ out ++ b.0 = b.1.1.same in
      let y : take (end + 1) input ≡ take at input ++ (l ++ (line_feed ∷ [])) = whole f h ∙ ap (λ (z : List ℕ). take at input ++ (z ++ (line_feed ∷ []))) (sym g) in
      record { inside = omega arith; done = rw (x, y) (line l b.0 q.done b.1.0) }

  pub answering_stop : r ≡ None → Replayed text_bytes (take at input) o × ((at ≤ length input) × (answer_of text_bytes (before line_feed (drop at input)) ≡ None))
  answering_stop e =
      let b : AnsweredIn None (answer_of text_bytes l) out o = subst (λ (r : Option (Unit {0})). AnsweredIn r (answer_of text_bytes l) out o) e a in
      let t : answer_of text_bytes (before line_feed (drop at input)) ≡ None = ap (answer_of text_bytes) (sym f.same ∙ sym g) ∙ b.0 in
      rw b.1 (q.done, (q.inside, t))

-- the answers end where no whole line is left, or where there is little room
module _ {input out : List ℕ} {at most : ℕ} (q : Answering input out at) where
  pub answering_last : {end : ℕ} → FirstAt input at line_feed end → end ≡ length input → Ended input at most out
  answering_last {end} f h =
      let e : before line_feed (drop at input) ≡ drop at input = sym f.same ∙ rw h (part_end input at) in
      (q.done, (q.inside, inl e))

  pub answering_full : most < length out + line_bytes → Ended input at most out
  answering_full h = (q.done, (q.inside, inr h))

  pub answering_end : length input ≤ at → Ended input at most out
  unfolding before
  answering_end h =
      let e : before line_feed (drop at input) ≡ drop at input = rw (drop_of_length-le input h) in
      (q.done, (q.inside, inl e))

-- between two turns: so many bytes of the input wait
pub record Between (input₀ input : List ℕ) (count : ℕ) : Type 0 where
  pub waiting : count ≤ length input
  pub long : length input ≡ length input₀
