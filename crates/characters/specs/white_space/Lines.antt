-- Lines of a text: cut at each line feed, trimmed, blank ones dropped. (A carriage return before the line feed is white space.)
use Rattle.std.specs.Prelude.{List, [], ◌∷◌, ◌≡◌, ℕ, ◌≤◌, ◌<◌, eqb, length, take, drop}
use Rattle.lists.specs.Choose.{choose}
use Rattle.characters.specs.white_space.Trim.{trim}
use Rattle.characters.specs.utf8.Utf8.{codes, SameCheck}

-- c in front of the first line
abbrev pub join : ℕ → List (List ℕ) → List (List ℕ)
join c [] = (c ∷ []) ∷ []
join c (l ∷ ls) = (c ∷ l) ∷ ls

-- the lines, each up to a line feed or the end
unfoldable pub lines : List ℕ → List (List ℕ)
lines [] = []
lines (c ∷ s) = choose (eqb c 0x0A) ([] ∷ lines s) (join c (lines s))

-- a text in front of others, unless it is empty
abbrev pub kept : List ℕ → List (List ℕ) → List (List ℕ)
kept [] ts = ts
kept (c ∷ t) ts = (c ∷ t) ∷ ts

-- the lines trimmed, without blank ones
unfoldable pub texts : List (List ℕ) → List (List ℕ)
texts [] = []
texts (l ∷ ls) = kept (trim l) (texts ls)

-- the first line, and what follows its line feed
unfoldable pub line : List ℕ → List ℕ
line [] = []
line (c ∷ s) = choose (eqb c 0x0A) [] (c ∷ line s)

unfoldable pub after : List ℕ → List ℕ
after [] = []
after (c ∷ s) = choose (eqb c 0x0A) s (after s)

-- a text's first code point, 0 where it has none
abbrev pub first_of : List ℕ → ℕ
first_of [] = 0
first_of (c ∷ s) = c

-- its last code point
unfoldable pub last_of : List ℕ → ℕ
last_of [] = 0
last_of (c ∷ []) = c
last_of (c ∷ d ∷ s) = last_of (d ∷ s)

-- the trimmed text of the line at a place of the bytes
abbrev pub line_text : List ℕ → ℕ → List ℕ
line_text s at = trim (line (codes (drop at s)))

-- some code points from a place of the bytes on
abbrev pub codes_at : List ℕ → ℕ → ℕ → List ℕ
codes_at s from count = take count (codes (drop from s))

-- what reading the line at `at` finds: its trimmed text stands at `from` and has `count` code points, the last of which is `last`; the next line starts at `next`
pub record LineAt (s : List ℕ) (at from count last next : ℕ) : Type 0 where
  pub text : codes_at s from count ≡ line_text s at
  pub counted : count ≡ length (line_text s at)
  pub lasting : last ≡ last_of (line_text s at)
  pub onward : codes (drop next s) ≡ after (codes (drop at s))
  pub inside : next ≤ length s
  pub further : at < length s → at < next

-- what reading the head of the line at `at` finds: its trimmed text begins with `first`, and the next line starts at `next`
pub record HeadAt (s : List ℕ) (at first next : ℕ) : Type 0 where
  pub heading : first ≡ first_of (line_text s at)
  pub onward : codes (drop next s) ≡ after (codes (drop at s))
  pub inside : next ≤ length s
  pub further : at < length s → at < next

-- what reading from `at` up to `next` tells of UTF-8: a check goes on at `valid`, which is `next` where more is left to read
pub record ValidTo (s : List ℕ) (at next valid : ℕ) : Type 0 where
  pub same : SameCheck s at valid
  pub level : next < length s → valid ≡ next
