-- Emphasis: the marks ** __ * _ ` of document 01, and `utils.rs` of the Rust.
use Rattle.std.specs.Prelude.{Bool, true, false, ◌&&◌, List, [], ◌∷◌, ℕ, zero, suc, ◌+◌, ◌-◌, eqb, leb, length, take, drop}
use Rattle.lists.specs.Choose.{choose}
use Rattle.characters.specs.white_space.Trim.{trim_start_utf8, trim_utf8}
use Rattle.values.specs.emphasis.Commas.{parts}

-- s starts with p
unfoldable pub starts_with : List ℕ → List ℕ → Bool
starts_with [] s = true
starts_with (a ∷ p) [] = false
starts_with (a ∷ p) (b ∷ s) = eqb b a && starts_with p s

-- s ends with e
unfoldable pub ends_with : List ℕ → List ℕ → Bool
ends_with e s = leb (length e) (length s) && starts_with e (drop (length s - length e) s)

-- s without all repetitions of e in front; `skip` counts what is left of an e
unfoldable pub strip_start : ℕ → List ℕ → List ℕ → List ℕ
strip_start skip e [] = []
strip_start (suc skip) e (c ∷ s) = strip_start skip e s
strip_start zero e (c ∷ s) = choose (starts_with e (c ∷ s)) (strip_start (length e - 1) e s) (c ∷ s)

-- s without all repetitions of e at the end, of which there are at most n
unfoldable pub strip_end : ℕ → List ℕ → List ℕ → List ℕ
strip_end zero e s = s
strip_end (suc n) e s = choose (ends_with e s) (strip_end n e (take (length s - length e) s)) s

-- first in front, then at the end
unfoldable pub strip : List ℕ → List ℕ → List ℕ
strip e s = strip_end (length (strip_start 0 e s)) e (strip_start 0 e s)

-- ** __ * _ `
abbrev pub marks : List (List ℕ)
marks = (0x2A ∷ 0x2A ∷ []) ∷ (0x5F ∷ 0x5F ∷ []) ∷ (0x2A ∷ []) ∷ (0x5F ∷ []) ∷ (0x60 ∷ []) ∷ []

-- no part stands in emphasis; or the first that does, with its bare text and the place of that
pub data Choice : Type 0 where
  plain : Choice
  marked : (place : ℕ) (part bare : List ℕ) → Choice

-- the place counted from n bytes in front
abbrev pub placed : ℕ → Choice → Choice
placed n plain = plain
placed n (marked place part bare) = marked (n + place) part bare

abbrev pub or_else : Choice → Choice → Choice
or_else plain y = y
or_else (marked place part bare) y = marked place part bare

-- a part that begins and ends with one of some marks, the first such mark counting. (The two may overlap.)
unfoldable pub emphasised : List (List ℕ) → List ℕ → Choice
emphasised [] p = plain
emphasised (e ∷ es) p =
    choose (starts_with e p && ends_with e p) (marked (length p - length (strip_start 0 e p)) p (strip e p)) (emphasised es p)

-- the first of some parts that, trimmed, stands in emphasis; the first part has n bytes in front of it
unfoldable pub first_marked : ℕ → List (List ℕ) → Choice
first_marked n [] = plain
first_marked n (p ∷ ps) =
    or_else (placed (n + (length p - length (trim_start_utf8 p))) (emphasised marks (trim_utf8 p))) (first_marked (n + length p + 1) ps)

-- the part of a text that decides
abbrev pub choice_of : List ℕ → Choice
choice_of t = first_marked 0 (parts t)
