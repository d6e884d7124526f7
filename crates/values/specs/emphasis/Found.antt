-- What the functions of the crate answer: no caller of the value split needs these.
use Rattle.std.specs.Prelude.{List, [], ◌∷◌, ◌≡◌, ℕ, ◌+◌, ◌-◌, ◌≤◌, ◌<◌, ltb, length, take, drop, Option, None, Some}
use Rattle.lists.specs.Choose.{choose}
use Rattle.values.specs.emphasis.Commas.{parts}
use Rattle.values.specs.emphasis.Emphasis.{Choice, plain, marked, choice_of}
use Rattle.values.specs.declared.emphasis.Found.{Found}
use Rattle.characters.specs.declared.white_space.Part.{Part}

-- the parts behind a comma at index r; none where the text ends there
abbrev pub parts_behind : List ℕ → ℕ → List (List ℕ)
parts_behind s r = choose (ltb r (length s)) (parts (drop (r + 1) s)) []

-- the first part from `at` on ends at r
pub record PartEnd (s : List ℕ) (at r : ℕ) : Type 0 where
  pub low : at ≤ r
  pub high : r ≤ length s
  pub same : parts (drop at s) ≡ take (r - at) (drop at s) ∷ parts_behind s r

-- the part p stands without its emphasis at m
pub record Bare (p : List ℕ) (c : Choice) (m : Part) : Type 0 where
  pub choice : c ≡ marked m.from p (take (m.to - m.from) (drop m.from p))
  pub ordered : m.from ≤ m.to
  pub inside : m.to ≤ length p

-- where it does, if it has an emphasis
abbrev pub MarkOf : List ℕ → Choice → Option Part → Type 0
MarkOf p c None = c ≡ plain
MarkOf p c (Some m) = Bare p c m

-- the first part in emphasis stands at `from` up to `to`, and its bare text at a up to b
pub record Emphasised (t : List ℕ) (f : Found) : Type 0 where
  pub choice : choice_of t ≡ marked f.a (take (f.to - f.from) (drop f.from t)) (take (f.b - f.a) (drop f.a t))
  pub low : f.from ≤ f.a
  pub ordered : f.a ≤ f.b
  pub high : f.b ≤ f.to
  pub inside : f.to ≤ length t
  pub some : f.from < f.to

-- where the first one does, if there is one
abbrev pub FoundIn : List ℕ → Option Found → Type 0
FoundIn t None = choice_of t ≡ plain
FoundIn t (Some f) = Emphasised t f
