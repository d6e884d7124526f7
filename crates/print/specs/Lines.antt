-- Lines that the judge prints: the values of a split, a refusal, a count.
use Rattle.std.specs.Prelude.{List, [], ◌∷◌, ◌++◌, ℕ}
use Rattle.model.specs.declared.Numbers.{Numbers}
use Rattle.print.specs.Decimal.{decimal, listed}

abbrev pub blank : ℕ
blank = 0x20

abbrev pub line_feed : ℕ
line_feed = 0x0A

-- "values "
abbrev pub values_word : List ℕ
values_word = 0x76 ∷ 0x61 ∷ 0x6C ∷ 0x75 ∷ 0x65 ∷ 0x73 ∷ 0x20 ∷ []

-- " default "
abbrev pub default_word : List ℕ
default_word = 0x20 ∷ 0x64 ∷ 0x65 ∷ 0x66 ∷ 0x61 ∷ 0x75 ∷ 0x6C ∷ 0x74 ∷ 0x20 ∷ []

-- "refused "
abbrev pub refused_word : List ℕ
refused_word = 0x72 ∷ 0x65 ∷ 0x66 ∷ 0x75 ∷ 0x73 ∷ 0x65 ∷ 0x64 ∷ 0x20 ∷ []

-- values N b0 .. default M c0 ..
unfoldable pub values_line : List ℕ → List ℕ → List ℕ
values_line allowed bare = values_word ++ (listed allowed ++ (default_word ++ (listed bare ++ (line_feed ∷ []))))

-- a word and three numbers, a blank between two
unfoldable pub three_line : List ℕ → ℕ → ℕ → ℕ → List ℕ
three_line word a b c = word ++ (decimal a ++ ((0x20 ∷ []) ++ (decimal b ++ ((0x20 ∷ []) ++ (decimal c ++ (line_feed ∷ []))))))

-- refused N A B
abbrev pub refused_line : Numbers → List ℕ
refused_line x = three_line refused_word x.n x.a x.b

-- a word and a count
unfoldable pub count_line : List ℕ → ℕ → List ℕ
count_line word n = word ++ (decimal n ++ (line_feed ∷ []))
