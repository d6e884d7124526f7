-- UTF-8: the Unicode Standard's table 3-7, well-formed byte sequences, and table 3-6, the code point that one stands for.
use Rattle.std.specs.Prelude.{Bool, ◌&&◌, List, [], ◌∷◌, ◌++◌, ◌≡◌, ℕ, zero, suc, ◌+◌, ◌-◌, ◌*◌, ◌/◌, ◌%◌, leb, drop, Result, Ok, Err}
use Rattle.lists.specs.Choose.{choose}
use Rattle.characters.specs.declared.utf8.Decoded.{Decoded}
use Rattle.characters.specs.declared.utf8.Decoded.TheVariants.{Char, IllFormed, End}

-- the numbers from the first to the second, both included
infix 20 ◌–◌
pub data Range : Type 0 where
  ◌–◌ : ℕ → ℕ → Range

abbrev pub in_range : Range → ℕ → Bool
in_range (lo – hi) b = leb lo b && leb b hi

-- a byte that follows
abbrev pub tail : Range
tail = 0x80 – 0xBF

-- the bytes that follow a first one, each in its range and each with six bits of the code point; n bytes so far
unfoldable pub more : List Range → ℕ → ℕ → List ℕ → Decoded
more [] code n s = Char code n
more (r ∷ rs) code n [] = IllFormed
more (r ∷ rs) code n (b ∷ s) = choose (in_range r b) (more rs (code * 64 + (b - 0x80)) (n + 1) s) IllFormed

-- a row of table 3-7: the first byte's range, what is taken off that byte (table 3-6), and the ranges of the bytes that follow
pub record Row : Type 0 where
  pub first : Range
  pub mark : ℕ
  pub rest : List Range

abbrev row : Range → ℕ → List Range → Row
row f m r = record { first = f; mark = m; rest = r }

abbrev pub table : List Row
table =
    row (0x00 – 0x7F) 0x00 []
    ∷ row (0xC2 – 0xDF) 0xC0 (tail ∷ [])
    ∷ row (0xE0 – 0xE0) 0xE0 ((0xA0 – 0xBF) ∷ tail ∷ [])
    ∷ row (0xE1 – 0xEC) 0xE0 (tail ∷ tail ∷ [])
    ∷ row (0xED – 0xED) 0xE0 ((0x80 – 0x9F) ∷ tail ∷ [])
    ∷ row (0xEE – 0xEF) 0xE0 (tail ∷ tail ∷ [])
    ∷ row (0xF0 – 0xF0) 0xF0 ((0x90 – 0xBF) ∷ tail ∷ tail ∷ [])
    ∷ row (0xF1 – 0xF3) 0xF0 (tail ∷ tail ∷ tail ∷ [])
    ∷ row (0xF4 – 0xF4) 0xF0 ((0x80 – 0x8F) ∷ tail ∷ tail ∷ [])
    ∷ []

-- the row whose first range has the byte decides
unfoldable pub by : List Row → ℕ → List ℕ → Decoded
unfolding more
by [] a s = IllFormed
by (r ∷ rs) a s = choose (in_range r.first a) (more r.rest (a - r.mark) 1 s) (by rs a s)

-- the first code point of a list of bytes
unfoldable pub decode : List ℕ → Decoded
unfolding by more
decode [] = End
decode (a ∷ s) = by table a s

-- a code point stands at a place of the bytes
pub record StandsAt (s : List ℕ) (at : ℕ) : Type 0 where
  pub code : ℕ
  pub bytes : ℕ
  pub decoded : decode (drop at s) ≡ Char code bytes

-- what follows a sequence at the front of a list: at a code point of n bytes, `rest` of the code point with n - 1 bytes to pass over; else `stop`
abbrev pub onward : {A : Type 0} → Decoded → A → (ℕ → ℕ → A) → A
onward (Char c n) stop rest = rest c (n - 1)
onward IllFormed stop rest = stop
onward End stop rest = stop

-- one sequence after another, from index `at` on: the index of the first that is ill-formed. `skip` counts the bytes of a sequence that are left
unfoldable pub check : ℕ → ℕ → List ℕ → Result (Unit {0}) ℕ
check skip at [] = (Ok tt)
check (suc skip) at (b ∷ s) = check skip (at + 1) s
check zero at (b ∷ s) = onward (decode (b ∷ s)) (Err at) (λ c skip. check skip (at + 1) s)

abbrev pub checked : List ℕ → Result (Unit {0}) ℕ
checked s = check 0 0 s

-- a check from one place answers what a check from the other does
abbrev pub SameCheck : List ℕ → ℕ → ℕ → Type 0
SameCheck s at to = check 0 at (drop at s) ≡ check 0 to (drop to s)

-- a check's answer: what follows for well-formed bytes, or for the index of the first ill-formed sequence
abbrev pub on_text : {A : Type 0} → Result (Unit {0}) ℕ → (ℕ → A) → A → A
on_text (Ok tt) bad a = a
on_text (Err at) bad a = bad at

-- the code points, up to the first ill-formed sequence
unfoldable pub read : ℕ → List ℕ → List ℕ
read skip [] = []
read (suc skip) (b ∷ s) = read skip s
read zero (b ∷ s) = onward (decode (b ∷ s)) [] (λ c skip. c ∷ read skip s)

abbrev pub codes : List ℕ → List ℕ
codes s = read 0 s

-- a code point's bytes: table 3-6
unfoldable pub encode : ℕ → List ℕ
encode c =
    choose (leb c 0x7F) (c ∷ [])
    (choose (leb c 0x7FF) ((0xC0 + c / 64) ∷ (0x80 + c % 64) ∷ [])
    (choose (leb c 0xFFFF) ((0xE0 + c / 4096) ∷ (0x80 + c / 64 % 64) ∷ (0x80 + c % 64) ∷ [])
    ((0xF0 + c / 262144 % 8) ∷ (0x80 + c / 4096 % 64) ∷ (0x80 + c / 64 % 64) ∷ (0x80 + c % 64) ∷ [])))

-- the bytes of code points
unfoldable pub encodes : List ℕ → List ℕ
encodes [] = []
encodes (c ∷ s) = encode c ++ encodes s
