-- Laws of words: a word's bytes give its number, where that fits 32 bits.
use mathlib.Core.Path.{◌≡◌, refl, ◌∙◌}
use mathlib.Core.List.{List, [], ◌∷◌, ◌++◌}
use Prim.Native.Nat.{ℕ, ◌+◌, ◌*◌, ◌/◌, ◌%◌, ◌^◌, ◌<◌}
use native.Mathlib.Omega.{arith}
use lib.ListN.{length}
use Rattle.record.specs.Record.{word, words}
use Rattle.record.specs.Compared.{word_at}

-- two numbers with the same last byte and the same rest
digit : (x y : ℕ) → x % 256 ≡ y % 256 → x / 256 ≡ y / 256 → x ≡ y
digit x y h q = omega arith

second : (x : ℕ) → x / 65536 ≡ x / 256 / 256
second x = omega arith

third : (x : ℕ) → x / 16777216 ≡ x / 65536 / 256
third x = omega arith

last : (x : ℕ) → x < 2 ^ 32 → x / 16777216 ≡ x / 16777216 % 256
last x h = omega arith

-- a list that begins with a word: the word
pub word_inj : (a b : ℕ) (x y : List ℕ) → a < 2 ^ 32 → b < 2 ^ 32 → word a ++ x ≡ word b ++ y → a ≡ b
word_inj a b x y ha hb e =
    let e0 : a % 256 ≡ b % 256 = cc in
    let e1 : a / 256 % 256 ≡ b / 256 % 256 = cc in
    let e2 : a / 65536 % 256 ≡ b / 65536 % 256 = cc in
    let e3 : a / 16777216 ≡ b / 16777216 = cc (last a ha, last b hb) in
    let f2 : a / 65536 ≡ b / 65536 = digit (a / 65536) (b / 65536) e2 (cc (third a, third b)) in
    digit a b e0 (digit (a / 256) (b / 256) e1 (cc (second a, second b)))

-- and the rest
pub word-rest : (a b : ℕ) (x y : List ℕ) → word a ++ x ≡ word b ++ y → x ≡ y
word-rest a b x y e = cc

split : (x : ℕ) → x ≡ x % 256 + 256 * (x / 256)
split x = omega arith

joined : (w q1 q2 q3 a b c d : ℕ) → w ≡ a + 256 * q1 → q1 ≡ b + 256 * q2 → q2 ≡ c + 256 * q3 → q3 ≡ d → a + 256 * b + 65536 * c + 16777216 * d ≡ w
joined w q1 q2 q3 a b c d e1 e2 e3 e4 = omega arith

-- a word read back
pub word_read : (w : ℕ) (x : List ℕ) → w < 2 ^ 32 → word_at (word w ++ x) 0 ≡ w
unfolding word_at
word_read w x h =
    joined w (w / 256) (w / 65536) (w / 16777216) _ _ _ _ (omega arith) (split (w / 256) ∙ rw (← second w)) (split (w / 65536) ∙ rw (← third w)) (omega arith)

pub length-words : (ws : List ℕ) → length (words ws) ≡ 4 * length ws
unfolding words
length-words [] = refl
length-words (w ∷ ws) = omega (arith, length-words ws)

pub words_append : (xs ys : List ℕ) → words (xs ++ ys) ≡ words xs ++ words ys
unfolding words
words_append [] ys = refl
words_append (w ∷ ws) ys = rw (words_append ws ys)
