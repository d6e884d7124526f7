-- What the inner functions of the crate answer on the way: no caller needs these.
use Rattle.std.specs.Prelude.{Option, Some, None, ℕ, zero, suc, ◌<◌}
use Rattle.characters.specs.declared.utf8.Decoded.{Decoded}
use Rattle.characters.specs.declared.utf8.Decoded.TheVariants.{Char, IllFormed, End}

-- the code point that was read and its number of bytes
abbrev pub code_in : Decoded → Option ℕ
code_in (Char c n) = Some c
code_in IllFormed = None
code_in End = None

abbrev pub bytes_in : Decoded → Option ℕ
bytes_in (Char c n) = Some n
bytes_in IllFormed = None
bytes_in End = None

-- the same, 0 where none was
abbrev pub code_of : Decoded → ℕ
code_of (Char c n) = c
code_of IllFormed = 0
code_of End = 0

abbrev pub bytes_of : Decoded → ℕ
bytes_of (Char c n) = n
bytes_of IllFormed = 0
bytes_of End = 0

-- a code point so far has no more bits than those of a byte that follows and `left` more leave it
abbrev pub CodeFits : ℕ → ℕ → Type 0
CodeFits code zero = code < 32768
CodeFits code (suc zero) = code < 512
CodeFits code (suc (suc left)) = code < 8
