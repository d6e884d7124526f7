-- The texts of a plane's regions: a slice of bytes, and a slice of two numbers each, a text's offset and its length.
use Rattle.std.specs.Prelude.{List, [], ℕ, ◌+◌, ◌*◌, get_or, take, drop}
use Rattle.lists.specs.Run.{run}

abbrev pub offset_at : List ℕ → ℕ → ℕ
offset_at spans k = get_or spans (k * 2) 0

abbrev pub length_at : List ℕ → ℕ → ℕ
length_at spans k = get_or spans (k * 2 + 1) 0

abbrev pub text_at : List ℕ → List ℕ → ℕ → List ℕ
text_at bytes spans k = take (length_at spans k) (drop (offset_at spans k) bytes)

-- the first n texts
abbrev pub texts_in : List ℕ → List ℕ → ℕ → List (List ℕ)
texts_in bytes spans n = run (text_at bytes spans) 0 n

-- the text of region k, one of n
abbrev pub text_in : List ℕ → List ℕ → ℕ → ℕ → List ℕ
text_in bytes spans n k = get_or (texts_in bytes spans n) k []
