-- A walk along a line of characters: `search_right` and its three sisters of the Rust.
use Rattle.std.specs.Prelude.{List, ℕ, zero, suc, ◌+◌, ◌-◌, get_or, Ok, Err}
use Rattle.lists.specs.Choose.{choose}
use Rattle.lists.specs.OneOf.{one_of}
use Rattle.lists.specs.Picture.{Picture}
use Rattle.model.specs.Refusals.{Reading}
use Rattle.model.specs.declared.Refusal.TheVariants.{CharactersNotFound, CharacterNotAllowed}
use Rattle.walks.specs.declared.Direction.{Direction}
use Rattle.walks.specs.declared.Direction.TheVariants.{Right, Down, Left, Up}

-- over the n characters after the kth: the steps to the first that is searched. A character that is neither searched nor allowed
-- refuses (4), and so does the line's end (3, the first that was searched)
unfoldable pub walk_from : (ℕ → ℕ) → List ℕ → List ℕ → ℕ → ℕ → Reading ℕ
walk_from line s a k zero = Err (CharactersNotFound (get_or s 0 0))
walk_from line s a k (suc n) =
    choose (one_of (line (suc k)) s) (Ok (suc k))
    (choose (one_of (line (suc k)) a) (walk_from line s a (suc k) n) (Err (CharacterNotAllowed (line (suc k)))))

abbrev pub walk_of : (ℕ → ℕ) → List ℕ → List ℕ → ℕ → Reading ℕ
walk_of line s a n = walk_from line s a 0 n

-- the character k steps from column x of row y
abbrev pub ray : Direction → Picture → ℕ → ℕ → ℕ → ℕ
ray Right p x y k = p (x + k) y
ray Down p x y k = p x (y + k)
ray Left p x y k = p (x - k) y
ray Up p x y k = p x (y - k)

-- how many characters lie ahead in a picture of w columns and h rows
abbrev pub ahead : Direction → ℕ → ℕ → ℕ → ℕ → ℕ
ahead Right w h x y = w - 1 - x
ahead Down w h x y = h - 1 - y
ahead Left w h x y = x
ahead Up w h x y = y

-- the walk from column x of row y, over allowed characters to a searched one
abbrev pub go_of : Direction → Picture → ℕ → ℕ → ℕ → ℕ → List ℕ → List ℕ → Reading ℕ
go_of d p w h x y searched allowed = walk_of (ray d p x y) searched allowed (ahead d w h x y)
