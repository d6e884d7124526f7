-- A default is no longer than the text that it is split from.
use Rattle.std.specs.Prelude.{Some}
use mathlib.Core.Path.{◌≡◌}
use mathlib.Core.Bool.{Bool, true, false, ◌&&◌}
use mathlib.Core.List.{List, [], ◌∷◌}
use Prim.Native.Nat.{ℕ, suc, ◌+◌, ◌-◌, ◌≤◌}
use native.Mathlib.Omega.{arith}
use lib.Dec.{eqb}
use lib.ListN.{length}
use Rattle.lists.specs.Choose.{choose}
use Rattle.lists.proofs.AllLaws.{All}
use Rattle.lists.proofs.Tests.{by_flag}
use Rattle.characters.specs.white_space.Lines.{join}
use Rattle.characters.specs.white_space.Trim.{trim_start_utf8, trim_utf8}
use Rattle.characters.proofs.white_space.TrimLength.{trim-length}
use Rattle.values.specs.emphasis.Commas.{comma, parts}
use Rattle.values.specs.emphasis.Emphasis.{Choice, plain, marked, marks, placed, or_else, starts_with, ends_with, emphasised, first_marked, choice_of}
use Rattle.values.proofs.emphasis.Stripping.{strip-length}
use Rattle.values.specs.Values.{values_by, values_of}

-- texts of at most m bytes
abbrev UpTo : ℕ → List ℕ → Type 0
UpTo m p = length p ≤ m

more_room : (m : ℕ) (ps : List (List ℕ)) → All (UpTo m) ps → All (UpTo (suc m)) ps
unfolding All
more_room m [] h = tt
more_room m (p ∷ ps) h = (omega (arith, h.0), more_room m ps h.1)

parts-short : (t : List ℕ) → All (UpTo (length t)) (parts t)
unfolding All parts
parts-short [] = (omega arith, tt)
parts-short (c ∷ s) = go (eqb c comma) (parts s) (parts-short s)
  where
    joined : (ps : List (List ℕ)) → All (UpTo (length s)) ps → All (UpTo (suc (length s))) (join c ps)
    joined [] h = (omega arith, tt)
    joined (p ∷ ps) h = (omega (arith, h.0), more_room (length s) ps h.1)

    go : (b : Bool) (ps : List (List ℕ)) → All (UpTo (length s)) ps → All (UpTo (suc (length s))) (choose b ([] ∷ ps) (join c ps))
    go true ps h = (omega arith, more_room (length s) ps h)
    go false ps h = joined ps h

-- a bare text of at most m bytes
abbrev BareUpTo : ℕ → Choice → Type 0
BareUpTo m plain = Unit {0}
BareUpTo m (marked place part bare) = length bare ≤ m

mark-short : (m : ℕ) (es : List (List ℕ)) (p : List ℕ) → length p ≤ m → BareUpTo m (emphasised es p)
unfolding emphasised
mark-short m [] p h = tt
mark-short m (e ∷ es) p h =
    by_flag (starts_with e p && ends_with e p) (λ y. rw y (omega (arith, strip-length e p))) (λ z. rw z (mark-short m es p h))

either_short : (m n : ℕ) (c d : Choice) → BareUpTo m c → BareUpTo m d → BareUpTo m (or_else (placed n c) d)
either_short m n plain d h k = k
either_short m n (marked place part bare) d h k = h

first_short : (m n : ℕ) (ps : List (List ℕ)) → All (UpTo m) ps → BareUpTo m (first_marked n ps)
unfolding All first_marked
first_short m n [] h = tt
first_short m n (p ∷ ps) h =
    either_short m (n + (length p - length (trim_start_utf8 p))) (emphasised marks (trim_utf8 p)) (first_marked (n + length p + 1) ps)
    (mark-short m marks (trim_utf8 p) (omega (arith, trim-length p, h.0))) (first_short m (n + length p + 1) ps h.1)

pub default-length : (t d : List ℕ) → (values_of t).default ≡ Some d → length d ≤ length t
unfolding values_of
default-length t d e = go (choice_of t) (first_short (length t) 0 (parts t) (parts-short t)) e
  where
    go : (c : Choice) → BareUpTo (length t) c → (values_by c t).default ≡ Some d → length d ≤ length t
    go plain h e = let z : ◌≡◌ {A = ℕ} 0 1 = cc in absurd (omega arith)
    go (marked place part bare) h e = let z : bare ≡ d = cc in rw (← z) h
