-- The end of a call, from what it reads and what it clears.
use Rattle.std.specs.Prelude.{Err, ℕ}
use mathlib.Core.List.{List, [], ◌∷◌, map}
use mathlib.Core.Path.{◌≡◌, refl, sym, ◌∙◌}
use Prim.Native.Nat.{ℕ}
use lib.ListN.{length}
use Rattle.lists.specs.Zeros.{zeros}
use Rattle.model.specs.Refusals.{Reading}
use Rattle.model.specs.declared.Refusal.{Refusal}
use Rattle.record.specs.Policy.{Policy}
use Rattle.recognizer.specs.Told.{table_read}
use Rattle.recognizer.specs.records.Outcomes.{outcome_of, record_of}
use Rattle.builder.specs.room.Room.{room_from, Roomy}
use Rattle.builder.specs.ends.Ends.{end_of}

-- a call with work slices of their lengths, which are cleared at its end
pub end_cleared : (sizes : List ℕ) (m : Reading Policy) (works cleared : List (List ℕ)) (out o : List ℕ) (r : Reading ℕ) → Roomy works sizes
    → r ≡ outcome_of (table_read m) (length out) → o ≡ record_of (table_read m) out → cleared ≡ map zeros works → end_of sizes m works out ≡ record { outcome = r; works = cleared; out = o }
unfolding end_of
end_cleared sizes m works cleared out o r e a b c = rw (e, a, b, c)

-- a call with a short work slice
pub end_short : (sizes : List ℕ) (m : Reading Policy) (works : List (List ℕ)) (out : List ℕ) (r : Refusal) → Err r ≡ room_from 0 (map length works) sizes
    → end_of sizes m works out ≡ record { outcome = Err r; works = works; out = out }
unfolding end_of
end_short sizes m works out r e = rw (← e)

-- as the code answers it: its refusal b is the room's, handed on as a
pub end_refused : (sizes : List ℕ) (m : Reading Policy) (works : List (List ℕ)) (out : List ℕ) {r : Reading ℕ} {u : Reading (Unit {0})} {a b : Refusal}
    → r ≡ Err a → a ≡ b → u ≡ Err b → u ≡ room_from 0 (map length works) sizes
    → end_of sizes m works out ≡ record { outcome = r; works = works; out = out }
end_refused sizes m works out {b = b} p q h e = rw (p, q) (end_short sizes m works out b (sym h ∙ e))

-- cleared slices one behind the other, each as long as it was
pub data Cleared : List (List ℕ) → List (List ℕ) → Type 0 where
  none : Cleared [] []
  one : {x y : List ℕ} {xs ys : List (List ℕ)} → x ≡ zeros y → Cleared xs ys → Cleared (x ∷ xs) (y ∷ ys)

pub cleared_all : {xs ys : List (List ℕ)} → Cleared xs ys → xs ≡ map zeros ys
cleared_all none = refl
cleared_all (one e q) = rw (e, cleared_all q)

pub zeros-same : (x y : List ℕ) → length x ≡ length y → zeros x ≡ zeros y
unfolding zeros
zeros-same x y e = rw e
