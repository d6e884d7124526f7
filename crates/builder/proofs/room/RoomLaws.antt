-- Work slices and their constants, one after the other.
use Rattle.std.specs.Prelude.{Ok, Err}
use mathlib.Core.List.{List, [], ◌∷◌}
use mathlib.Core.Path.{◌≡◌, refl}
use Prim.Native.Nat.{ℕ, suc, ◌+◌, ◌<◌, ◌≤◌}
use native.Mathlib.Numerals.{add-one}
use native.Mathlib.Omega.{arith}
use lib.Dec.{ltb}
use lib.ListN.{length, get_or, drop}
use lib.Seq.{drop-cons, drop-length}
use borrow.Author.Tests.{lt-ltb, le-ltb, ltb-false}
use Rattle.lists.proofs.AnswerLaws.{refused-ok}
use Rattle.lists.proofs.Tests.{by_flag}
use Rattle.model.specs.declared.Refusal.TheVariants.{WorkSliceShort}
use Rattle.builder.specs.room.Room.{room_from}

-- the check has come to slice i
module _ (ns ks : List ℕ) (i : ℕ) (h : i < length ns) (g : i < length ks) where
  pub room_stop : get_or ns i 0 < get_or ks i 0 → Err (WorkSliceShort i (get_or ks i 0)) ≡ room_from i (drop i ns) (drop i ks)
  unfolding room_from
  room_stop l = rw (drop-cons ns i 0 h, drop-cons ks i 0 g, lt-ltb (get_or ns i 0) (get_or ks i 0) l)

  pub room_on : get_or ks i 0 ≤ get_or ns i 0 → room_from i (drop i ns) (drop i ks) ≡ room_from (i + 1) (drop (i + 1) ns) (drop (i + 1) ks)
  unfolding room_from
  room_on l = rw (drop-cons ns i 0 h, drop-cons ks i 0 g, le-ltb (get_or ns i 0) (get_or ks i 0) l, add-one i)

pub room_end : (ns ks : List ℕ) (i : ℕ) → i ≡ length ns → Ok tt ≡ room_from i (drop i ns) (drop i ks)
unfolding room_from
room_end ns ks i e = rw (e, drop-length ns)

-- each length is at least its constant
abbrev pub AtLeast : List ℕ → List ℕ → Type 0
AtLeast [] ks = Unit {0}
AtLeast (n ∷ ns) [] = Unit {0}
AtLeast (n ∷ ns) (k ∷ ks) = (k ≤ n) × AtLeast ns ks

pub at_least : (i : ℕ) (ns ks : List ℕ) → room_from i ns ks ≡ Ok tt → AtLeast ns ks
unfolding room_from
at_least i [] ks e = tt
at_least i (n ∷ ns) [] e = tt
at_least i (n ∷ ns) (k ∷ ks) e =
    by_flag (ltb n k) (λ t. refused-ok (rw t at e)) (λ f. (ltb-false n k f, at_least (suc i) ns ks (rw f at e)))

-- slices of exactly their constants
pub room_exact : (i : ℕ) (ks : List ℕ) → room_from i ks ks ≡ Ok tt
unfolding room_from
room_exact i [] = refl
room_exact i (k ∷ ks) = rw (le-ltb k k (omega arith)) (room_exact (suc i) ks)
