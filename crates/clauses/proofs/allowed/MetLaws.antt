-- Regions met twice: in the cells of a row, and in the row above.
use Rattle.std.specs.Prelude.{Ok, Err, Bool}
use mathlib.Core.Path.{◌≡◌, refl, sym, ap, ◌∙◌}
use mathlib.Core.Bool.{Bool, true, false, ◌||◌, or_comm, or_assoc, or-false}
use mathlib.Core.List.{List, [], ◌∷◌}
use Prim.Native.Nat.{ℕ, zero, suc, ◌+◌, ◌-◌, ◌/◌, ◌%◌, ◌≤◌, ◌<◌}
use native.Mathlib.Numerals.{add-one}
use native.Mathlib.Omega.{arith}
use lib.Dec.{eqb, ltb}
use lib.ListN.{get_or}
use borrow.Author.Tests.{eq-eqb, ne_eqb, ltb-true, ltb-false}
use Rattle.lists.specs.Answer.{◌>>=◌}
use Rattle.lists.specs.Choose.{choose, on_some}
use Rattle.lists.specs.OneOf.{one_of, any_at}
use Rattle.lists.proofs.AnswerLaws.{refused-ok}
use Rattle.lists.proofs.OneOfLaws.{any_none, any_more, any_found}
use Rattle.lists.proofs.Tests.{by_flag}
use Rattle.model.specs.Cells.{cell_of_kind, region_of}
use Rattle.model.specs.declared.Refusal.{Refusal}
use Rattle.model.specs.declared.Refusal.TheVariants.{CellNotRegion}
use Rattle.model.specs.Refusals.{Reading}
use Rattle.cells.specs.Plane.{Plane, place_at, cell_at, plane_in}
use Rattle.clauses.specs.cell_tests.SheetCells.{region_at}
use Rattle.clauses.proofs.cell_tests.CellLaws.{region_below, region-right, region-by}
use Rattle.clauses.specs.allowed.Apart.{twice, once, meet_row, apart_from, all_apart}
use Rattle.clauses.specs.allowed.Met.{met, met_above, met_in}

-- the region's number that a slice holds
abbrev number_at : List ℕ → ℕ → ℕ → ℕ
number_at d y x = get_or d (place_at y x) 0 / 8

region-kind : (k r a : ℕ) (q : Refusal) → Ok a ≡ on_some (region_of (cell_of_kind k r)) Ok (Err q) → a ≡ r
region-kind zero r a q e = cc
region-kind (suc zero) r a q e = refused-ok (sym e)
region-kind (suc (suc zero)) r a q e = refused-ok (sym e)
region-kind (suc (suc (suc zero))) r a q e = refused-ok (sym e)
region-kind (suc (suc (suc (suc zero)))) r a q e = refused-ok (sym e)
region-kind (suc (suc (suc (suc (suc zero))))) r a q e = refused-ok (sym e)
region-kind (suc (suc (suc (suc (suc (suc zero)))))) r a q e = refused-ok (sym e)
region-kind (suc (suc (suc (suc (suc (suc (suc k))))))) r a q e = refused-ok (sym e)

-- a region that is read is the one that the slice holds
pub region_number_lem : (d : List ℕ) (rows y x a : ℕ) → Ok a ≡ region_at (plane_in d rows) y x → a ≡ number_at d y x
region_number_lem d rows y x a e = by_flag (ltb y rows) (λ t. inside (ltb-true y rows t)) (λ t. refused-ok (region_below d rows y x (ltb-false y rows t) ∙ sym e))
  where
    there : y < rows → x < get_or d y 0 → a ≡ number_at d y x
    there h k =
        region-kind (get_or d (place_at y x) 0 % 8) (number_at d y x) a (CellNotRegion y x)
        (e ∙ sym (region-by d rows y x (region_of (cell_at d y x)) h k refl))

    inside : y < rows → a ≡ number_at d y x
    inside h =
        by_flag (ltb x (get_or d y 0)) (λ t. there h (ltb-true x (get_or d y 0) t))
        (λ t. refused-ok (region-right d rows y x h (ltb-false x (get_or d y 0) t) ∙ sym e))

-- nothing is in an empty list
not_empty : (a : ℕ) → false ≡ one_of a []
unfolding one_of
not_empty a = refl

-- in the row above
pub above_row : (d : List ℕ) (y x n a : ℕ) {t : Bool} → 0 < y → t ≡ one_of a (met d (y - 1) x n []) → t ≡ one_of a (met_above d y x n)
above_row d zero x n a h e = absurd (omega arith)
above_row d (suc y) x n a h e = let z : suc y - 1 ≡ y = omega arith in rw z at e

pub no_row : (d : List ℕ) (y x n a : ℕ) → y ≤ 0 → false ≡ one_of a (met_above d y x n)
no_row d zero x n a h = not_empty a
no_row d (suc y) x n a h = absurd (omega arith)

or_turn : (a b c : Bool) → (a || (b || c)) ≡ (b || a || c)
or_turn a b c = sym (or_assoc a b c) ∙ ap (λ t. t || c) (or_comm a b)

-- a region among the first n cells of row y from column x on, or in s
module _ (d : List ℕ) (y x a : ℕ) where
  -- the i-th cell holds it
  abbrev holds_at : ℕ → Bool
  holds_at i = eqb a (number_at d y (x + i))

  met_or : (n : ℕ) (s : List ℕ) → one_of a (met d y x n s) ≡ (any_at holds_at n || one_of a s)
  unfolding met one_of any_at
  met_or zero s = refl
  met_or (suc n) s = rw (met_or n s) (or_turn (holds_at n) (any_at holds_at n) (one_of a s))

  met_any : (n : ℕ) → one_of a (met d y x n []) ≡ any_at holds_at n
  unfolding one_of
  met_any n = met_or n [] ∙ or-false (any_at holds_at n)

  -- it is among them, or it is not
  pub met-here : (n : ℕ) (s : List ℕ) {t : Bool} → t ≡ one_of a (met d y x n []) → t ≡ true → true ≡ one_of a (met d y x n s)
  met-here n s e q = sym (met_or n s ∙ rw (sym (met_any n), sym e, q))

  pub met_else : (n : ℕ) (s : List ℕ) {t u : Bool} → t ≡ one_of a (met d y x n []) → t ≡ false → u ≡ one_of a s → u ≡ one_of a (met d y x n s)
  met_else n s e q f = f ∙ sym (met_or n s ∙ rw (sym (met_any n), sym e, q))

-- a region is in none of the first i of n cells
pub record Looked (d : List ℕ) (y x n a i : ℕ) : Type 0 where
  pub within : i ≤ n
  pub none : any_at (holds_at d y x a) i ≡ false

pub look_start : (d : List ℕ) (y x n a : ℕ) → Looked d y x n a 0
look_start d y x n a = record { within = omega arith; none = any_none (holds_at d y x a) }

module _ {d : List ℕ} {y x n a i : ℕ} (p : Looked d y x n a i) where
  pub look_found : i < n → number_at d y (x + i) ≡ a → true ≡ one_of a (met d y x n [])
  look_found h e = sym (met_any d y x a n ∙ any_found (holds_at d y x a) n i h (eq-eqb a (number_at d y (x + i)) (sym e)))

  pub look_on : i < n → (number_at d y (x + i) ≡ a → ⊥) → Looked d y x n a (i + 1)
  look_on h e =
      record {
        within = omega arith;
        none = any_more (holds_at d y x a) i p.none (ne_eqb a (number_at d y (x + i)) (λ q. e (sym q)));
      }

  pub look_end : n ≤ i → false ≡ one_of a (met d y x n [])
  look_end h = let e : n ≡ i = omega (arith, p.within) in sym (met_any d y x a n ∙ rw e p.none)

-- behind the regions s, no region stands twice up to the i-th of n cells
pub record Meeting (P : Plane) (d : List ℕ) (y x n : ℕ) (s : List ℕ) (i : ℕ) : Type 0 where
  pub within : i ≤ n
  pub rest : meet_row P y x n s ≡ meet_row P y (x + i) (n - i) (met d y x i s)

pub meet_start : (P : Plane) (d : List ℕ) (y x n : ℕ) (s : List ℕ) → Meeting P d y x n s 0
unfolding met
meet_start P d y x n s =
    let a : x + 0 ≡ x = omega arith in
    let b : n - 0 ≡ n = omega arith in
    record { within = omega arith; rest = rw (a, b) }

module _ {P : Plane} {d : List ℕ} {y x n : ℕ} {s : List ℕ} {i : ℕ} (p : Meeting P d y x n s i) where
  pub meet_end : n ≤ i → meet_row P y x n s ≡ Ok (once (met d y x n s))
  unfolding meet_row
  meet_end h =
      let e : n - i ≡ 0 = omega arith in
      let k : i ≡ n = omega (arith, p.within) in
      p.rest ∙ rw (e, k)

  module _ (h : i < n) where
    turn : meet_row P y x n s
        ≡ ◌>>=◌ (region_at P y (x + i)) (λ a. choose (one_of a (met d y x i s)) (Ok twice) (meet_row P y (x + (i + 1)) (n - (i + 1)) (a ∷ met d y x i s)))
    unfolding meet_row
    turn =
        let e : n - i ≡ suc (n - (i + 1)) = omega arith in
        let k : x + (i + 1) ≡ suc (x + i) = omega arith in
        p.rest ∙ rw (e, k)

    pub meet_out : {r : Refusal} → Err r ≡ region_at P y (x + i) → meet_row P y x n s ≡ Err r
    meet_out e = turn ∙ rw (sym e)

    module _ {a : ℕ} {t : Bool} (e : Ok a ≡ region_at P y (x + i)) (q : t ≡ one_of a (met d y x i s)) where
      pub meet_twice : t ≡ true → meet_row P y x n s ≡ Ok twice
      meet_twice u = turn ∙ rw (sym e, sym q, u)

      pub meet_next : t ≡ false → a ≡ number_at d y (x + i) → Meeting P d y x n s (i + 1)
      unfolding met
      meet_next u k = record { within = omega arith; rest = turn ∙ rw (sym e, sym q, u, add-one i, k) }

-- rows 0 and 1, in the n columns from x on
module _ (P : Plane) (x n : ℕ) where
  pub apart_out : {r : Refusal} → meet_row P 0 x n [] ≡ Err r → Err r ≡ all_apart P 2 x n
  unfolding apart_from
  apart_out e = rw e

  pub apart_not : meet_row P 0 x n [] ≡ Ok twice → Ok false ≡ all_apart P 2 x n
  unfolding apart_from
  apart_not e = rw e

  pub apart_below : (d : List ℕ) (t : Reading Bool) → meet_row P 0 x n [] ≡ Ok (once (met d 0 x n []))
      → meet_row P 1 x n (met d 0 x n []) ≡ met_in t (met d 1 x n (met d 0 x n [])) → t ≡ all_apart P 2 x n
  unfolding apart_from
  apart_below d (Ok true) e f = rw (e, f)
  apart_below d (Ok false) e f = rw (e, f)
  apart_below d (Err r) e f = rw (e, f)
