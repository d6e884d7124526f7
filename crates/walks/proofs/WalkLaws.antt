-- Laws of a walk: its turns, and that it finds exactly the sides.
use Rattle.std.specs.Prelude.{Ok, Err}
use mathlib.Core.Path.{◌≡◌, refl, sym, ap, ◌∙◌, subst}
use mathlib.Core.Bool.{Bool, true, false}
use mathlib.Core.List.{List}
use mathlib.Core.Logic.{⊎_elim}
use Prim.Native.Nat.{ℕ, zero, suc, ◌+◌, ◌-◌, ◌≤◌, ◌<◌}
use native.Mathlib.Nat.{eq-or-lt_of_le}
use native.Mathlib.Numerals.{add-one}
use native.Mathlib.Omega.{arith}
use lib.ListN.{get_or}
use Rattle.lists.specs.Choose.{choose}
use Rattle.lists.specs.OneOf.{one_of}
use Rattle.lists.proofs.AnswerLaws.{refused-ok}
use Rattle.model.specs.Refusals.{Reading}
use Rattle.model.specs.declared.Refusal.TheVariants.{CharactersNotFound, CharacterNotAllowed}
use Rattle.walks.specs.Sets.{Passes}
use Rattle.walks.specs.Walk.{walk_from, walk_of}

-- the ways that a turn can go, whose character is c
module _ (line : ℕ → ℕ) (s a : List ℕ) (k n : ℕ) where
  module _ (c : ℕ) (h : k < n) (at : line (k + 1) ≡ c) where
    turn : walk_from line s a k (n - k)
        ≡ choose (one_of c s) (Ok (k + 1)) (choose (one_of c a) (walk_from line s a (k + 1) (n - (k + 1))) (Err (CharacterNotAllowed c)))
    unfolding walk_from
    turn =
        let e : n - k ≡ suc (n - (k + 1)) = omega arith in
        rw (e, ← at, add-one)

    pub turn_found : one_of c s ≡ true → walk_from line s a k (n - k) ≡ Ok (k + 1)
    turn_found e = turn ∙ rw e

    pub turn_barred : one_of c s ≡ false → one_of c a ≡ false → walk_from line s a k (n - k) ≡ Err (CharacterNotAllowed c)
    turn_barred e f = turn ∙ rw (e, f)

    pub turn_on : Passes s a c → walk_from line s a k (n - k) ≡ walk_from line s a (k + 1) (n - (k + 1))
    turn_on p = turn ∙ rw (p.0, p.1)

  pub turn_end : n ≤ k → walk_from line s a k (n - k) ≡ Err (CharactersNotFound (get_or s 0 0))
  unfolding walk_from
  turn_end h =
      let e : n - k ≡ 0 = omega arith in
      rw e

-- walks on lines that agree are the same
pub walk_ext : (f g : ℕ → ℕ) (s a : List ℕ) (k n : ℕ) → ((j : ℕ) → j ≤ k + n → f j ≡ g j) → walk_from f s a k n ≡ walk_from g s a k n
unfolding walk_from
walk_ext f g s a k zero e = refl
walk_ext f g s a k (suc n) e =
    let e1 : f (suc k) ≡ g (suc k) = e (suc k) (omega arith) in
    rw (e1, walk_ext f g s a (suc k) n (λ j h. e j (omega arith)))

-- a side along a line, from the kth character to the corner at the jth
pub record Side (line : ℕ → ℕ) (s a : List ℕ) (k j : ℕ) : Type 0 where
  pub past : k < j
  pub corner : one_of (line j) s ≡ true
  pub between : (i : ℕ) → k < i → i < j → one_of (line i) a ≡ true

-- no character of a is one of s
abbrev pub Apart : List ℕ → List ℕ → Type 0
Apart s a = (c : ℕ) → one_of c a ≡ true → one_of c s ≡ false

module _ (line : ℕ → ℕ) (s a : List ℕ) where
  abbrev FoundAt : ℕ → ℕ → ℕ → Type 0
  FoundAt k n j = Side line s a k j × (j ≤ k + n)

  step_found : (k n j : ℕ) (b : Bool) → one_of (line (suc k)) s ≡ b → (b' : Bool) → one_of (line (suc k)) a ≡ b'
      → (W : Reading ℕ) → (W ≡ Ok j → FoundAt (suc k) n j)
      → choose b (Ok (suc k)) (choose b' W (Err (CharacterNotAllowed (line (suc k))))) ≡ Ok j → FoundAt k (suc n) j
  step_found k n j true p b' q W ih e =
      let z : suc k ≡ j = cc in
      (record { past = omega arith; corner = rw (← z) p; between = λ i h g. absurd (omega arith) }, omega arith)
  step_found k n j false p true q W ih e =
      let r = ih e in (
        record {
          past = omega (arith, r.0.past);
          corner = r.0.corner;
          between = λ i h g. ⊎_elim (λ u. subst (λ (v : ℕ). one_of (line v) a ≡ true) u q) (λ u. r.0.between i u g) (eq-or-lt_of_le h);
        },
        omega (arith, r.1),
      )
  step_found k n j false p false q W ih e = refused-ok e

  -- what a walk finds is a side
  pub found_side : (k n j : ℕ) → walk_from line s a k n ≡ Ok j → FoundAt k n j
  unfolding walk_from
  found_side k zero j e = refused-ok e
  found_side k (suc n) j e =
      step_found k n j (one_of (line (suc k)) s) refl (one_of (line (suc k)) a) refl (walk_from line s a (suc k) n) (found_side (suc k) n j) e

  -- and a side is found, where no allowed character is searched
  pub side_found : Apart s a → (k n j : ℕ) → Side line s a k j → j ≤ k + n → walk_from line s a k n ≡ Ok j
  unfolding walk_from
  side_found d k zero j f h = absurd (omega (arith, f.past))
  side_found d k (suc n) j f h =
      ⊎_elim
      (λ u. let e : one_of (line (suc k)) s ≡ true = subst (λ (v : ℕ). one_of (line v) s ≡ true) (sym u) f.corner in rw e (ap Ok u))
      (λ u.
      let e : one_of (line (suc k)) a ≡ true = f.between (suc k) (omega arith) u in
      rw (d (line (suc k)) e, e)
      (side_found d (suc k) n j (record { past = u; corner = f.corner; between = λ i p q. f.between i (omega arith) q }) (omega arith)))
      (eq-or-lt_of_le f.past)

-- how far a walk goes
pub found_bound : (line : ℕ → ℕ) (s a : List ℕ) (n j : ℕ) → walk_of line s a n ≡ Ok j → (0 < j) × (j ≤ n)
found_bound line s a n j e =
    let r = found_side line s a 0 n j e in
    (r.0.past, omega (arith, r.1))
