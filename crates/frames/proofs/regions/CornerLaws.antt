-- A corner that is being sought.
use mathlib.Core.Bool.{Bool, true, false}
use mathlib.Core.Path.{◌≡◌, sym, ap, subst, ◌∙◌}
use mathlib.Core.List.{List}
use Rattle.std.proofs.lemmas.List.{length-take-le}
use Prim.Native.Nat.{ℕ, ◌+◌, ◌-◌, ◌≤◌, ◌<◌}
use native.Mathlib.Omega.{arith}
use lib.ListN.{length, take}
use lib.Seq.{get_or-take}
use lib.Dec.{ltb}
use borrow.Author.Tests.{ltb-true, ltb-false}
use Rattle.lists.specs.OneOf.{any_at}
use Rattle.lists.proofs.OneOfLaws.{any_found}
use Rattle.lists.proofs.Tests.{by_flag, true_false}
use Rattle.frames.specs.regions.Corners.{corner_in, Seeking, NextCorner}
use Rattle.frames.specs.regions.Regions.{is_corner}

pub seeking_start : (corner : ℕ → Bool) (size i : ℕ) → i ≤ size → Seeking corner size i i
seeking_start corner size i h = record { from = omega arith; to = h; clear = λ j a b. absurd (omega arith) }

module _ {corner : ℕ → Bool} {size i k : ℕ} (q : Seeking corner size i k) where
  pub seeking_more : k < size → corner k ≡ false → Seeking corner size i (k + 1)
  seeking_more h e =
      record {
        from = omega (arith, q.from);
        to = omega arith;
        clear = λ j a b.
            by_flag (ltb j k) (λ y. q.clear j a (ltb-true j k y))
            (λ n.
            let z : k ≡ j = omega (arith, ltb-false j k n) in
            subst (λ (m : ℕ). corner m ≡ false) z e);
      }

  pub seeking_four : 4 ≤ size - k → any_at (λ j. corner (k + j)) 4 ≡ false → Seeking corner size i (k + 4)
  seeking_four h e =
      record {
        from = omega (arith, q.from);
        to = omega (arith, q.to);
        clear = λ j a b.
            by_flag (ltb j k) (λ y. q.clear j a (ltb-true j k y))
            (λ n.
            let z : k + (j - k) ≡ j = omega (arith, ltb-false j k n) in
            by_flag (corner j) (λ y. absurd (true_false (any_found (λ j. corner (k + j)) 4 (j - k) (omega arith) (ap corner z ∙ y)) e)) (λ y. y));
      }

  pub seeking_found : corner k ≡ true → NextCorner corner size i k
  seeking_found e = record { from = q.from; to = q.to; clear = q.clear; found = λ l. e }

  pub seeking_end : size ≤ k → NextCorner corner size i size
  seeking_end h =
      let z : k ≡ size = omega (arith, q.to) in
      subst (NextCorner corner size i) z (record { from = q.from; to = q.to; clear = q.clear; found = λ l. absurd (omega arith) })

-- the next corner of a list's front is that of the list
pub next_within : (d : List ℕ) (n i k : ℕ) → n ≤ length d → NextCorner (corner_in (take n d)) (length (take n d)) i k → NextCorner (corner_in d) n i k
next_within d n i k l q =
    let e : length (take n d) ≡ n = length-take-le n d l in
    let same : (j : ℕ) → j < n → corner_in d j ≡ corner_in (take n d) j = λ j b. ap is_corner (sym (get_or-take n d j 0 b)) in
    record {
      from = q.from;
      to = omega (arith, q.to, e);
      clear = λ j a b. same j (omega (arith, b, q.to, e)) ∙ q.clear j a b;
      found = λ b. same k b ∙ q.found (omega (arith, b, e));
    }
