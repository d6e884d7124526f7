-- Laws of going along a line to its end: what is known on the way, and where it ends.
use mathlib.Core.Path.{◌≡◌, refl, sym, subst, ◌∙◌}
use mathlib.Core.List.{List, [], ◌∷◌}
use Prim.Native.Nat.{ℕ, ◌+◌, ◌≤◌}
use native.Mathlib.Omega.{arith}
use lib.ListN.{length, drop}
use borrow.Author.Tests.{eq-eqb, ne_eqb}
use Rattle.characters.specs.white_space.Lines.{after, ValidTo}
use Rattle.scan.specs.line_checks.LineEnds.{NextFrom}
use Rattle.characters.specs.utf8.Utf8.{codes, decode, SameCheck}
use Rattle.characters.specs.declared.utf8.Decoded.TheVariants.{Char}
use Rattle.characters.proofs.utf8.Utf8Laws.{codes_at_lem, char_fits, check-at, codes_end}

-- one code point of the scan, by what it is
module _ (r : List ℕ) (c : ℕ) (t : List ℕ) (e : r ≡ c ∷ t) where
  pub after_feed : c ≡ 0x0A → after r ≡ t
  unfolding after
  after_feed p = rw (e, eq-eqb c 0x0A p)

  pub after_more : (c ≡ 0x0A → ⊥) → after r ≡ after t
  unfolding after
  after_more p = rw (e, ne_eqb c 0x0A p)

-- where nothing is left
module _ (r : List ℕ) (e : r ≡ []) where
  pub after_nil : after r ≡ []
  unfolding after
  after_nil = rw e

-- the reading of a line has come to p
pub record Passing (s : List ℕ) (from p : ℕ) : Type 0 where
  pub along : from ≤ p
  pub inside : p ≤ length s
  pub onward : after (codes (drop from s)) ≡ after (codes (drop p s))
  pub checks : SameCheck s from p

pub pass-start : (s : List ℕ) (from : ℕ) → from ≤ length s → Passing s from from
pass-start s from h = record { along = omega arith; inside = h; onward = refl; checks = refl }

-- where the reading of a line ends
abbrev pub Passed : List ℕ → ℕ → ℕ → ℕ → Type 0
Passed s from next valid = NextFrom s from next × ValidTo s from next valid

module _ {s : List ℕ} {from p : ℕ} (i : Passing s from p) where
  module _ {c n : ℕ} (e : decode (drop p s) ≡ Char c n) where
    pub here : codes (drop p s) ≡ c ∷ codes (drop (p + n) s)
    here = codes_at_lem s p c n e i.inside

    behind : SameCheck s from (p + n)
    behind = i.checks ∙ check-at s p c n e i.inside

    pub pass_fits : (1 ≤ n) × (p + n ≤ length s)
    pass_fits = char_fits s p c n e i.inside

    pub pass-more : (c ≡ 0x0A → ⊥) → Passing s from (p + n)
    pass-more f = let l = pass_fits in record { along = omega (arith, i.along); inside = omega arith; onward = i.onward ∙ after_more _ _ _ here f; checks = behind }

    -- a line feed
    pub pass_feed : c ≡ 0x0A → Passed s from (p + n) (p + n)
    pass_feed f =
        let l = pass_fits in (
          record { onward = sym (i.onward ∙ after_feed _ _ _ here f); inside = omega arith; along = omega (arith, i.along); further = λ h. omega (arith, i.along) },
          record { same = behind; level = λ h. refl },
        )

  -- nothing more
  next-none : codes (drop p s) ≡ [] → NextFrom s from (length s)
  next-none e =
      record {
        onward = codes_end s (length s) (omega arith) ∙ sym (i.onward ∙ after_nil _ e);
        inside = omega arith;
        along = omega (arith, i.along, i.inside);
        further = λ h. h;
      }

  pub pass_stop : codes (drop p s) ≡ [] → Passed s from (length s) p
  pass_stop e = (next-none e, record { same = i.checks; level = λ h. absurd (omega arith) })

  pub pass_end : length s ≤ p → Passed s from p p
  pass_end h =
      let e : length s ≡ p = omega (arith, i.inside) in
      (subst (NextFrom s from) e (next-none (codes_end s p h)), record { same = i.checks; level = λ g. refl })
