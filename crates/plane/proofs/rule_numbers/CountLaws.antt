-- Counting along a line.
use Rattle.std.specs.Prelude.{Ok, Err, None, Some}
use mathlib.Core.Path.{◌≡◌, refl, sym, ◌∙◌}
use mathlib.Core.List.{List}
use Prim.Native.Nat.{ℕ, ◌+◌, ◌≤◌, ◌<◌}
use native.Mathlib.Omega.{arith}
use lib.ListN.{drop}
use borrow.Author.Tests.{eq-eqb, ne_eqb}
use Rattle.model.specs.declared.Cell.{Cell}
use Rattle.model.specs.declared.Refusal.TheVariants.{PlaneMalformed, InvalidRuleNumber}
use Rattle.plane.specs.rule_numbers.Numbering.{number_in, counted}
use Rattle.plane.specs.rule_numbers.Line.{slot_of, line_of}
use Rattle.plane.proofs.rule_numbers.LineLaws.{line_at, line_end}
use Rattle.plane.specs.declared.rule_numbers.Line.{Line}

-- the numbers 1 to m stand from a place on, up to k
pub record Counts (text : ℕ → List ℕ) (d : List ℕ) (line : Line) (n from k m : ℕ) : Type 0 where
  pub within : k ≤ n
  pub few : m ≤ k
  pub rest : counted text 0 (drop from (line_of d line n)) ≡ counted text m (drop k (line_of d line n))

pub count-start : (text : ℕ → List ℕ) (d : List ℕ) (line : Line) (n from : ℕ) → from ≤ n → Counts text d line n from from 0
count-start text d line n from h = record { within = h; few = omega arith; rest = refl }

module _ {text : ℕ → List ℕ} {d : List ℕ} {line : Line} {n from k m : ℕ} (p : Counts text d line n from k m) where
  pub count_end : n ≤ k → Ok m ≡ counted text 0 (drop from (line_of d line n))
  unfolding counted
  count_end h = sym (p.rest ∙ rw (line_end d line n k h))

  module _ (h : k < n) where
    pub count_missing : None ≡ slot_of d line k → Err PlaneMalformed ≡ counted text 0 (drop from (line_of d line n))
    unfolding counted
    count_missing e = sym (p.rest ∙ rw (line_at d line n k h, sym e))

    module _ (c : Cell) (e : Some c ≡ slot_of d line k) where
      pub count_other : None ≡ number_in text c → Ok 0 ≡ counted text 0 (drop from (line_of d line n))
      unfolding counted
      count_other q = sym (p.rest ∙ rw (line_at d line n k h, sym e, sym q))

      module _ (x : ℕ) (q : Some x ≡ number_in text c) where
        pub count_wrong : (x ≡ m + 1 → ⊥) → Err (InvalidRuleNumber x) ≡ counted text 0 (drop from (line_of d line n))
        unfolding counted
        count_wrong t = sym (p.rest ∙ rw (line_at d line n k h, sym e, sym q, ne_eqb x (m + 1) t))

        pub count_on : x ≡ m + 1 → Counts text d line n from (k + 1) x
        unfolding counted
        count_on t =
            let f = p.few in
            record { within = omega arith; few = omega arith; rest = p.rest ∙ rw (line_at d line n k h, sym e, sym q, eq-eqb x (m + 1) t, t) }
