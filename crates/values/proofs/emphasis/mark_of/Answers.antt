-- `values::emphasis::mark_of` meets its contract.
use mathlib.Core.Path.{◌≡◌, ◌∙◌}
use Prim.Native.Nat.{ℕ}
use mathlib.Core.List.{List}
use lib.ListN.{drop}
use Rattle.values.specs.emphasis.Emphasis.{marks, emphasised}
use Rattle.values.proofs.emphasis.Finding.{mark-hit, mark_miss, mark-none, mark-by}
use Rattle.values.proofs.emphasis.mark_of.Goals as goal
use Rattle.values.proofs.emphasis.mark_of.Goals.{Else-is_marked, Else-is_marked-2, Else-is_marked-3, Else-is_marked-4, Else-is_marked-5}

-- the first n marks are not those of p
abbrev Left : List ℕ → ℕ → Type 0
Left p n = emphasised marks p ≡ emphasised (drop n marks) p

left1 : (c : Else-is_marked) → Left c.args.p.now 1
left1 c = mark_miss _ _ _ c.is_marked.ensures c.if-is_marked.false

left2 : (c : Else-is_marked-2) → Left c.args.p.now 1 → Left c.args.p.now 2
left2 c l = l ∙ mark_miss _ _ _ c.is_marked-2.ensures c.if-is_marked-2.false

left3 : (c : Else-is_marked-3) → Left c.args.p.now 2 → Left c.args.p.now 3
left3 c l = l ∙ mark_miss _ _ _ c.is_marked-3.ensures c.if-is_marked-3.false

left4 : (c : Else-is_marked-4) → Left c.args.p.now 3 → Left c.args.p.now 4
left4 c l = l ∙ mark_miss _ _ _ c.is_marked-4.ensures c.if-is_marked-4.false

left5 : (c : Else-is_marked-5) → Left c.args.p.now 4 → Left c.args.p.now 5
left5 c l = l ∙ mark_miss _ _ _ c.is_marked-5.ensures c.if-is_marked-5.false

pub returns-then-is_marked : goal.returns-then-is_marked
returns-then-is_marked c = mark-by (mark-hit _ _ _ c.is_marked.ensures c.if-is_marked.true) c.bare.ensures

pub returns-then-is_marked-2 : goal.returns-then-is_marked-2
returns-then-is_marked-2 c = mark-by (left1 (goal.at.returns-then-is_marked-2 c).Else-is_marked ∙ mark-hit _ _ _ c.is_marked-2.ensures c.if-is_marked-2.true) c.bare-then-is_marked-2.ensures

pub returns-then-is_marked-3 : goal.returns-then-is_marked-3
returns-then-is_marked-3 c = mark-by (left2 (goal.at.returns-then-is_marked-3 c).Else-is_marked-2 (left1 (goal.at.returns-then-is_marked-3 c).Else-is_marked) ∙ mark-hit _ _ _ c.is_marked-3.ensures c.if-is_marked-3.true) c.bare-then-is_marked-3.ensures

pub returns-then-is_marked-4 : goal.returns-then-is_marked-4
returns-then-is_marked-4 c = mark-by (left3 (goal.at.returns-then-is_marked-4 c).Else-is_marked-3 (left2 (goal.at.returns-then-is_marked-4 c).Else-is_marked-2 (left1 (goal.at.returns-then-is_marked-4 c).Else-is_marked)) ∙ mark-hit _ _ _ c.is_marked-4.ensures c.if-is_marked-4.true) c.bare-then-is_marked-4.ensures

pub returns-then-is_marked-5 : goal.returns-then-is_marked-5
returns-then-is_marked-5 c = mark-by (left4 (goal.at.returns-then-is_marked-5 c).Else-is_marked-4 (left3 (goal.at.returns-then-is_marked-5 c).Else-is_marked-3 (left2 (goal.at.returns-then-is_marked-5 c).Else-is_marked-2 (left1 (goal.at.returns-then-is_marked-5 c).Else-is_marked))) ∙ mark-hit _ _ _ c.is_marked-5.ensures c.if-is_marked-5.true) c.bare-then-is_marked-5.ensures

pub returns : goal.returns
returns c = left5 c (left4 (goal.at.returns c).Else-is_marked-4 (left3 (goal.at.returns c).Else-is_marked-3 (left2 (goal.at.returns c).Else-is_marked-2 (left1 (goal.at.returns c).Else-is_marked)))) ∙ mark-none _
