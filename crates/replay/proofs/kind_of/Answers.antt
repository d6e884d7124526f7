-- `replay::kind_of` meets its contract.
use Rattle.replay.proofs.KindLaws.{told, kind-split, kind-drawing, kind-plane, kind-sheet, kind-table, kind_unknown}
use Rattle.replay.proofs.kind_of.Goals as goal

pub returns-then-eq : goal.returns-then-eq
returns-then-eq c = kind-split _ (told _ _ c.eq.ensures c.as_slice.ensures c.if-eq.true)

pub returns-then-eq-2 : goal.returns-then-eq-2
returns-then-eq-2 c = kind-drawing _ (told _ _ c.eq.ensures c.as_slice.ensures c.if-eq.false) (told _ _ c.eq-else-eq.ensures c.as_slice-else-eq.ensures c.if-eq-2.true)

pub returns-then-eq-3 : goal.returns-then-eq-3
returns-then-eq-3 c = kind-plane _ (told _ _ c.eq.ensures c.as_slice.ensures c.if-eq.false) (told _ _ c.eq-else-eq.ensures c.as_slice-else-eq.ensures c.if-eq-2.false) (told _ _ c.eq-else-eq-2.ensures c.as_slice-else-eq-2.ensures c.if-eq-3.true)

pub returns-then-eq-4 : goal.returns-then-eq-4
returns-then-eq-4 c = kind-sheet _ (told _ _ c.eq.ensures c.as_slice.ensures c.if-eq.false) (told _ _ c.eq-else-eq.ensures c.as_slice-else-eq.ensures c.if-eq-2.false) (told _ _ c.eq-else-eq-2.ensures c.as_slice-else-eq-2.ensures c.if-eq-3.false) (told _ _ c.eq-else-eq-3.ensures c.as_slice-else-eq-3.ensures c.if-eq-4.true)

pub returns-then-eq-5 : goal.returns-then-eq-5
returns-then-eq-5 c = kind-table _ (told _ _ c.eq.ensures c.as_slice.ensures c.if-eq.false) (told _ _ c.eq-else-eq.ensures c.as_slice-else-eq.ensures c.if-eq-2.false) (told _ _ c.eq-else-eq-2.ensures c.as_slice-else-eq-2.ensures c.if-eq-3.false) (told _ _ c.eq-else-eq-3.ensures c.as_slice-else-eq-3.ensures c.if-eq-4.false) (told _ _ c.eq-else-eq-4.ensures c.as_slice-else-eq-4.ensures c.if-eq-5.true)

pub returns-else-eq-5 : goal.returns-else-eq-5
returns-else-eq-5 c = kind_unknown _ (told _ _ c.eq.ensures c.as_slice.ensures c.if-eq.false) (told _ _ c.eq-else-eq.ensures c.as_slice-else-eq.ensures c.if-eq-2.false) (told _ _ c.eq-else-eq-2.ensures c.as_slice-else-eq-2.ensures c.if-eq-3.false) (told _ _ c.eq-else-eq-3.ensures c.as_slice-else-eq-3.ensures c.if-eq-4.false) (told _ _ c.eq-else-eq-4.ensures c.as_slice-else-eq-4.ensures c.if-eq-5.false)
