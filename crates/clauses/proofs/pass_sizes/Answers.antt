-- `clauses::pass_sizes` meets its contract.
use Rattle.lists.proofs.AnswerLaws.{refused-ok}
use Rattle.clauses.proofs.ShapeLaws.{size-entries, size-notes, sizes_noted, sizes_bare, sizes_fit}
use Rattle.clauses.proofs.pass_sizes.Goals as goal
use Rattle.clauses.proofs.pass_sizes.Goals.{else-a-gt0-via-then-a-gt0+else-rows-a, else-a-gt0-via-else-a-gt0}

pub returns-then-rows-s : goal.returns-then-rows-s
returns-then-rows-s c = record { sizes = size-entries _ _ _ c.if-rows-s.true; rules = refused-ok }

pub returns-then-rows-a : goal.returns-then-rows-a
returns-then-rows-a c =
    record { sizes = size-notes _ _ _ c.if-rows-s.false c.if-a-gt0.true c.if-rows-a.true-raw; rules = refused-ok }

pub returns : goal.returns
returns c =
    let e = c.if-rows-s.false in
    record {
      sizes = elim c.else-a-gt0.branch [
        | else-a-gt0-via-then-a-gt0+else-rows-a w ↦ sizes_noted _ _ _ e w.if-a-gt0.true w.if-rows-a.false-raw
        | else-a-gt0-via-else-a-gt0 w ↦ sizes_bare _ _ _ e w.if-a-gt0.false
      ];
      rules = λ z. sizes_fit _ _ _ e c.requires.0;
    }
