-- `text_planes::texts::gather` meets its contract.
use Rattle.std.proofs.lemmas.Result.{err_from_is_err_and}
use Rattle.text_planes.proofs.texts.Gathering.{gathering_start, gathering_over, gathering_more, gathering_texts, gathering_spans}
use Rattle.text_planes.proofs.texts.gather.Goals as goal

pub loop-k-init : goal.loop-k-init
loop-k-init c = gathering_start c.requires

pub returns-in_err-e-clause-answer : goal.returns-in_err-e-clause-answer
returns-in_err-e-clause-answer c =
    let p = err_from_is_err_and c.from_residual.result c.from_residual.ensures.1 in
    rw (p.1, p.2) (gathering_over c.loop-k.invariant c.loop-k-test.true c.in_err-e.ensures)

pub loop-k-preserved : goal.loop-k-preserved
loop-k-preserved c =
    gathering_more c.loop-k.invariant c.loop-k-test.true c.in_ok-e.ensures c.put_text.auto.bytes

pub returns : goal.returns
returns c = let i = c.loop-k.invariant in record { answer = gathering_texts i c.loop-k-test.false; spans = gathering_spans i c.loop-k-test.false }
