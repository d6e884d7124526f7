-- `record::record_texts::put_text` meets its contract.
use mathlib.Core.Path.{refl}
use Rattle.record.proofs.record_texts.Steps.{text_written}
use Rattle.record.proofs.record_texts.put_text.Goals as goal

pub returns : goal.returns
returns c =
    record { value = refl; out_after = text_written _ _ _ _ _ _ c.put_slot.ensures c.put_bytes.ensures }
