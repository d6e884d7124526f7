use Rattle.clauses.specs.Spelled.{entry_texts}
use Rattle.recognizer.specs.slots.ShapedTexts.{on_sheet}
use Rattle.recognizer.proofs.slots.ShapeRoom.{for_rule, entry_length}
use Rattle.recognizer.proofs.slots.put_rules.Given as goal

abbrev pub ghost-put_each : goal.ghost-put_each
ghost-put_each a = record { texts = on_sheet entry_texts a.shaped; size = for_rule a.shaped.shape; alike = entry_length _ _ a.shaped.shape }
