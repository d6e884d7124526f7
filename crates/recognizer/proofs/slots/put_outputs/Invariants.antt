use mathlib.Core.Path.{refl}
use Rattle.clauses.specs.Spelled.{output_text}
use Rattle.recognizer.specs.slots.ShapedTexts.{on_sheet}
use Rattle.recognizer.proofs.slots.put_outputs.Given as goal

abbrev pub ghost-put_each : goal.ghost-put_each
ghost-put_each a = record { texts = on_sheet output_text a.shaped; size = 3; alike = λ i. refl }
