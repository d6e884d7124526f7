use mathlib.Core.Path.{refl}
use Rattle.clauses.specs.Spelled.{input_text}
use Rattle.recognizer.specs.slots.ShapedTexts.{on_sheet}
use Rattle.recognizer.proofs.slots.put_inputs.Given as goal

abbrev pub ghost-put_each : goal.ghost-put_each
ghost-put_each a = record { texts = on_sheet input_text a.shaped; size = 2; alike = λ i. refl }
