-- `record::put_word` meets its contract.
use mathlib.Core.Path.{ap, ◌∙◌}
use Rattle.lists.specs.Put.{put}
use Rattle.record.proofs.put_word.Goals as goal

pub returns : goal.returns
returns c = c.put_bytes.ensures ∙ ap (put c.args.out.now c.args.at) c.to_le_bytes-bytes.ensures
