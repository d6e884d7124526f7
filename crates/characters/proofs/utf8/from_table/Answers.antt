-- `characters::utf8::from_table` meets its contract.
use mathlib.Core.Path.{refl, sym, ◌∙◌}
use Rattle.characters.proofs.utf8.Utf8Laws.{decode_end, decode_ascii, decode_row, decode_gap}
use borrow.Author.Rules.{rules}
use Rattle.characters.proofs.utf8.from_table.Goals as goal

pub returns-then-s-at : goal.returns-then-s-at
returns-then-s-at c = sym (decode_end c.args.s.now c.args.at (search rules))

pub returns-then-a-le127 : goal.returns-then-a-le127
returns-then-a-le127 c = sym (decode_ascii c.args.s.now c.args.at (search rules) (search rules))

pub returns-then-a-le193 : goal.returns-then-a-le193
returns-then-a-le193 c = sym (decode_gap c.args.s.now c.args.at (search rules) 0 refl (search rules) (search rules))

pub returns-then-a-le223 : goal.returns-then-a-le223
returns-then-a-le223 c = c.more.ensures ∙ sym (decode_row c.args.s.now c.args.at (search rules) 1 refl (search rules))

pub returns-then-a-le224 : goal.returns-then-a-le224
returns-then-a-le224 c = c.more-then-a-le224.ensures ∙ sym (decode_row c.args.s.now c.args.at (search rules) 2 refl (search rules))

pub returns-then-a-le236 : goal.returns-then-a-le236
returns-then-a-le236 c = c.more-then-a-le236.ensures ∙ sym (decode_row c.args.s.now c.args.at (search rules) 3 refl (search rules))

pub returns-then-a-le237 : goal.returns-then-a-le237
returns-then-a-le237 c = c.more-then-a-le237.ensures ∙ sym (decode_row c.args.s.now c.args.at (search rules) 4 refl (search rules))

pub returns-then-a-le239 : goal.returns-then-a-le239
returns-then-a-le239 c = c.more-then-a-le239.ensures ∙ sym (decode_row c.args.s.now c.args.at (search rules) 5 refl (search rules))

pub returns-then-a-le240 : goal.returns-then-a-le240
returns-then-a-le240 c = c.more-then-a-le240.ensures ∙ sym (decode_row c.args.s.now c.args.at (search rules) 6 refl (search rules))

pub returns-then-a-le243 : goal.returns-then-a-le243
returns-then-a-le243 c = c.more-then-a-le243.ensures ∙ sym (decode_row c.args.s.now c.args.at (search rules) 7 refl (search rules))

pub returns-then-a-le244 : goal.returns-then-a-le244
returns-then-a-le244 c = c.more-then-a-le244.ensures ∙ sym (decode_row c.args.s.now c.args.at (search rules) 8 refl (search rules))

pub returns : goal.returns
returns c = sym (decode_gap c.args.s.now c.args.at (search rules) 8 refl (search rules) (search rules))
