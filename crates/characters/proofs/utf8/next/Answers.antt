-- `characters::utf8::next` meets its contract.
use mathlib.Core.Path.{refl, sym, ap, ◌∙◌}
use Prim.Native.Nat.{◌<◌}
use lib.ListN.{length, drop}
use borrow.Author.Rules.{rules}
use Rattle.characters.proofs.utf8.Utf8Laws.{decode_end, decode_row, decode_ascii, encode2, encode3, encode4}
use Rattle.characters.proofs.utf8.RareLaws.{bad_code, high_code, told_code}
use Rattle.characters.proofs.utf8.next.Goals as goal
use Rattle.characters.proofs.utf8.next.Goals.{In-Some}

pub returns-then-s-at : goal.returns-then-s-at
returns-then-s-at c =
    let a = c.args in
    sym (decode_end a.s.now a.at (search rules))

pub returns-then-a-le127 : goal.returns-then-a-le127
returns-then-a-le127 c =
    let a = c.args in
    sym (decode_ascii a.s.now a.at (search rules) (search rules))

pub returns-then-s-at-gt2 : goal.returns-then-s-at-gt2
returns-then-s-at-gt2 c =
    let a = c.args in
    c.two_more.ensures ∙ sym (decode_row a.s.now a.at (search rules) 3 refl (search rules))

pub returns-in_default : goal.returns-in_default
returns-in_default c =
    let a = c.args in
    sym (bad_code a.s.now a.at (search rules) (sym c.in_default.is ∙ c.rare.ensures))

-- the code point is no ASCII
past : (c : In-Some) → 0x7F < c.in-Some.c
past c = high_code c.args.s.now c.args.at (search rules) (search rules) _ (sym c.in-Some.is ∙ c.rare.ensures)

pub returns-then-c-le2047 : goal.returns-then-c-le2047
returns-then-c-le2047 c =
    let a = c.args in
    sym (told_code (drop a.at a.s.now) _ 2 (sym c.in-Some.is ∙ c.rare.ensures) (ap length (encode2 _ (past (goal.at.returns-then-c-le2047 c).In-Some) c.if-c-le2047.true)))

pub returns-then-c-le65535 : goal.returns-then-c-le65535
returns-then-c-le65535 c =
    let a = c.args in
    sym (told_code (drop a.at a.s.now) _ 3 (sym c.in-Some.is ∙ c.rare.ensures) (ap length (encode3 _ c.if-c-le2047.false c.if-c-le65535.true)))

pub returns : goal.returns
returns c =
    let a = c.args in
    sym (told_code (drop a.at a.s.now) _ 4 (sym c.in-Some.is ∙ c.rare.ensures) (ap length (encode4 _ c.if-c-le65535.false)))
