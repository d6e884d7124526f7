-- `characters::utf8::passed` meets its contract.
use mathlib.Core.Path.{refl, sym, ap, ◌∙◌}
use Prim.Native.Nat.{◌<◌}
use lib.ListN.{length, drop}
use borrow.Author.Rules.{rules}
use Rattle.characters.specs.utf8.Passed.{bytes_in}
use Rattle.characters.proofs.utf8.Utf8Laws.{decode_row, decode_ascii, encode2, encode3, encode4}
use Rattle.characters.proofs.utf8.RareLaws.{bad_code, high_code, told_code}
use Rattle.characters.proofs.utf8.passed.Goals as goal
use Rattle.characters.proofs.utf8.passed.Goals.{In_ok-c}

pub returns-then-a-le127 : goal.returns-then-a-le127
returns-then-a-le127 c =
    let a = c.args in
    sym (ap bytes_in (decode_ascii a.s.now a.at (search rules) (search rules)))

pub returns-then-s-at-gt2 : goal.returns-then-s-at-gt2
returns-then-s-at-gt2 c =
    let a = c.args in
    c.bytes_in.ensures ∙ ap bytes_in (c.two_more.ensures ∙ sym (decode_row a.s.now a.at (search rules) 3 refl (search rules)))

pub returns-in_err-c : goal.returns-in_err-c
returns-in_err-c c = rw c.from_residual.ensures (sym (ap bytes_in (bad_code c.args.s.now c.args.at c.requires c.in_err-c.ensures)))

-- the code point is no ASCII
past : (c : In_ok-c) → 0x7F < c.in_ok-c.c
past c = high_code c.args.s.now c.args.at (search rules) (search rules) _ c.in_ok-c.ensures

pub returns-then-c-le2047 : goal.returns-then-c-le2047
returns-then-c-le2047 c =
    let a = c.args in
    sym (ap bytes_in (told_code (drop a.at a.s.now) _ 2 c.in_ok-c.ensures (ap length (encode2 _ (past (goal.at.returns-then-c-le2047 c).In_ok-c) c.if-c-le2047.true))))

pub returns-then-c-le65535 : goal.returns-then-c-le65535
returns-then-c-le65535 c =
    let a = c.args in
    sym (ap bytes_in (told_code (drop a.at a.s.now) _ 3 c.in_ok-c.ensures (ap length (encode3 _ c.if-c-le2047.false c.if-c-le65535.true))))

pub returns : goal.returns
returns c =
    let a = c.args in
    sym (ap bytes_in (told_code (drop a.at a.s.now) _ 4 c.in_ok-c.ensures (ap length (encode4 _ c.if-c-le65535.false))))
