-- `characters::encoding::put_code` meets its contract.
use borrow.Author.Rules.{rules}
use Rattle.characters.specs.utf8.Utf8.{encode}
use Rattle.characters.proofs.utf8.Utf8Laws.{encode1, encode2, encode3, encode4}
use Rattle.characters.proofs.encoding.Stored.{stored1, stored2, stored3, stored4}
use Rattle.characters.proofs.encoding.put_code.Goals as goal

pub returns-then-c-le127 : goal.returns-then-c-le127
returns-then-c-le127 c =
    let a = c.args in
    stored1 (encode a.c) a.out.now a.at c.requires c.put_byte.ensures (encode1 a.c (search rules))

pub returns-then-c-le2047 : goal.returns-then-c-le2047
returns-then-c-le2047 c =
    let a = c.args in
    stored2 (encode a.c) a.out.now a.at c.requires c.put_byte-then-c-le2047.ensures c.put_byte-then-c-le2047-2.ensures (encode2 a.c (search rules) (search rules))

pub returns-then-c-le65535 : goal.returns-then-c-le65535
returns-then-c-le65535 c =
    let a = c.args in
    stored3 (encode a.c) a.out.now a.at c.requires c.put_byte-then-c-le65535.ensures c.put_byte-then-c-le65535-2.ensures c.put_byte-then-c-le65535-3.ensures (encode3 a.c (search rules) (search rules))

pub returns : goal.returns
returns c =
    let a = c.args in
    stored4 (encode a.c) a.out.now a.at c.requires c.put_byte-2.ensures c.put_byte-3.ensures c.put_byte-4.ensures c.put_byte-5.ensures (encode4 a.c (search rules))
