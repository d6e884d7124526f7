-- `characters::code_points::known` meets its contract.
use native.Mathlib.Omega.{arith}
use Rattle.characters.proofs.code_points.KnownLaws.{First, Second, Third, Fourth, known-first, known1, known_second, known2, known_third, known3, known_fourth, known4}
use Rattle.characters.proofs.code_points.known.Goals as goal
use Rattle.characters.proofs.code_points.known.Goals.{Else-a-le127, Else-a-le223, Else-a-le239, Start}

-- what is known of the bytes, by the tests of the first
first : (g : Start) → First g.args.s.now g.args.at
first g = known-first g.args.s.now g.args.at g.requires

second : (c : Else-a-le127) → Second c.args.s.now c.args.at
second c = known_second c.args.s.now c.args.at c.requires c.if-a-le127.false

third : (c : Else-a-le223) → Third c.args.s.now c.args.at
third c = known_third c.args.s.now c.args.at c.requires c.if-a-le223.false

fourth : (c : Else-a-le239) → Fourth c.args.s.now c.args.at
fourth c = known_fourth c.args.s.now c.args.at c.requires c.if-a-le239.false

pub bounds-s-at : goal.bounds-s-at
bounds-s-at c = omega (arith, first (goal.at.bounds-s-at c).Start)

pub overflow_cast-a : goal.overflow_cast-a
overflow_cast-a c = omega (arith, first (goal.at.overflow_cast-a c).Start)

pub returns-then-a-le127 : goal.returns-then-a-le127
returns-then-a-le127 c = known1 c.args.s.now c.args.at c.requires c.if-a-le127.true

pub overflow_add-b : goal.overflow_add-b
overflow_add-b c = omega (arith, second c)

pub bounds-s-at-2 : goal.bounds-s-at-2
bounds-s-at-2 c = omega (arith, second (goal.at.bounds-s-at-2 c).Else-a-le127)

pub overflow_cast-b : goal.overflow_cast-b
overflow_cast-b c = omega (arith, second (goal.at.overflow_cast-b c).Else-a-le127)

pub overflow_add-result : goal.overflow_add-result
overflow_add-result c = omega (arith, second (goal.at.overflow_add-result c).Else-a-le127)

pub overflow_sub-result : goal.overflow_sub-result
overflow_sub-result c = omega (arith, second (goal.at.overflow_sub-result c).Else-a-le127)

pub returns-then-a-le223 : goal.returns-then-a-le223
returns-then-a-le223 c = known2 c.args.s.now c.args.at c.requires c.if-a-le127.false c.if-a-le223.true

pub overflow_add-c : goal.overflow_add-c
overflow_add-c c = omega (arith, third c)

pub bounds-s-at-3 : goal.bounds-s-at-3
bounds-s-at-3 c = omega (arith, third (goal.at.bounds-s-at-3 c).Else-a-le223)

pub overflow_cast-c : goal.overflow_cast-c
overflow_cast-c c = omega (arith, third (goal.at.overflow_cast-c c).Else-a-le223)

pub overflow_mul-result-then-a-le239-2 : goal.overflow_mul-result-then-a-le239-2
overflow_mul-result-then-a-le239-2 c = omega (arith, second (goal.at.overflow_mul-result-then-a-le239-2 c).Else-a-le127, third (goal.at.overflow_mul-result-then-a-le239-2 c).Else-a-le223)

pub overflow_add-result-then-a-le239 : goal.overflow_add-result-then-a-le239
overflow_add-result-then-a-le239 c = omega (arith, second (goal.at.overflow_add-result-then-a-le239 c).Else-a-le127, third (goal.at.overflow_add-result-then-a-le239 c).Else-a-le223)

pub overflow_add-result-then-a-le239-2 : goal.overflow_add-result-then-a-le239-2
overflow_add-result-then-a-le239-2 c = omega (arith, second (goal.at.overflow_add-result-then-a-le239-2 c).Else-a-le127, third (goal.at.overflow_add-result-then-a-le239-2 c).Else-a-le223)

pub overflow_sub-result-then-a-le239 : goal.overflow_sub-result-then-a-le239
overflow_sub-result-then-a-le239 c = omega (arith, second (goal.at.overflow_sub-result-then-a-le239 c).Else-a-le127, third (goal.at.overflow_sub-result-then-a-le239 c).Else-a-le223)

pub returns-then-a-le239 : goal.returns-then-a-le239
returns-then-a-le239 c = known3 c.args.s.now c.args.at c.requires c.if-a-le223.false c.if-a-le239.true

pub overflow_add-d : goal.overflow_add-d
overflow_add-d c = omega (arith, fourth c)

pub bounds-s-at-4 : goal.bounds-s-at-4
bounds-s-at-4 c = omega (arith, fourth (goal.at.bounds-s-at-4 c).Else-a-le239)

pub overflow_cast-d : goal.overflow_cast-d
overflow_cast-d c = omega (arith, fourth (goal.at.overflow_cast-d c).Else-a-le239)

pub overflow_mul-result-2 : goal.overflow_mul-result-2
overflow_mul-result-2 c = omega (arith, first (goal.at.overflow_mul-result-2 c).Start, second (goal.at.overflow_mul-result-2 c).Else-a-le127, third (goal.at.overflow_mul-result-2 c).Else-a-le223, fourth (goal.at.overflow_mul-result-2 c).Else-a-le239)

pub overflow_mul-result-3 : goal.overflow_mul-result-3
overflow_mul-result-3 c = omega (arith, first (goal.at.overflow_mul-result-3 c).Start, second (goal.at.overflow_mul-result-3 c).Else-a-le127, third (goal.at.overflow_mul-result-3 c).Else-a-le223, fourth (goal.at.overflow_mul-result-3 c).Else-a-le239)

pub overflow_add-result-2 : goal.overflow_add-result-2
overflow_add-result-2 c = omega (arith, first (goal.at.overflow_add-result-2 c).Start, second (goal.at.overflow_add-result-2 c).Else-a-le127, third (goal.at.overflow_add-result-2 c).Else-a-le223, fourth (goal.at.overflow_add-result-2 c).Else-a-le239)

pub overflow_mul-result-4 : goal.overflow_mul-result-4
overflow_mul-result-4 c = omega (arith, first (goal.at.overflow_mul-result-4 c).Start, second (goal.at.overflow_mul-result-4 c).Else-a-le127, third (goal.at.overflow_mul-result-4 c).Else-a-le223, fourth (goal.at.overflow_mul-result-4 c).Else-a-le239)

pub overflow_add-result-3 : goal.overflow_add-result-3
overflow_add-result-3 c = omega (arith, first (goal.at.overflow_add-result-3 c).Start, second (goal.at.overflow_add-result-3 c).Else-a-le127, third (goal.at.overflow_add-result-3 c).Else-a-le223, fourth (goal.at.overflow_add-result-3 c).Else-a-le239)

pub overflow_add-result-4 : goal.overflow_add-result-4
overflow_add-result-4 c = omega (arith, first (goal.at.overflow_add-result-4 c).Start, second (goal.at.overflow_add-result-4 c).Else-a-le127, third (goal.at.overflow_add-result-4 c).Else-a-le223, fourth (goal.at.overflow_add-result-4 c).Else-a-le239)

pub overflow_sub-result-2 : goal.overflow_sub-result-2
overflow_sub-result-2 c = omega (arith, first (goal.at.overflow_sub-result-2 c).Start, second (goal.at.overflow_sub-result-2 c).Else-a-le127, third (goal.at.overflow_sub-result-2 c).Else-a-le223, fourth (goal.at.overflow_sub-result-2 c).Else-a-le239)

pub returns : goal.returns
returns c = known4 c.args.s.now c.args.at c.requires c.if-a-le239.false
