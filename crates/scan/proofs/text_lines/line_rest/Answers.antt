-- `scan::text_lines::line_rest` meets its contract: the last code point is known by its place.
use mathlib.Core.Path.{refl, sym, ◌∙◌}
use native.Mathlib.Omega.{arith}
use lib.ListN.{drop}
use Rattle.characters.specs.utf8.Utf8.{decode}
use Rattle.scan.specs.declared.text_lines.Seen.TheVariants.{Text, White, LineFeed, Nothing}
use Rattle.characters.proofs.white_space.WhiteLaws.{dark_no_feed}
use Rattle.scan.proofs.text_lines.LineReading.{scan_start, scan_fits, scan_white, scan_dark, scan_feed, scan_stop, scan_end, found_in}
use Rattle.scan.proofs.text_lines.SeenLaws.{Told, told, feed_byte, none_left}
use Rattle.scan.proofs.text_lines.line_rest.Goals as goal
use Rattle.scan.proofs.text_lines.line_rest.Goals.{In-Text, In-White}

pub loop-p-init : goal.loop-p-init
loop-p-init c = scan_start _ _ c.requires

text : (c : In-Text) → Told (decode (drop c.loop-p.p c.args.s.now)) (Text c.in-Text.n)
text c = told _ _ (sym c.in-Text.is ∙ c.seen_at-e.ensures)

pub overflow_add-p : goal.overflow_add-p
overflow_add-p c = omega (arith, scan_fits c.loop-p.invariant (text c).0)

pub loop-p-smaller-in-Text : goal.loop-p-smaller-in-Text
loop-p-smaller-in-Text c = omega (arith, scan_fits c.loop-p.invariant (text c).0)

pub loop-p-preserved-in-Text : goal.loop-p-preserved-in-Text
loop-p-preserved-in-Text c = scan_dark c.loop-p.invariant (text c).0 (dark_no_feed (text c).1) (text c).1

white : (c : In-White) → Told (decode (drop c.loop-p.p c.args.s.now)) (White c.in-White.n)
white c = told _ _ (sym c.in-White.is ∙ c.seen_at-e.ensures)

pub overflow_add-p-in-White : goal.overflow_add-p-in-White
overflow_add-p-in-White c = omega (arith, scan_fits c.loop-p.invariant (white c).0)

pub loop-p-smaller : goal.loop-p-smaller
loop-p-smaller c = omega (arith, scan_fits c.loop-p.invariant (white c).0)

pub loop-p-preserved : goal.loop-p-preserved
loop-p-preserved c = scan_white c.loop-p.invariant (white c).0 (white c).1.0 (white c).1.1

pub returns-in-LineFeed : goal.returns-in-LineFeed
returns-in-LineFeed c =
    let feed = told _ LineFeed (sym c.in-LineFeed.is ∙ c.seen_at-e.ensures) in let w = found_in _ c.rest_of.ensures (scan_feed c.loop-p.invariant (feed_byte _ feed) refl) in record { rest = w.0; valid = w.1 }

pub returns-in-Nothing : goal.returns-in-Nothing
returns-in-Nothing c =
    let none = told _ Nothing (sym c.in-Nothing.is ∙ c.seen_at-e.ensures) in let w = found_in _ c.rest_of-in-Nothing.ensures (scan_stop c.loop-p.invariant (none_left _ none)) in record { rest = w.0; valid = w.1 }

pub returns : goal.returns
returns c = let w = found_in _ c.rest_of-2.ensures (scan_end c.loop-p.invariant c.loop-p-test.false) in record { rest = w.0; valid = w.1 }
