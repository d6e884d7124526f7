-- The examples of document 01, as one fact about the definitions, by computation.
use mathlib.Core.Path.{refl}
use Rattle.lists.specs.Picture.{within}
use Rattle.lists.specs.Run.{run}
use Rattle.plane.specs.hit_policies.Letters.{same_text, by_letters}
use Rattle.plane.specs.numerals.RuleNumbers.{digits, number_of}
use Rattle.characters.specs.white_space.Lines.{lines, texts, last_of}
use Rattle.characters.specs.white_space.Trim.{trim_start, trim_end, trim, trim_start_utf8, trim_utf8}
use Rattle.characters.specs.utf8.Utf8.{more, by, decode, check, read, encode, encodes}
use Rattle.characters.specs.white_space.White.{among}
use Rattle.values.specs.emphasis.Commas.{parts}
use Rattle.values.specs.emphasis.Emphasis.{starts_with, ends_with, strip_start, strip_end, strip, emphasised, first_marked}
use Rattle.values.specs.rewriting.Replaced.{replace_all}
use Rattle.values.specs.Values.{values_of}
use Rattle.frames.specs.outline.Outline.{search_from, named_by, outline_by}
use Rattle.plane.specs.rule_numbers.Numbering.{counted}
use Rattle.scan.specs.sheet_rows.Rows.{up_to, collect, widest}
use Rattle.scan.specs.Canvas.{size_of}
use Rattle.scan.specs.Rows.{flat}
use Rattle.canvas.specs.Layers.{drawing_by, sheet_by}
use Rattle.policies.specs.DrawnPolicy.{policy_by}
use Rattle.demands.specs.Examples.{Examples}

pub examples : Examples
unfolding policy_by sheet_by drawing_by size_of outline_by search_from named_by lines texts collect up_to widest flat within last_of counted run same_text by_letters digits number_of more by decode check read encode encodes among trim_start trim_end trim trim_start_utf8 trim_utf8 parts starts_with ends_with strip_start strip_end strip emphasised first_marked replace_all values_of
examples =
    record {
      empty_text = refl;
      corner = refl;
      edge = refl;
      collect_min = refl;
      small_c = refl;
      backticks = refl;
      three_stars = refl;
      one_star = refl;
      everywhere = refl;
      one_three = refl;
      one_text = refl;
      plus_one = refl;
      too_large = refl;
      nineteen = refl;
    }
