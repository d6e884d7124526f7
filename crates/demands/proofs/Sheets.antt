-- What some sheets state, from the bytes of the drawing, by computation: the sheet of document 01 states the policy whose record that document
-- prints, and a joined box states what boxes apart with the same text state.
use Rattle.std.specs.Prelude.{Ok, None, Some}
use mathlib.Core.Path.{◌≡◌, refl}
use mathlib.Core.List.{List, [], ◌∷◌, ◌++◌}
use Prim.Native.Nat.{ℕ}
use Prim.Native.String.{String}
use Rattle.lists.specs.Answer.{each, those}
use Rattle.lists.specs.OneOf.{one_of, any_at}
use Rattle.lists.specs.Picture.{within, in_rect}
use Rattle.lists.specs.Run.{run}
use Rattle.characters.specs.white_space.Lines.{lines, texts, last_of}
use Rattle.characters.specs.white_space.Trim.{trim_start, trim_end, trim}
use Rattle.characters.specs.utf8.Utf8.{more, by, decode, check, read, encode, encodes}
use Rattle.characters.specs.white_space.White.{among}
use Rattle.plane.specs.hit_policies.Letters.{same_text, by_letters}
use Rattle.plane.specs.numerals.RuleNumbers.{digits, number_of}
use Rattle.plane.specs.placement.Orientation.{holds_in, holds, oriented_of}
use Rattle.plane.specs.rule_numbers.Numbering.{last, place_behind, counted, rule_numbers_of}
use Rattle.plane.specs.placement.Placement.{placement_of}
use Rattle.cells.specs.turning.Upright.{upright_of}
use Rattle.plane.specs.Sheet.{stated_sheet}
use Rattle.clauses.specs.cell_tests.Readings.{every}
use Rattle.clauses.specs.cell_tests.SheetCells.{region_at}
use Rattle.clauses.specs.allowed.Allowed.{allowed_of}
use Rattle.clauses.specs.Clauses.{text_at, optional_at, entries_of, one_output, outputs_of, notes_of, found_from}
use Rattle.clauses.specs.Readings.{along}
use Rattle.cells.specs.Places.{place_in_row, place_from}
use Rattle.clauses.specs.Sizes.{uneven, sized}
use Rattle.clauses.specs.Stated.{stated_by, clauses_of}
use Rattle.recognizer.specs.StatedPolicy.{sheet_policy, stated_policy}
use Rattle.scan.specs.sheet_rows.Rows.{up_to, collect, widest}
use Rattle.scan.specs.Canvas.{size_of}
use Rattle.scan.specs.Rows.{flat}
use Rattle.walks.specs.Frame.{frame_of}
use Rattle.walks.specs.Walk.{walk_from}
use Rattle.frames.specs.Body.{body_of}
use Rattle.frames.specs.outline.Outline.{search_from, named_by, table_of, outline_by}
use Rattle.canvas.specs.body_layer.Body.{top_of, body_code, shaded_code}
use Rattle.canvas.specs.grid_layer.Grid.{carried_code}
use Rattle.canvas.specs.grid_layer.Passes.{line_carried}
use Rattle.canvas.specs.thin_layer.Thin.{thin_of}
use Rattle.frames.specs.regions.Regions.{regions_by}
use Rattle.frames.specs.lookup.Lookup.{region_from}
use Rattle.text_planes.specs.step.PlaneStep.{plane_by}
use Rattle.text_planes.specs.texts.RegionText.{behind, text_of, packed, texts_of}
use Rattle.text_planes.specs.DrawnPlane.{text_plane_by}
use Rattle.canvas.specs.Layers.{drawing_by, sheet_by}
use Rattle.text_planes.specs.RegionTexts.{region_texts_by}
use Rattle.policies.specs.DrawnPolicy.{policy_by, walked_policy}
use Rattle.model.specs.declared.HitPolicy.TheVariants.{Unique}
use Rattle.model.specs.declared.Orientation.TheVariants.{RulesAsRows}
use Rattle.record.specs.Policy.{Text, input, output, rule, Policy}
use Rattle.record.proofs.Sample.{sample}
use Rattle.demands.specs.Examples.{utf8}

-- lines of a sheet
abbrev sheet_of : List String → List ℕ
sheet_of [] = []
sheet_of (l ∷ ls) = utf8 l ++ (10 ∷ sheet_of ls)

abbrev fares : List ℕ
fares =
    sheet_of (
    "┌───┬──────╥──────┐"
    ∷ "│ U │ Zone ║ Fare │"
    ∷ "╞═══╪══════╬══════╡"
    ∷ "│ 1 │ \"A\"  ║ 120  │"
    ∷ "└───┴──────╨──────┘"
    ∷ [])

-- an entry in a box that two rules share, and in a box for each
abbrev joined : List ℕ
joined =
    sheet_of (
    "┌───┬───╥───┐"
    ∷ "│ U │ a ║ b │"
    ∷ "╞═══╪═══╬═══╡"
    ∷ "│ 1 │   ║ 3 │"
    ∷ "├───┤ - ╟───┤"
    ∷ "│ 2 │   ║ 4 │"
    ∷ "└───┴───╨───┘"
    ∷ [])

abbrev apart : List ℕ
apart =
    sheet_of (
    "┌───┬───╥───┐"
    ∷ "│ U │ a ║ b │"
    ∷ "╞═══╪═══╬═══╡"
    ∷ "│ 1 │ - ║ 3 │"
    ∷ "├───┼───╫───┤"
    ∷ "│ 2 │ - ║ 4 │"
    ∷ "└───┴───╨───┘"
    ∷ [])

abbrev text : String → Text
text s = Some (utf8 s)

-- "so a joined box gives its text to every cell that it covers"
abbrev two_rules : Policy
two_rules =
    record {
      name = None;
      hit = Unique;
      orientation = RulesAsRows;
      label = text "b";
      inputs = input (text "a") None ∷ [];
      outputs = output (text "b") None None ∷ [];
      annotations = [];
      rules = rule (text "-" ∷ []) (text "3" ∷ []) [] ∷ rule (text "-" ∷ []) (text "4" ∷ []) [] ∷ [];
    }

pub sheets_stated : (walked_policy fares ≡ Ok sample) × (walked_policy joined ≡ Ok two_rules) × (walked_policy apart ≡ Ok two_rules)
unfolding each those one_of any_at within in_rect run lines texts last_of trim_start trim_end trim more by decode check read encode encodes among same_text by_letters digits number_of holds_in holds oriented_of last place_behind placement_of counted rule_numbers_of upright_of stated_sheet allowed_of text_at optional_at entries_of one_output outputs_of notes_of found_from along every region_at place_in_row place_from uneven sized stated_by clauses_of sheet_policy stated_policy size_of up_to collect widest flat frame_of walk_from search_from named_by body_of table_of outline_by top_of body_code shaded_code carried_code line_carried thin_of regions_by region_from plane_by behind text_of packed texts_of text_plane_by drawing_by sheet_by region_texts_by policy_by
sheets_stated = (refl, refl, refl)
