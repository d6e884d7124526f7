-- What the program prints for the bytes that it reads: document 01, "Table record".
use Rattle.std.specs.Prelude.{List, [], ◌∷◌, ℕ, ltb, length}
use Rattle.lists.specs.Choose.{choose}
use Rattle.model.specs.Limits.{text_bytes}
use Rattle.policies.specs.DrawnPolicy.{walked_policy}
use Rattle.print.specs.Lines.{line_feed}
use Rattle.reports.specs.outcome_lines.PolicyLines.{record_bytes, policy_lines}

-- "too long" and a line feed
abbrev pub too_long_line : List ℕ
too_long_line = 0x74 ∷ 0x6F ∷ 0x6F ∷ 0x20 ∷ 0x6C ∷ 0x6F ∷ 0x6E ∷ 0x67 ∷ line_feed ∷ []

-- a sheet has at most 61,440 bytes
unfoldable pub printed_for : List ℕ → List ℕ
printed_for s = choose (ltb text_bytes (length s)) too_long_line (policy_lines record_bytes (walked_policy s))
