-- The table record: document 01, "Table record".
use Rattle.std.specs.Prelude.{List, [], ◌∷◌, ◌++◌, ℕ, ◌+◌, ◌*◌, ◌/◌, ◌%◌, length, None, Some}
use Rattle.model.specs.Policies.{policy_number, orientation_number}
use Rattle.record.specs.Policy.{Text, Input, input, Output, output, Rule, rule, Policy}

-- what a record is made from: the numbers of its header, and its texts in slot order
pub record Table : Type 0 where
  pub policy : ℕ
  pub orientation : ℕ
  pub inputs : ℕ
  pub outputs : ℕ
  pub annotations : ℕ
  pub rules : ℕ
  pub texts : List Text

-- a 32-bit little-endian word
abbrev pub word : ℕ → List ℕ
word w = (w % 256) ∷ (w / 256 % 256) ∷ (w / 65536 % 256) ∷ (w / 16777216 % 256) ∷ []

unfoldable pub words : List ℕ → List ℕ
words [] = []
words (w ∷ ws) = word w ++ words ws

-- the bytes that a text takes
abbrev pub bytes_of : Text → List ℕ
bytes_of None = []
bytes_of (Some t) = t

-- a text's slot at the running offset o: absent is 0, 0; a present empty text has its offset
abbrev pub slot_of : ℕ → Text → List ℕ
slot_of o None = word 0 ++ word 0
slot_of o (Some t) = word o ++ word (length t)

-- all texts, packed without gaps
unfoldable pub packed : List Text → List ℕ
packed [] = []
packed (t ∷ ts) = bytes_of t ++ packed ts

-- all slots, from the running offset o on
unfoldable pub slots_of : ℕ → List Text → List ℕ
slots_of o [] = []
slots_of o (t ∷ ts) = slot_of o t ++ slots_of (o + length (bytes_of t)) ts

-- the number of slots of n inputs, m outputs, k annotations and r rules
abbrev pub slot_count : ℕ → ℕ → ℕ → ℕ → ℕ
slot_count n m k r = 2 + 2 * n + 3 * m + k + r * (n + m + k)

-- where the slots stand
abbrev pub slot_offset : ℕ
slot_offset = 40

-- where the texts of c slots stand
abbrev pub text_offset : ℕ → ℕ
text_offset c = slot_offset + 8 * c

-- the slots of a table
abbrev pub slots_in : Table → ℕ
slots_in t = slot_count t.inputs t.outputs t.annotations t.rules

-- a record's total bytes
abbrev pub total : Table → ℕ
total t = text_offset (slots_in t) + length (packed t.texts)

-- the ten words in front
abbrev pub head_words : Table → List ℕ
head_words t =
    total t ∷ t.policy ∷ t.orientation ∷ t.inputs ∷ t.outputs ∷ t.annotations ∷ t.rules
    ∷ slot_offset ∷ slots_in t ∷ text_offset (slots_in t) ∷ []

-- the record's bytes
unfoldable pub encode : Table → List ℕ
encode t = words (head_words t) ++ (slots_of (text_offset (slots_in t)) t.texts ++ packed t.texts)

-- slot order: per input expression, allowed values
unfoldable pub input_texts : List Input → List Text
input_texts [] = []
input_texts (input e a ∷ is) = e ∷ a ∷ input_texts is

-- per output component name, allowed values, default
unfoldable pub output_texts : List Output → List Text
output_texts [] = []
output_texts (output c a d ∷ os) = c ∷ a ∷ d ∷ output_texts os

-- per rule its input, output and annotation entries
unfoldable pub rule_texts : List Rule → List Text
rule_texts [] = []
rule_texts (rule i o a ∷ rs) = i ++ (o ++ (a ++ rule_texts rs))

-- name; label; inputs; outputs; annotation names; rules
unfoldable pub slot_texts : Policy → List Text
slot_texts p = p.name ∷ p.label ∷ (input_texts p.inputs ++ (output_texts p.outputs ++ (p.annotations ++ rule_texts p.rules)))

-- a policy's table
abbrev pub table_of : Policy → Table
table_of p =
    record {
      policy = policy_number p.hit;
      orientation = orientation_number p.orientation;
      inputs = length p.inputs;
      outputs = length p.outputs;
      annotations = length p.annotations;
      rules = length p.rules;
      texts = slot_texts p;
    }
