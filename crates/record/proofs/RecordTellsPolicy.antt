-- Demand 3, over the record of document 01: "their records are the same bytes, the orientation word set aside, exactly when the drawings state the same policy".
use mathlib.Core.Path.{◌≡◌, sym, ap, ◌∙◌}
use mathlib.Core.List.{List, ◌++◌}
use mathlib.Core.Logic.{◌↔◌}
use Prim.Native.Nat.{ℕ, ◌+◌, ◌^◌, ◌<◌}
use native.Mathlib.Nat.{le-mul_of_pos_right}
use native.Mathlib.Omega.{arith}
use lib.ListN.{length, length-append}
use lib.Seq.{take_at}
use Rattle.lists.proofs.Parts.{cut_left, cut_right}
use Rattle.record.specs.Policy.{Policy, Complete, Same}
use Rattle.record.specs.Record.{Table, words, packed, slots_of, slot_offset, text_offset, slots_in, total, head_words, encode, slot_texts, table_of}
use Rattle.record.specs.Compared.{word_at, without_third, compared}
use Rattle.record.proofs.Words.{word_inj, word-rest, word_read, length-words}
use Rattle.record.proofs.Texts.{length-slots, texts_inj}
use Rattle.record.proofs.PolicyTexts.{hit-fits, texts-counted, parts-known}

-- two tables agree in all but the orientation
record Agree (t u : Table) : Type 0 where
  policy : t.policy ≡ u.policy
  inputs : t.inputs ≡ u.inputs
  outputs : t.outputs ≡ u.outputs
  annotations : t.annotations ≡ u.annotations
  rules : t.rules ≡ u.rules
  texts : t.texts ≡ u.texts

-- tables that agree have the same bytes besides the orientation word
same_bytes : (t u : Table) → Agree t u → without_third (encode t) ≡ without_third (encode u)
unfolding without_third encode words
same_bytes t u s = rw (s.policy, s.inputs, s.outputs, s.annotations, s.rules, s.texts)

-- a table that a record can hold: counts and texts go together, and its numbers fit 32 bits
record Held (t : Table) : Type 0 where
  counted : length t.texts ≡ slots_in t
  fits : total t < 2 ^ 32
  policy : t.policy < 2 ^ 32
  rules : t.rules < 2 ^ 32

-- behind the header: the same slots and packed bytes come of the same texts
texts-known : (t u : Table) → Held t → Held u → slots_in t ≡ slots_in u
    → slots_of (text_offset (slots_in t)) t.texts ++ packed t.texts ≡ slots_of (text_offset (slots_in u)) u.texts ++ packed u.texts
    → t.texts ≡ u.texts
texts-known t u ht hu c e =
    let n : length t.texts ≡ length u.texts = ht.counted ∙ c ∙ sym hu.counted in
    let ls : length (slots_of (text_offset (slots_in t)) t.texts) ≡ length (slots_of (text_offset (slots_in u)) u.texts) = simp length-slots (omega arith) in
    let es : slots_of (text_offset (slots_in t)) t.texts ≡ slots_of (text_offset (slots_in t)) u.texts =
    cut_left (slots_of (text_offset (slots_in t)) t.texts) (slots_of (text_offset (slots_in u)) u.texts) _ _ ls e ∙ ap (λ (k : ℕ). slots_of (text_offset k) u.texts) (sym c) in
    let ep : packed t.texts ≡ packed u.texts = cut_right (slots_of (text_offset (slots_in t)) t.texts) (slots_of (text_offset (slots_in u)) u.texts) _ _ ls e in
    texts_inj (text_offset (slots_in t)) t.texts u.texts (omega arith) ht.fits (omega (arith, hu.fits)) es ep

-- the bytes besides the orientation word give the table besides the orientation: word by word
table-known : (t u : Table) → Held t → Held u → without_third (encode t) ≡ without_third (encode u) → Agree t u
unfolding without_third encode words
table-known t u ht hu e0 =
    let ft = ht.fits in
    let fu = hu.fits in
    let e1 = word-rest (total t) (total u) _ _ e0 in
    let policy = word_inj t.policy u.policy _ _ ht.policy hu.policy e1 in
    let e2 = word-rest t.policy u.policy _ _ e1 in
    let inputs = word_inj t.inputs u.inputs _ _ (omega arith) (omega arith) e2 in
    let e3 = word-rest t.inputs u.inputs _ _ e2 in
    let outputs = word_inj t.outputs u.outputs _ _ (omega arith) (omega arith) e3 in
    let e4 = word-rest t.outputs u.outputs _ _ e3 in
    let annotations = word_inj t.annotations u.annotations _ _ (omega arith) (omega arith) e4 in
    let e5 = word-rest t.annotations u.annotations _ _ e4 in
    let rules = word_inj t.rules u.rules _ _ ht.rules hu.rules e5 in
    let e6 = word-rest t.rules u.rules _ _ e5 in
    let e7 = word-rest slot_offset slot_offset _ _ e6 in
    let e8 = word-rest (slots_in t) (slots_in u) _ _ e7 in
    let e9 = word-rest (text_offset (slots_in t)) (text_offset (slots_in u)) _ _ e8 in
    record {
      policy = policy;
      inputs = inputs;
      outputs = outputs;
      annotations = annotations;
      rules = rules;
      texts = texts-known t u ht hu (rw (inputs, outputs, annotations, rules)) e9;
    }

pub length-encode : (t : Table) → length t.texts ≡ slots_in t → length (encode t) ≡ total t
unfolding encode
length-encode t c =
    let a = length-append (words (head_words t)) (slots_of (text_offset (slots_in t)) t.texts ++ packed t.texts) in
    let b = length-append (slots_of (text_offset (slots_in t)) t.texts) (packed t.texts) in
    omega (arith, length-slots (text_offset (slots_in t)) t.texts, length-words (head_words t))

total-read : (t : Table) (d : List ℕ) → total t < 2 ^ 32 → word_at (encode t ++ d) 0 ≡ total t
unfolding encode words
total-read t d h = word_read (total t) _ h

-- of a slice that begins with a record, the record is compared
pub compared_is : (t : Table) (d : List ℕ) → length t.texts ≡ slots_in t → total t < 2 ^ 32 → compared (encode t ++ d) ≡ without_third (encode t)
unfolding compared
compared_is t d c h = rw (total-read t d h, take_at (encode t) d (total t) (length-encode t c))

-- where there is a clause, each rule has a slot, so that the total bounds the rules
pub rules_fit : (p : Policy) → 0 < length p.inputs + length p.outputs + length p.annotations → total (table_of p) < 2 ^ 32 → length p.rules < 2 ^ 32
rules_fit p h f = omega (arith, le-mul_of_pos_right (length p.rules) h)

-- policies that are the same have tables that agree
agree : (p q : Policy) → Same p q → Agree (table_of p) (table_of q)
unfolding slot_texts
agree p q s =
    record {
      policy = rw s.hit;
      inputs = rw s.inputs;
      outputs = rw s.outputs;
      annotations = rw s.annotations;
      rules = rw s.rules;
      texts = rw (s.name, s.label, s.inputs, s.outputs, s.annotations, s.rules);
    }

-- The theorem; d and e are what follows the record in each slice.
-- The other counts fit 32 bits because the total does. Rules of a policy without clauses have no slots, so their number has a premise of its own.
pub record_tells_policy : (p q : Policy) (d e : List ℕ) → Complete p → Complete q
    → total (table_of p) < 2 ^ 32 → total (table_of q) < 2 ^ 32 → length p.rules < 2 ^ 32 → length q.rules < 2 ^ 32
    → (compared (encode (table_of p) ++ d) ≡ compared (encode (table_of q) ++ e)) ↔ Same p q
record_tells_policy p q d e cp cq fp fq rp rq =
    let hp : Held (table_of p) = record { counted = texts-counted p cp; fits = fp; policy = hit-fits p.hit; rules = rp } in
    let hq : Held (table_of q) = record { counted = texts-counted q cq; fits = fq; policy = hit-fits q.hit; rules = rq } in
    let ip = compared_is (table_of p) d (texts-counted p cp) fp in
    let iq = compared_is (table_of q) e (texts-counted q cq) fq in (
      λ eq.
          let a = table-known (table_of p) (table_of q) hp hq (sym ip ∙ eq ∙ iq) in
          parts-known p q cp cq a.policy a.inputs a.outputs a.annotations a.rules a.texts,
      λ s. ip ∙ same_bytes (table_of p) (table_of q) (agree p q s) ∙ sym iq,
    )
