-- Words that a writer sends are words that can be read.
use Rattle.std.proofs.Common.{◌≡◌, ℕ, ◌<◌, ◌^◌, Bool, true, false, not, cond, ◌||◌, List, [], ◌∷◌, length, map, get_or, nat_eq, nat_lt, refl, sym, ◌∙◌, ap, inl, inr, arith, decimal, true≢false}
use Rattle.std.specs.Prelude.{All}
use Rattle.std.specs.List.{list_all, list_any}
use Rattle.std.proofs.lemmas.Bool.{and_parts, cases_Bool, not-true, or_parts}
use Rattle.std.proofs.lemmas.List.Elements.{All-head, All-tail}
use Rattle.rv_text.specs.Tokens.{Lexeme, plain, in_quotes, is_blank}
use Rattle.rv_text.specs.Spelled.{written}
use Rattle.rv_text.specs.inside.Writable.{is_word_byte, IsPlainWord, is_quotable, IsWritable, AreWritable}
use Rattle.rv_gate.specs.Names.{is_name_byte, IsName}
use Rattle.rv_gate.specs.Circuit.{is_label_byte, IsLabel}
use Rattle.rv_text.proofs.inside.Decimal.{decimal_word}
use Rattle.rv_text.proofs.inside.Spelled.{list_all-weaken}
use Rattle.rv_real.specs.Text.{needs_quotes, label_word}
use Rattle.rv_real.specs.Header.{holds_quote}

-- ---- names

-- the bytes of a name are those of a word
name_byte : (c : ℕ) → is_name_byte c ≡ is_word_byte [] c
name_byte c = grind arith

-- what makes bytes a name
pub record NameParts (name : List ℕ) : Type 0 where
  pub some : 0 < length name
  pub no_sign : nat_eq (get_or name 0 0) 45 ≡ false
  pub no_dot : nat_eq (get_or name 0 0) 46 ≡ false
  pub bytes : list_all is_name_byte name ≡ true

pub name_parts : (name : List ℕ) → IsName name → NameParts name
name_parts [] h = absurd cc
name_parts (c ∷ cs) h = grind (arith, nat_lt, nat_eq, not-true)

pub name_word : (name : List ℕ) → IsName name → IsPlainWord [] name
name_word name is = grind (arith, name_parts, list_all-weaken, name_byte)

-- ---- decimal numbers

pub number_word : (n : ℕ) → n < 2 ^ 64 → IsPlainWord [] (decimal n)
number_word n small = decimal_word [] (λ c h. refl) n small

-- ---- labels

label_parts : (c : ℕ) → is_label_byte c ≡ true → (nat_eq c 34 ≡ false) × (nat_eq c 10 ≡ false)
label_parts c h = let t = and_parts (not (nat_eq c 34)) (not (nat_eq c 10)) h in (not-true _ t.0, not-true _ t.1)

pub label_no_quote : (label : List ℕ) → IsLabel label → holds_quote label ≡ false
label_no_quote [] h = refl
label_no_quote (c ∷ cs) h = let hyp = label_no_quote cs in grind (arith, hyp, label_parts)

-- the bytes of a label are those that may stand in quotes
label_byte : (c : ℕ) → is_label_byte c ≡ is_quotable c
label_byte c = grind arith

label_quotable : (label : List ℕ) → IsLabel label → list_all is_quotable label ≡ true
label_quotable label h = list_all-weaken is_label_byte is_quotable (λ c k. sym (label_byte c) ∙ k) label h

abbrev is_gap : ℕ → Bool
is_gap c = is_blank [] c || nat_eq c 35

label_bytes : (label : List ℕ) → IsLabel label → list_any is_gap label ≡ false → list_all (is_word_byte []) label ≡ true
label_bytes [] h k = refl
label_bytes (c ∷ cs) h k = let rest = label_bytes cs in grind (arith, rest)

some_length : (label : List ℕ) → nat_eq (length label) 0 ≡ false → 0 < length label
some_length [] h = absurd (true≢false h)
some_length (c ∷ cs) h = omega arith

-- a label, as it is read
abbrev pub label_lexeme : List ℕ → Lexeme
label_lexeme label = cond (needs_quotes label) (in_quotes label true) (plain label)

pub label_writable : (label : List ℕ) → IsLabel label → IsWritable (label_lexeme label)
label_writable label is = elim (cases_Bool (needs_quotes label)) [
  | inl quotes ↦ rw quotes (refl, label_quotable label is)
  | inr bare ↦
      (let parts = or_parts (nat_eq (length label) 0) (list_any is_gap label) bare in
      rw bare (refl, (some_length label parts.0, label_bytes label is parts.1)))
]

pub labels_writable : (labels : List (List ℕ)) → All IsLabel labels → AreWritable (map label_lexeme labels)
labels_writable [] h = tt
labels_writable (label ∷ labels) h = (label_writable label (All-head IsLabel label labels h), labels_writable labels (All-tail IsLabel label labels h))

pub labels_written : (labels : List (List ℕ)) → map written (map label_lexeme labels) ≡ map label_word labels
labels_written [] = refl
labels_written (label ∷ labels) = ap (λ ws. label_word label ∷ ws) (labels_written labels)

-- ---- plain words

pub plain_writable : (ws : List (List ℕ)) → All (IsPlainWord []) ws → AreWritable (map plain ws)
plain_writable [] h = tt
plain_writable (w ∷ ws) h = ((refl, All-head (IsPlainWord []) w ws h), plain_writable ws (All-tail (IsPlainWord []) w ws h))

pub plain_written : (ws : List (List ℕ)) → map written (map plain ws) ≡ ws
plain_written [] = refl
plain_written (w ∷ ws) = ap (λ vs. w ∷ vs) (plain_written ws)
