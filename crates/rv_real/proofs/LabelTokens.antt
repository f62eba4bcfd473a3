-- Tokens of a line are labels, where none without quotes holds a quote.
use Rattle.std.proofs.Common.{◌≡◌, ◌≤◌, ◌+◌, length, ℕ, zero, suc, Bool, true, false, not, ◌&&◌, ◌||◌, List, [], ◌∷◌, ◌++◌, drop, refl, nat_eq, ap, ◌∙◌, inl, inr, arith}
use Rattle.std.specs.Prelude.{All}
use Rattle.std.specs.List.{list_all, list_any}
use Rattle.std.proofs.lemmas.Bool.{and_parts, cases_Bool}
use Rattle.rv_text.proofs.inside.Spelled.{list_all-push}
use Rattle.rv_text.specs.declared.found.Token.{Token}
use Rattle.rv_text.specs.Tokens.{Lexeme, Open, between, inside, quoting, tokens_from, tokens_of}
use Rattle.rv_text.specs.Found.{lexeme_at}
use Rattle.rv_text.specs.Spelled.{IsOneLine}
use Rattle.rv_gate.specs.Circuit.{IsLabel}
use Rattle.rv_gate.proofs.Bits.{or_assoc, or_comm}
use Rattle.rv_real.specs.Rules.{in_order}
use Rattle.rv_real.specs.Header.{holds_quote, with_label}
use Rattle.rv_real.proofs.InOrder.{Cut}

-- a byte that doesn't end a line
abbrev is_inner : ℕ → Bool
is_inner c = not (nat_eq c 10)

-- bytes of a line, and without a quote where they stood in quotes
abbrev is_label_token : Lexeme → Bool
is_label_token t = list_all is_inner t.bytes && not (t.quoted && holds_quote t.bytes)

abbrev IsLabelOpen : Open → Type 0
IsLabelOpen between = Unit {0}
IsLabelOpen (inside bytes) = IsOneLine bytes
IsLabelOpen (quoting bytes) = IsOneLine bytes × (holds_quote bytes ≡ false)

none_push : (p : ℕ → Bool) (bytes : List ℕ) (c : ℕ) → list_any p (bytes ++ c ∷ []) ≡ (list_any p bytes || p c)
none_push p [] c = or_comm (p c) false
none_push p (b ∷ bytes) c = ap (λ t. p b || t) (none_push p bytes c) ∙ or_assoc (p b) (list_any p bytes) (p c)

are_labels : (open' : Open) (line : List ℕ) → IsLabelOpen open' → IsOneLine line → list_all is_label_token (tokens_from true [] open' line) ≡ true
are_labels between [] h k = refl
are_labels between (c ∷ cs) h k =
    let t = and_parts (is_inner c) (list_all is_inner cs) k in
    let parted = are_labels between cs tt t.1 in
    let quoted = are_labels (quoting []) cs (refl, refl) t.1 in
    let begun = are_labels (inside (c ∷ [])) cs (rw t.0 refl) t.1 in
    grind (arith, parted, quoted, begun)
are_labels (inside bytes) [] h k = rw h refl
are_labels (inside bytes) (c ∷ cs) h k =
    let t = and_parts (is_inner c) (list_all is_inner cs) k in
    let parted = are_labels between cs tt t.1 in
    let longer = are_labels (inside (bytes ++ c ∷ [])) cs (list_all-push is_inner bytes c h t.0) t.1 in
    grind (arith, h, parted, longer)
are_labels (quoting bytes) [] h k = rw (h.0, h.1) refl
are_labels (quoting bytes) (c ∷ cs) h k =
    let t = and_parts (is_inner c) (list_all is_inner cs) k in
    elim (cases_Bool (nat_eq c 34)) [
      | inl ends ↦ rw (ends, h.0, h.1) (are_labels between cs tt t.1)
      | inr goes ↦ rw goes (are_labels (quoting (bytes ++ c ∷ [])) cs (list_all-push is_inner bytes c h.0 t.0, none_push (λ b. nat_eq b 34) bytes c ∙ rw (h.1, goes) refl) t.1)
    ]

one_line_after : (line : List ℕ) (at : ℕ) → IsOneLine line → IsOneLine (drop at line)
one_line_after line zero h = h
one_line_after [] (suc at) h = refl
one_line_after (c ∷ cs) (suc at) h = one_line_after cs at (and_parts (is_inner c) (list_all is_inner cs) h).1

label_from : (bytes : List ℕ) → IsOneLine bytes → holds_quote bytes ≡ false → IsLabel bytes
label_from [] h k = refl
label_from (c ∷ cs) h k = let rest = label_from cs in grind (arith, rest)

free_of_quote : (quoted held : Bool) → (not quoted && held) ≡ false → not (quoted && held) ≡ true → held ≡ false
free_of_quote quoted held h k = grind arith

-- an operand without a loose quote is a label
pub label_token : (line : List ℕ) (at : ℕ) (found : Token) → IsOneLine line → Cut line at found
    → (not found.quoted && holds_quote (lexeme_at line found).bytes) ≡ false → IsLabel (lexeme_at line found).bytes
label_token line at found one cut quote =
    let all : list_all is_label_token (tokens_of true [] (drop at line)) ≡ true = are_labels between (drop at line) tt (one_line_after line at one) in
    let here = and_parts _ _ (and_parts (is_label_token (lexeme_at line found)) _ (rw cut at all)).0 in
    label_from (lexeme_at line found).bytes here.0 (free_of_quote found.quoted (holds_quote (lexeme_at line found).bytes) quote here.1)

-- a loop over the operands of a line, from a place on
pub record IsReadingLabels (line : List ℕ) (from at : ℕ) (labels : List (List ℕ)) : Type 0 where
  pub within : at ≤ length line
  pub count : length labels + length (tokens_of true [] (drop at line)) ≡ length (tokens_of true [] (drop from line))
  pub are : All IsLabel labels
  pub rest : in_order with_label labels (tokens_of true [] (drop at line)) ≡ in_order with_label [] (tokens_of true [] (drop from line))
