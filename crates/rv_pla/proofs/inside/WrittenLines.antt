-- A line that is an input part, a space and an output part: its tokens, and what it adds.
use Rattle.std.proofs.lemmas.Grind.{common_steps}
use Rattle.std.proofs.Common.{◌≡◌, ℕ, ◌+◌, ◌<◌, ◌≤◌, Bool, true, false, ◌&&◌, nat_eq, List, [], ◌∷◌, ◌++◌, length, get_or, take, drop, Option, Some, None, refl, sym, ap, ◌∙◌, arith, drop-cons, add-one, append-nil, length-append, eq-eqb, ne_eqb}
use Rattle.std.specs.List.{list_all}
use Rattle.std.proofs.Math.Seq.{take-append_seam, drop-append_seam}
use Rattle.std.proofs.Math.ListN.{take-append-drop}
use Rattle.std.proofs.lemmas.Bool.{and_parts, lt-ltb, true≢false}
use Rattle.std.proofs.lemmas.List.{length-drop, length-take-le}
use Rattle.rv_text.specs.Bytes.{begins_with_dot}
use Rattle.rv_text.specs.Tokens.{plain}
use Rattle.rv_text.specs.Spelled.{words_line}
use Rattle.rv_text.specs.inside.Writable.{is_word_byte}
use Rattle.rv_text.proofs.inside.Spelled.{list_all-weaken, tokens_of-words_line}
use Rattle.std.specs.Prelude.{IfSome}
use Rattle.rv_pla.specs.declared.cube.TheConstants.{MOST_INPUTS, MOST_OUTPUTS}
use Rattle.rv_pla.specs.declared.pla.TheConstants.{MOST_TERMS}
use Rattle.rv_pla.specs.Line.{bar, words_of}
use Rattle.rv_pla.specs.Pla.{Term}
use Rattle.rv_pla.specs.Row.{is_input, is_output}
use Rattle.rv_pla.specs.inside.State.{Given, IsGiven, IsSize}
use Rattle.rv_pla.specs.inside.Steps.{line_by}
use Rattle.rv_pla.specs.inside.Written.{parts, IsWritten}
use Rattle.rv_pla.specs.inside.Next.{IsNext}
use Rattle.rv_pla.proofs.inside.Kept.{with_term}

-- ---- characters

differs : (p : ℕ → Bool) (c d : ℕ) → p d ≡ false → p c ≡ true → nat_eq c d ≡ false
differs p c d misses has = ne_eqb c d (λ same. true≢false (sym has ∙ ap p same ∙ misses))

differs_back : (p : ℕ → Bool) (c d : ℕ) → p d ≡ false → p c ≡ true → nat_eq d c ≡ false
differs_back p c d misses has = ne_eqb d c (λ same. true≢false (sym has ∙ ap p (sym same) ∙ misses))

input_byte : (c : ℕ) → is_input c ≡ true → is_word_byte bar c ≡ true
input_byte c h = rw (differs is_input c 32 refl h, differs is_input c 9 refl h, differs is_input c 13 refl h, differs_back is_input c 124 refl h, differs is_input c 35 refl h, differs is_input c 34 refl h, differs is_input c 10 refl h) refl

output_byte : (c : ℕ) → is_output c ≡ true → is_word_byte bar c ≡ true
output_byte c h = rw (differs is_output c 32 refl h, differs is_output c 9 refl h, differs is_output c 13 refl h, differs_back is_output c 124 refl h, differs is_output c 35 refl h, differs is_output c 34 refl h, differs is_output c 10 refl h) refl

no_dot : (ins : List ℕ) → list_all is_input ins ≡ true → begins_with_dot ins ≡ false
no_dot [] h = refl
no_dot (c ∷ cs) h = differs is_input c 46 refl (and_parts (is_input c) (list_all is_input cs) h).0

-- ---- the two parts of a line

pub parts_apart : (i : ℕ) (line : List ℕ) → i ≤ length line → (take i (parts i line) ≡ take i line) × (drop i (parts i line) ≡ drop (i + 1) line)
parts_apart i line h = grind (arith, common_steps, length-take-le, take-append_seam, drop-append_seam)

line_parts : (i : ℕ) (line : List ℕ) → i < length line → get_or line i 0 ≡ 32 → line ≡ words_line (take i line ∷ drop (i + 1) line ∷ [])
line_parts i line h space = grind (arith, take-append-drop, add-one, drop-cons, append-nil)

module _ (i o number : ℕ) (line : List ℕ) (term : Term) (is : IsWritten i o number line term) (some_i : 1 ≤ i) (some_o : 1 ≤ o) where
  abbrev ins : List ℕ
  ins = take i line

  abbrev outs : List ℕ
  outs = drop (i + 1) line

  ins_len : length ins ≡ i
  ins_len = length-take-le i line (omega (arith, is.size))

  outs_len : length outs ≡ o
  outs_len = length-drop (i + 1) line ∙ (omega (arith, is.size))

  all_of : (list_all is_input ins ≡ true) × (list_all is_output outs ≡ true)
  all_of =
      let apart = parts_apart i line (omega (arith, is.size)) in
      and_parts (list_all is_input ins) (list_all is_output outs) (ap (λ xs. list_all is_input xs && list_all is_output outs) (sym apart.0) ∙ ap (λ xs. list_all is_input (take i (parts i line)) && list_all is_output xs) (sym apart.1) ∙ is.row)

  words : words_of line ≡ plain ins ∷ plain outs ∷ []
  words =
      ap words_of (line_parts i line (omega (arith, is.size)) is.space)
      ∙ tokens_of-words_line false bar (ins ∷ outs ∷ [])
      ((omega (arith, ins_len), list_all-weaken is_input (is_word_byte bar) input_byte ins all_of.0), ((omega (arith, outs_len), list_all-weaken is_output (is_word_byte bar) output_byte outs all_of.1), tt))

  row_len : length (parts i line) ≡ i + o
  row_len = length-append ins outs ∙ (omega (arith, ins_len, outs_len))

  pub next : (given : Given) → given.inputs ≡ Some i → given.outputs ≡ Some o → length given.terms < MOST_TERMS → IsGiven given → IsNext given number line term
  next given inputs outputs few kept = record {
    gives =
        ap (line_by given number) words
        ∙ rw (no_dot ins all_of.0, append-nil outs, inputs, outputs, eq-eqb _ _ row_len, is.row, lt-ltb (length given.terms) MOST_TERMS few, is.is) refl;
    kept = with_term given kept i o number (given.terms ++ term ∷ []) (parts i line) inputs outputs row_len few (ap (λ t. given.terms ++ t ∷ []) is.is);
  }

pub written_next : (given : Given) (i o number : ℕ) (line : List ℕ) (term : Option Term) → IsGiven given → given.inputs ≡ Some i → given.outputs ≡ Some o
    → length given.terms < MOST_TERMS → IfSome term (IsWritten i o number line) → IfSome term (IsNext given number line)
written_next given i o number line None kept inputs outputs few is = tt
written_next given i o number line (Some term) kept inputs outputs few is =
    let size_i : IsSize MOST_INPUTS i = (let h = kept.inputs_in in rw inputs at h) in
    let size_o : IsSize MOST_OUTPUTS o = (let h = kept.outputs_in in rw outputs at h) in
    next i o number line term is size_i.0 size_o.0 given inputs outputs few kept
