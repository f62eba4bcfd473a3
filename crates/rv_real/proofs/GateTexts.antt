-- The text of a gate's line, as it is sent.
use Rattle.std.proofs.Common.{arith}
use Rattle.std.proofs.Common.{◌≡◌, ℕ, ◌+◌, List, [], ◌∷◌, ◌++◌, length, decimal, ap, sym, length-append}
use Rattle.std.proofs.lemmas.List.{append-nil}
use Rattle.rv_text.specs.Spelled.{more_words, words_line}
use Rattle.rv_real.specs.Text.{gate_line}
use Rattle.rv_text.proofs.Pieces.{more_words-append}

-- letter, number of operands, the controls, and the targets
pub gate_line-text : (letter count : ℕ) (controls targets : List (List ℕ)) → count ≡ length controls + length targets
    → (letter ∷ [] ++ decimal count) ++ (more_words controls ++ more_words targets) ≡ words_line (gate_line letter (controls ++ targets))
gate_line-text letter count controls targets is = grind (arith, more_words, length-append, more_words-append)

-- one, two and three words, each after a space
pub one_word : (a : List ℕ) → 32 ∷ a ≡ more_words (a ∷ [])
one_word a = ap (λ rest. 32 ∷ rest) (sym (append-nil a))

pub two_words : (a b : List ℕ) → 32 ∷ a ++ 32 ∷ b ≡ more_words (a ∷ b ∷ [])
two_words a b = ap (λ rest. 32 ∷ (a ++ rest)) (one_word b)

pub three_words : (a b c : List ℕ) → 32 ∷ a ++ (32 ∷ b ++ 32 ∷ c) ≡ more_words (a ∷ b ∷ c ∷ [])
three_words a b c = ap (λ rest. 32 ∷ (a ++ rest)) (two_words b c)
