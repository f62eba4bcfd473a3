-- Operands, one after the other.
use Rattle.std.proofs.Common.{arith, ◌≡◌, ℕ, ◌+◌, true, List, [], length, drop, Result, Ok, Some, ap}
use Rattle.rv_text.specs.declared.found.Token.{Token}
use Rattle.rv_text.specs.Tokens.{Lexeme, tokens_of}
use Rattle.rv_text.specs.Found.{lexeme_at, place_after, first_and_rest}
use Rattle.rv_reader.specs.declared.stop.Stop.{Stop}
use Rattle.rv_reader.specs.declared.stop.Stop.TheVariants as stops
use Rattle.rv_reader.specs.Gives.{Fails}
use Rattle.rv_real.specs.Rules.{in_order}

-- an operand at a place of a line, with those after it
abbrev pub Cut : List ℕ → ℕ → Token → Type 0
Cut line at found = tokens_of true [] (drop at line) ≡ first_and_rest true [] line (Some found)

pub one_token : (line : List ℕ) (at : ℕ) (found : Token) → Cut line at found
    → length (tokens_of true [] (drop at line)) ≡ 1 + length (tokens_of true [] (drop (place_after found) line))
one_token line at found cut = let one = ap length cut in omega arith

pub token_ok : {A : Type 0} (rule : A → Lexeme → Result A ℕ) (x next : A) (line : List ℕ) (at : ℕ) (found : Token) (whole : Result A ℕ) → Cut line at found
    → rule x (lexeme_at line found) ≡ Ok next
    → in_order rule x (tokens_of true [] (drop at line)) ≡ whole
    → in_order rule next (tokens_of true [] (drop (place_after found) line)) ≡ whole
token_ok {A} rule x next line at found whole cut ok so_far = grind arith

pub token_fails : {A : Type 0} (rule : A → Lexeme → Result A ℕ) (x : A) (line : List ℕ) (at : ℕ) (found : Token) (whole : Result A ℕ) (e : Stop) → Cut line at found
    → Fails e (rule x (lexeme_at line found))
    → in_order rule x (tokens_of true [] (drop at line)) ≡ whole
    → Fails e whole
token_fails {A} rule x line at found whole (stops.Fault code) cut fails so_far = grind arith
token_fails rule x line at found whole stops.Mem cut fails so_far = tt
