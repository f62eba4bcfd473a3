-- Pieces of a text, one after another.
use Rattle.std.proofs.Common.{◌≡◌, ℕ, zero, suc, ◌+◌, ◌-◌, ◌≤◌, ◌<◌, Bool, true, false, ◌||◌, cond, List, [], ◌∷◌, ◌++◌, length, take, drop, get_or, refl, sym, ap, ◌∙◌, arith, length-drop}
use Rattle.std.proofs.lemmas.List.{drop-drop, drop_all}
use Rattle.std.specs.Char.{is_ascii_digit}
use Rattle.std.specs.Prelude.{map}
use Rattle.std.specs.List.{prefix_len}
use Rattle.rv_text.specs.Bytes.{line_feed}
use Rattle.rv_text.specs.Lines.{first_end}
use Rattle.rv_text.specs.Tokens.{is_blank}
use Rattle.rv_qasm.specs.Tokens.{begins_comment, begins_name, is_in_name, line_after, number_length, qasm_tokens, token_length, TokenOnLine}
use Rattle.rv_qasm.specs.Tokens.{tokens_after as on_lines}
use Rattle.rv_import.specs.Lexer.{is_passed_over, mark_length, piece_length, token_in, tokens_after, tokens_of}

pub token_mark : (c : ℕ) (bytes : List ℕ) → begins_name c ≡ false → is_ascii_digit c ≡ false → token_length c bytes ≡ mark_length c bytes
token_mark c bytes e f =
    ap (λ b. cond b (1 + prefix_len is_in_name bytes) (cond (is_ascii_digit c) (number_length (c ∷ bytes)) (mark_length c bytes))) e
    ∙ ap (λ b. cond b (number_length (c ∷ bytes)) (mark_length c bytes)) f

tokens-skip : (n : ℕ) (bytes : List ℕ) → tokens_after n bytes ≡ tokens_after 0 (drop n bytes)
unfolding tokens_after
tokens-skip zero bytes = refl
tokens-skip (suc n) [] = refl
tokens-skip (suc n) (c ∷ bytes) = tokens-skip n bytes

-- after a piece of n bytes
tokens-rest : (c : ℕ) (bytes : List ℕ) (n : ℕ) → 1 ≤ n → tokens_after (n - 1) bytes ≡ tokens_after 0 (drop n (c ∷ bytes))
tokens-rest c bytes zero h = grind arith
tokens-rest c bytes (suc n) h = let e : suc n - 1 ≡ n = omega arith in rw e (tokens-skip n bytes)

piece : (rest : List ℕ) (n : ℕ) → 0 < length rest → n ≡ piece_length (get_or rest 0 0) (drop 1 rest) → 1 ≤ n
    → tokens_after 0 rest ≡ token_in (is_passed_over (get_or rest 0 0) (drop 1 rest)) (take n rest) ++ tokens_after 0 (drop n rest)
unfolding tokens_after
piece [] n h is some = grind arith
piece (c ∷ bytes) n h is some =
    ap (λ k. token_in (is_passed_over c bytes) (take k (c ∷ bytes)) ++ tokens_after (k - 1) bytes) (sym is)
    ∙ ap (λ ts. token_in (is_passed_over c bytes) (take n (c ∷ bytes)) ++ ts) (tokens-rest c bytes n some)

-- the same as where each token is on a line
same-tokens : (n line : ℕ) (bytes : List ℕ) → map (λ (token : TokenOnLine). token.bytes) (on_lines n line bytes) ≡ tokens_after n bytes
unfolding tokens_after on_lines
same-tokens n line [] = refl
same-tokens (suc n) line (c ∷ bytes) = same-tokens n (line_after line c) bytes
same-tokens zero line (c ∷ bytes) = by (λ n l. same-tokens n l bytes) (is_blank (line_feed ∷ []) c) (begins_comment c bytes)
  where
    long : Bool → Bool → ℕ
    long blank comment = cond blank 1 (cond comment (1 + first_end bytes) (token_length c bytes))

    by : ((n l : ℕ) → map (λ (token : TokenOnLine). token.bytes) (on_lines n l bytes) ≡ tokens_after n bytes) → (blank comment : Bool) → map (λ (token : TokenOnLine). token.bytes) (cond blank (on_lines 0 (line_after line c) bytes) (cond comment (on_lines (first_end bytes) line bytes) (record { bytes = take (token_length c bytes) (c ∷ bytes); line = line } ∷ on_lines (token_length c bytes - 1) line bytes)))
        ≡ token_in (blank || comment) (take (long blank comment) (c ∷ bytes)) ++ tokens_after (long blank comment - 1) bytes
    by same true comment = same 0 (line_after line c)
    by same false true = same (first_end bytes) line ∙ ap (λ n. tokens_after n bytes) (omega arith)
    by same false false = ap (λ ts. take (token_length c bytes) (c ∷ bytes) ∷ ts) (same (token_length c bytes - 1) line)

pub tokens_begun : (text : List ℕ) → tokens_of text ≡ tokens_after 0 (drop 0 text)
unfolding tokens_of qasm_tokens
tokens_begun text = same-tokens 0 1 text

pub piece_on : (text : List ℕ) (at n : ℕ) → at < length text → n ≡ piece_length (get_or (drop at text) 0 0) (drop 1 (drop at text)) → 1 ≤ n
    → tokens_after 0 (drop at text)
    ≡ token_in (is_passed_over (get_or (drop at text) 0 0) (drop 1 (drop at text))) (take n (drop at text)) ++ tokens_after 0 (drop (at + n) text)
piece_on text at n h is some =
    piece (drop at text) n (omega (arith, length-drop at text)) is some
    ∙ ap (λ ts. token_in (is_passed_over (get_or (drop at text) 0 0) (drop 1 (drop at text))) (take n (drop at text)) ++ tokens_after 0 ts) (drop-drop n at text)

pub tokens_ended : (text : List ℕ) (at : ℕ) → length text ≤ at → tokens_after 0 (drop at text) ≡ []
unfolding tokens_after
tokens_ended text at h = ap (tokens_after 0) (drop_all at text h)
