use Rattle.std.proofs.Common.{◌≡◌, ◌++◌, ◌+◌, ◌∙◌, ap, arith, append-nil, append_assoc, drop, length, take, ◌≤◌, get_or, subst, sym, length-drop, List, ℕ}
use Rattle.std.specs.Global.{Vec}
use Rattle.rv_import.specs.Lexer.{piece_length, is_passed_over, tokens_after, token_in}
use Rattle.rv_import.specs.Statement.{bytes_of}
use Rattle.rv_import.proofs.Lexing.{piece_on, tokens_begun, tokens_ended}
use Rattle.rv_import.proofs.lexer.tokens_of.Goals as goal

pub loop-at-init : goal.loop-at-init
loop-at-init c = (
  tokens_begun c.args.text.now ∙ ap (λ (ts : List (Vec ℕ)). bytes_of ts ++ tokens_after 0 (drop 0 c.args.text.now)) (sym c.new-tokens.ensures.items),
  omega arith,
)

pub loop-at-preserved : goal.loop-at-preserved
loop-at-preserved c =
    let text = c.args.text.now in
    let n = c.piece_length-length.result in
    let is = subst (λ (rest : List ℕ). n ≡ piece_length (get_or rest 0 0) (drop 1 rest)) c.rest_of-rest.ensures c.piece_length-length.ensures.exact in
    let pushed = subst (λ (rest : List ℕ).
    bytes_of c.push_token.new.tokens.items ≡ bytes_of c.loop-at.tokens.items ++ token_in (is_passed_over (get_or rest 0 0) (drop 1 rest)) (take n rest))
    c.rest_of-rest.ensures c.in_ok-push_token.ensures in (
      c.loop-at.invariant.0
          ∙ ap (λ ts. bytes_of c.loop-at.tokens.items ++ ts) (piece_on text c.loop-at.at n c.loop-at-test.true is c.piece_length-length.ensures.some)
          ∙ sym (append_assoc (bytes_of c.loop-at.tokens.items) _ (tokens_after 0 (drop (c.loop-at.at + n) text)))
          ∙ ap (λ ts. ts ++ tokens_after 0 (drop (c.loop-at.at + n) text)) (sym pushed),
      omega (arith, subst (λ (rest : List ℕ). n ≤ length rest) c.rest_of-rest.ensures c.piece_length-length.ensures.within, length-drop c.loop-at.at text, c.loop-at-test.true),
    )

pub returns : goal.returns
returns c =
    sym (c.loop-at.invariant.0
    ∙ ap (λ ts. bytes_of c.loop-at.tokens.items ++ ts) (tokens_ended c.args.text.now c.loop-at.at (omega (arith, c.loop-at-test.false)))
    ∙ append-nil (bytes_of c.loop-at.tokens.items))
