use Rattle.std.proofs.Common.{◌≡◌, ℕ, suc, ◌+◌, ◌-◌, ◌∷◌, ◌∙◌, [], drop, get_or, sym, ap, arith}
use Rattle.std.proofs.lemmas.List.{drop_more, get_or_default}
use Rattle.rv_gate.specs.Word.{bit_of, has}
use Rattle.rv_gate.proofs.inside.Ones.{has-ones_of}
use Rattle.rv_many.proofs.inside.Squares.{square_more}
use Rattle.rv_many.proofs.words.square_of_words.Goals as goal

pub loop-place-preserved : goal.loop-place-preserved
loop-place-preserved c =
    let words = c.args.words.now in
    let line = c.args.line in
    let place : ℕ = c.loop-place.place - 1 in
    let back : place + 1 ≡ c.loop-place.place = omega arith in
    let word = c.index-words-place.is ∙ get_or_default words place c.index-words-place.result [] (omega (arith, c.loop-place.invariant.within)) in
    let is : drop place words ≡ get_or words place [] ∷ drop c.loop-place.place words =
    drop_more words place [] (omega (arith, c.loop-place.invariant.within)) ∙ ap (λ k. get_or words place [] ∷ drop k words) back in
    record {
      within = omega (arith, c.loop-place.invariant.within);
      bits = square_more c.loop-place.square c.ones.result line (λ i j. bit_of (get_or (drop c.loop-place.place words) i []) (line + j)) (λ i j. bit_of (get_or (drop place words) i []) (line + j)) c.loop-place.invariant.bits
          (λ j lt. ap (λ s. has s (line + j)) c.ones.ensures ∙ has-ones_of _ (line + j) ∙ ap (λ w. bit_of w (line + j)) word ∙ sym (ap (λ ws. bit_of (get_or ws 0 []) (line + j)) is))
          (λ i j. sym (ap (λ ws. bit_of (get_or ws (suc i) []) (line + j)) is));
    }
