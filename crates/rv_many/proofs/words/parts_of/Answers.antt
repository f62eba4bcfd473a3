use Rattle.std.proofs.Common.{◌≡◌, ℕ, ◌+◌, ◌*◌, ◌∙◌, [], length, min, get_or, ap, arith}
use Rattle.std.specs.List.{between}
use Rattle.std.proofs.lemmas.List.{get_or_past}
use Rattle.rv_gate.specs.Word.{bit_of}
use Rattle.rv_many.proofs.Transposed.{part_at}
use Rattle.rv_many.proofs.inside.Squares.{numbers_all, numbers_more}
use Rattle.rv_many.proofs.words.parts_of.Goals as goal

pub loop-block-preserved : goal.loop-block-preserved
loop-block-preserved c =
    let words = c.args.words.now in
    let kept = c.loop-block.invariant in
    let block = c.loop-block.block in
    let line = c.args.line in
    let place : ℕ = c.args.from + 8 * block in
    record {
      few = omega (arith, c.min-end.ensures);
      numbers = c.put_columns.ensures.numbers;
      bits = numbers_more c.loop-block.parts c.put_columns.new.numbers c.square_of_words.result block _ (λ i j. bit_of (get_or words (c.args.from + j) []) (line + i)) c.square_of_words.ensures c.put_columns.ensures.columns c.put_columns.ensures.others kept.bits
          (λ i j li lj.
          let next : c.min-next.result ≡ min (length words) (place + 8) = omega (arith, c.min-next.ensures, c.min-end.ensures) in
          let at : place + j ≡ c.args.from + (8 * block + j) = omega arith in
          ap (λ w. bit_of w (line + i)) (ap (λ e. get_or (between place e words) j []) next ∙ part_at words place j [] lj ∙ ap (λ k. get_or words k []) at));
    }

pub returns-clause-bits : goal.returns-clause-bits
returns-clause-bits c =
    numbers_all c.loop-block.parts c.loop-block.block _ c.loop-block.invariant.bits
    (λ i j lt past. ap (λ w. bit_of w (c.args.line + i)) (get_or_past c.args.words.now (c.args.from + j) [] (omega arith)))
