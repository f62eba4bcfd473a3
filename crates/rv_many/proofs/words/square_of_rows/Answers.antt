use Rattle.std.proofs.Common.{◌≡◌, ℕ, suc, ◌+◌, ◌-◌, ◌/◌, ◌%◌, ◌∷◌, ◌∙◌, drop, get_or, sym, ap, arith}
use Rattle.std.proofs.lemmas.List.{drop_more}
use Rattle.rv_gate.specs.Word.{bit_of, has}
use Rattle.rv_many.specs.Column.{column}
use Rattle.rv_many.proofs.Columns.{blank}
use Rattle.rv_many.proofs.inside.Squares.{square_more}
use Rattle.rv_many.proofs.words.square_of_rows.Goals as goal

pub loop-line-preserved : goal.loop-line-preserved
loop-line-preserved c =
    let rows = c.args.rows.now in
    let place = c.args.place in
    let line : ℕ = c.loop-line.line - 1 in
    let back : line + 1 ≡ c.loop-line.line = omega arith in
    let row = get_or rows line blank in
    let is : drop line rows ≡ row ∷ drop c.loop-line.line rows =
    drop_more rows line blank (omega (arith, c.loop-line.invariant.within)) ∙ ap (λ k. row ∷ drop k rows) back in
    record {
      within = omega (arith, c.loop-line.invariant.within);
      bits = square_more c.loop-line.square (get_or row.parts (place / 64) 0) (place % 64) (λ i j. bit_of (column (drop c.loop-line.line rows) (place + j)) i) (λ i j. bit_of (column (drop line rows) (place + j)) i) c.loop-line.invariant.bits
          (λ j lt.
          let part : place / 64 ≡ (place + j) / 64 = omega (arith, c.requires.whole) in
          let bit : place % 64 + j ≡ (place + j) % 64 = omega (arith, c.requires.whole) in
          ap (λ k. has (get_or row.parts k 0) (place % 64 + j)) part
          ∙ ap (has (get_or row.parts ((place + j) / 64) 0)) bit
          ∙ sym (ap (λ rs. bit_of (column rs (place + j)) 0) is))
          (λ i j. sym (ap (λ rs. bit_of (column rs (place + j)) (suc i)) is));
    }
