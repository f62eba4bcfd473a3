use Rattle.std.proofs.Common.{◌≡◌, ℕ, ◌+◌, ◌*◌, ◌<◌, ◌∙◌, length, get_or, [], ap, arith, length-set, get_or-set_same}
use Rattle.std.proofs.lemmas.List.Elements.{All-set}
use Rattle.rv_gate.specs.Word.{has}
use Rattle.rv_many.proofs.Transposed.{set_below}
use Rattle.rv_many.proofs.inside.Squares.{byte_other, has-byte}
use Rattle.rv_many.proofs.square.put_columns.Goals as goal

pub loop-i-preserved : goal.loop-i-preserved
loop-i-preserved c =
    let i = c.loop-i.i in
    let numbers = c.loop-i.numbers in
    let at = c.args.at in
    let kept = c.loop-i.invariant in
    let lt : i < length numbers = omega (arith, kept.numbers.0) in
    let long : length (get_or numbers i []) ≡ 8 = kept.numbers.1 i [] lt in
    record {
      numbers = (
        length-set numbers i _ ∙ kept.numbers.0,
        All-set (λ bytes. length bytes ≡ 8) numbers i _ (length-set (get_or numbers i []) at _ ∙ long) kept.numbers.1,
      );
      columns = λ k j lk lj.
          set_below (λ k bytes. (j : ℕ) → j < 8 → has (get_or bytes at 0) j ≡ has c.turned-rows.result (8 * k + j)) numbers i _ [] lt (λ k lk j lj. kept.columns k j lk lj)
          (λ j lj. ap (λ byte. has byte j) (get_or-set_same (get_or numbers i []) at _ 0 (omega arith)) ∙ has-byte c.turned-rows.result (8 * i) j lj) k lk j lj;
      others = λ other k apart. byte_other numbers i at _ other k lt apart ∙ kept.others other k apart;
    }

pub returns-clause-columns : goal.returns-clause-columns
returns-clause-columns c i j li lj = c.loop-i.invariant.columns i j (omega arith) lj ∙ c.turned-rows.ensures i j li lj
