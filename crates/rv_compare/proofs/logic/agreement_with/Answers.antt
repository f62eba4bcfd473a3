use Rattle.std.proofs.Common.{◌≡◌, Bool, List, Decides, arith, subst}
use Rattle.rv_many.specs.Column.{column, row_bit}
use Rattle.rv_compare.proofs.inside.Rows.{outputs_given}
use Rattle.rv_compare.proofs.logic.agreement_with.Goals as goal

pub returns : goal.returns
returns c = λ j lt.
    let given = c.loop-line.given in
    let P : List Bool → Type 0 = λ w. Decides (row_bit c.agreement.result j) (column c.args.rows.now j ≡ w) in
    subst P (outputs_given c.args.outputs.now c.args.values.now given j (omega (arith, c.loop-line.invariant.count, c.requires.rows))
    (λ k d h. c.loop-line.invariant.each k d (omega (arith, h, c.loop-line.invariant.count))) c.requires.signals) (c.agreement.ensures j lt)
