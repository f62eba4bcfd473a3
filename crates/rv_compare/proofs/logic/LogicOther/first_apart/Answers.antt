use Rattle.std.proofs.Common.{◌≡◌, ◌∙◌, ℕ, ◌+◌, ◌*◌, ◌<◌, Bool, List, Decides, ap, arith, map, subst, sym, take}
use Rattle.rv_gate.specs.Word.{bit_of, word_of}
use Rattle.rv_many.specs.Column.{column, row_bit}
use Rattle.rv_many.specs.declared.words.TheConstants.{MOST_WORDS}
use Rattle.rv_blif.specs.Logic.{Output, outputs_of, values}
use Rattle.rv_compare.specs.Compare.{GivesOutputs, asked, size_of}
use Rattle.rv_compare.proofs.inside.Least.{first_failing-as}
use Rattle.rv_compare.proofs.logic.LogicOther.first_apart.Goals as goal

pub returns-clause-first : goal.returns-clause-first
unfolding outputs_of
returns-clause-first c =
    let logic = c.args.self.now in
    let circuit = asked c.args.all c.args.circuit.now in
    let number : ℕ → ℕ = λ j. MOST_WORDS * c.args.block + j in
    let at : ℕ → List Bool = λ j. word_of (size_of circuit).inputs (number j) in
    let bits : List Bool → List Output → List Bool = λ word outputs. map (λ o. bit_of word o.signal) outputs in
    first_failing-as c.args.count (λ j. row_bit c.agreement_with.result j) (λ j. GivesOutputs circuit logic (at j)) c.first_zero.result
    (λ j lt.
    let few : j < MOST_WORDS = omega (arith, lt, c.requires.few) in
    let all : column c.give_values.new.rows j ≡ values logic (at j) =
    c.give_values.ensures.words j few ∙ ap (λ m. values logic (word_of m (number j))) (sym c.requires.inputs) in
    let given : bits (column c.give_values.new.rows j) c.outputs.result.now ≡ bits (values logic (at j)) logic.outputs =
    ap (λ w. bits w c.outputs.result.now) all ∙ ap (bits (values logic (at j))) c.outputs.ensures.value in
    let To : List Bool → Type 0 = λ w. Decides (row_bit c.agreement_with.result j) (w ≡ bits (values logic (at j)) logic.outputs) in
    subst To (c.give_outputs-kept.ensures.words j few)
    (subst (λ w. Decides (row_bit c.agreement_with.result j) (column (take c.give_outputs-kept.result c.give_outputs-kept.new.rows) j ≡ w)) given (c.agreement_with.ensures j few)))
    c.first_zero.ensures
