use Rattle.std.proofs.Common.{◌≡◌}
use Rattle.std.specs.Prelude.{◌↔◌}
use Rattle.rv_gate.specs.Circuit.{Cascade}
use Rattle.rv_blif.specs.Logic.{Logic}
use Rattle.rv_compare.specs.Compare.{GivesOutputs, LogicAnswer, asked, logic_answer, size_in, size_of}
use Rattle.rv_compare.specs.declared.comparison.Comparison.{Comparison}
use Rattle.rv_compare.proofs.inside.Drawn.{found_answer, if_ok_as}
use Rattle.rv_compare.proofs.inside.Found.{logic_answer-is}
use Rattle.rv_compare.proofs.inside.Least.{exact_answer}
use Rattle.rv_compare.proofs.logic.compare_logic.Goals as goal

is-value : (a : Cascade) (b : Logic) (given : Comparison) → LogicAnswer a b given → given ≡ logic_answer a b
is-value a b given holds = (exact_answer (size_of a) (size_in b) (GivesOutputs a b) given holds (logic_answer a b)).1 (logic_answer-is a b)

pub returns-in-Some-clause-exact : goal.returns-in-Some-clause-exact
returns-in-Some-clause-exact c =
    let a = asked c.args.all c.args.circuit.now in
    let b = c.args.logic.now in
    exact_answer (size_of a) (size_in b) (GivesOutputs a b) c.in-Some.apart c.in-Some.ensures.apart

pub returns-in-Some-clause-value : goal.returns-in-Some-clause-value
returns-in-Some-clause-value c = is-value (asked c.args.all c.args.circuit.now) c.args.logic.now c.in-Some.apart c.in-Some.ensures.apart

pub returns-in-Ok-clause-exact : goal.returns-in-Ok-clause-exact
returns-in-Ok-clause-exact c =
    let a = asked c.args.all c.args.circuit.now in
    let b = c.args.logic.now in
    exact_answer (size_of a) (size_in b) (GivesOutputs a b) c.answer_of.result
    (rw c.answer_of.ensures (found_answer (size_of a) (size_in b) (GivesOutputs a b) c.input_count-inputs.result c.in-Ok.found
    (c.sizes_apart.ensures.inputs c.in_default.is) (c.sizes_apart.ensures.outputs c.in_default.is) c.input_count-inputs.ensures.value c.in-Ok.ensures))

pub returns-in-Ok-clause-value : goal.returns-in-Ok-clause-value
returns-in-Ok-clause-value c =
    let a = asked c.args.all c.args.circuit.now in
    let b = c.args.logic.now in
    (returns-in-Ok-clause-exact c (logic_answer a b)).1 (logic_answer-is a b)

pub returns-clause-exact : goal.returns-clause-exact
returns-clause-exact c =
    let a = asked c.args.all c.args.circuit.now in
    let b = c.args.logic.now in
    if_ok_as c.compare_rows.result (LogicAnswer a b) (λ given. (answer : Comparison) → (given ≡ answer) ↔ LogicAnswer a b answer)
    (λ given holds. exact_answer (size_of a) (size_in b) (GivesOutputs a b) given holds) c.compare_rows.ensures.answer

pub returns-clause-value : goal.returns-clause-value
returns-clause-value c =
    let a = asked c.args.all c.args.circuit.now in
    let b = c.args.logic.now in
    if_ok_as c.compare_rows.result (LogicAnswer a b) (λ given. given ≡ logic_answer a b) (is-value a b) c.compare_rows.ensures.answer
