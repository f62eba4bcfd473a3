use Rattle.std.proofs.Common.{◌≡◌}
use Rattle.rv_gate.specs.Circuit.{Cascade}
use Rattle.rv_compare.specs.Compare.{AreSame, CircuitsAnswer, asked, circuits_answer, size_of}
use Rattle.rv_compare.specs.declared.comparison.Comparison.{Comparison}
use Rattle.rv_compare.specs.declared.comparison.Comparison.TheVariants.{Same}
use Rattle.rv_compare.proofs.inside.Drawn.{found_answer}
use Rattle.rv_compare.proofs.inside.Found.{circuits_answer-is}
use Rattle.rv_compare.proofs.inside.Least.{exact_answer}
use Rattle.rv_compare.proofs.circuits.compare_circuits.Goals as goal

is-value : (a b : Cascade) (given : Comparison) → CircuitsAnswer a b given → given ≡ circuits_answer a b
is-value a b given holds = (exact_answer (size_of a) (size_of b) (AreSame a b) given holds (circuits_answer a b)).1 (circuits_answer-is a b)

pub returns-in-Some-clause-exact : goal.returns-in-Some-clause-exact
returns-in-Some-clause-exact c =
    let a = asked c.args.all c.args.a.now in
    let b = asked c.args.all c.args.b.now in
    exact_answer (size_of a) (size_of b) (AreSame a b) c.in-Some.apart c.in-Some.ensures.apart

pub returns-in-Some-clause-value : goal.returns-in-Some-clause-value
returns-in-Some-clause-value c = is-value (asked c.args.all c.args.a.now) (asked c.args.all c.args.b.now) c.in-Some.apart c.in-Some.ensures.apart

pub returns-in-Ok-clause-exact : goal.returns-in-Ok-clause-exact
returns-in-Ok-clause-exact c =
    let a = asked c.args.all c.args.a.now in
    let b = asked c.args.all c.args.b.now in
    exact_answer (size_of a) (size_of b) (AreSame a b) c.answer_of.result
    (rw c.answer_of.ensures (found_answer (size_of a) (size_of b) (AreSame a b) c.input_count-inputs.result c.in-Ok.found
    (c.sizes_apart.ensures.inputs c.in_default.is) (c.sizes_apart.ensures.outputs c.in_default.is) c.input_count-inputs.ensures.value c.in-Ok.ensures))

pub returns-in-Ok-clause-value : goal.returns-in-Ok-clause-value
returns-in-Ok-clause-value c =
    let a = asked c.args.all c.args.a.now in
    let b = asked c.args.all c.args.b.now in
    (returns-in-Ok-clause-exact c (circuits_answer a b)).1 (circuits_answer-is a b)

pub returns-in-Ok-clause-same : goal.returns-in-Ok-clause-same
returns-in-Ok-clause-same c = λ is x len.
    let same : c.answer_of.result ≡ Same = cc in
    ((returns-in-Ok-clause-exact c Same).0 same).2 x len

pub returns-clause-exact : goal.returns-clause-exact
returns-clause-exact c =
    let a = asked c.args.all c.args.a.now in
    let b = asked c.args.all c.args.b.now in
    exact_answer (size_of a) (size_of b) (AreSame a b) c.compare_words.result c.compare_words.ensures

pub returns-clause-value : goal.returns-clause-value
returns-clause-value c = is-value (asked c.args.all c.args.a.now) (asked c.args.all c.args.b.now) c.compare_words.result c.compare_words.ensures
