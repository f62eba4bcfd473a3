use Rattle.rv_compare.specs.Compare.{GivesImage, asked, asked_perm, perm_answer, size_by, size_of}
use Rattle.rv_compare.specs.declared.comparison.Comparison.TheVariants.{Same}
use Rattle.rv_compare.proofs.inside.Found.{perm_answer-is}
use Rattle.rv_compare.proofs.inside.Images.{marked_same}
use Rattle.rv_compare.proofs.inside.Least.{exact_answer}
use Rattle.rv_compare.proofs.OnAllLines.{perm-unmarked, unmarked-asked}
use Rattle.rv_compare.proofs.perm.compare_perm.Goals as goal

pub returns-clause-exact : goal.returns-clause-exact
returns-clause-exact c answer =
    let circuit = asked c.args.all c.args.circuit.now in
    let spec = asked_perm c.args.all c.args.spec.now in
    exact_answer (size_of circuit) (size_by spec) (GivesImage circuit spec) c.compare.result c.compare.ensures answer

pub returns-clause-value : goal.returns-clause-value
returns-clause-value c =
    let circuit = asked c.args.all c.args.circuit.now in
    let spec = asked_perm c.args.all c.args.spec.now in
    (returns-clause-exact c (perm_answer circuit spec)).1 (perm_answer-is circuit spec)

pub returns-clause-computes : goal.returns-clause-computes
returns-clause-computes c free =
    let circuit = c.args.circuit.now in
    let spec = c.args.spec.now in
    let exact = returns-clause-exact c Same in
    let same = marked_same (asked c.args.all circuit) (asked_perm c.args.all spec) (unmarked-asked c.args.all circuit spec c.recall_invariant.ensures free)
    (perm-unmarked c.args.all circuit spec c.recall_invariant-2.ensures free) in
    (λ e. same.0 (exact.0 e), λ h. exact.1 (same.1 h))
