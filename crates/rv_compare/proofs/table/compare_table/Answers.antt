use Rattle.rv_compare.specs.Compare.{GivesAllowed, asked, size_for, size_of, table_answer}
use Rattle.rv_compare.specs.declared.comparison.Comparison.TheVariants.{Same}
use Rattle.rv_compare.proofs.inside.Found.{table_answer-is}
use Rattle.rv_compare.proofs.inside.Least.{exact_answer}
use Rattle.rv_compare.proofs.OnAllLines.{valid-asked}
use Rattle.rv_compare.proofs.Realizing.{realizes_same, same_realizes}
use Rattle.rv_compare.proofs.table.compare_table.Goals as goal

pub returns-clause-exact : goal.returns-clause-exact
returns-clause-exact c answer =
    let circuit = asked c.args.all c.args.circuit.now in
    let pla = c.args.pla.now in
    exact_answer (size_of circuit) (size_for pla) (GivesAllowed circuit pla) c.compare.result c.compare.ensures answer

pub returns-clause-value : goal.returns-clause-value
returns-clause-value c =
    let circuit = asked c.args.all c.args.circuit.now in
    let pla = c.args.pla.now in
    (returns-clause-exact c (table_answer circuit pla)).1 (table_answer-is circuit pla)

pub returns-clause-realizes : goal.returns-clause-realizes
returns-clause-realizes c =
    let circuit = asked c.args.all c.args.circuit.now in
    let pla = c.args.pla.now in
    let same = returns-clause-exact c Same in
    (λ e. same_realizes circuit pla (valid-asked c.args.all c.args.circuit.now c.recall_invariant.ensures) (same.0 e), λ h. same.1 (realizes_same circuit pla h))
