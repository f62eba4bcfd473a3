use Rattle.std.proofs.Common.{◌≡◌, ◌≤◌, ◌⊎◌, length, sym, arith, inr, subst}
use Rattle.std.specs.Prelude.{Ok, Err, MatchResult}
use Rattle.rv_check.specs.Check.{check_of, compared, first_difference, first_large}
use Rattle.rv_check.specs.declared.checking.CheckFault.TheVariants.{Mem}
use Rattle.rv_check.proofs.inside.Meaning.{circuit_lines, exact_answer, net_lines, other_lines, same_lines}
use Rattle.rv_check.proofs.Terms.{lowest_terms}
use Rattle.rv_check.proofs.checking.check.Goals as goal

pub returns-then-lines-gt-MOST_CHECKED_LINES-clause-answer : goal.returns-then-lines-gt-MOST_CHECKED_LINES-clause-answer
returns-then-lines-gt-MOST_CHECKED_LINES-clause-answer c =
    inr (rw c.line_count-lines.ensures.value (circuit_lines c.args.circuit.now c.args.net.now (omega (arith, c.line_count-lines.ensures.value, c.if-lines-gt-MOST_CHECKED_LINES.true))))

pub returns-then-lines-gt-MOST_CHECKED_LINES-clause-exact : goal.returns-then-lines-gt-MOST_CHECKED_LINES-clause-exact
returns-then-lines-gt-MOST_CHECKED_LINES-clause-exact c = exact_answer c.args.circuit.now c.args.net.now _ (returns-then-lines-gt-MOST_CHECKED_LINES-clause-answer c)

pub returns-then-lines-gt-MOST_CHECKED_LINES-clause-lowest_terms : goal.returns-then-lines-gt-MOST_CHECKED_LINES-clause-lowest_terms
returns-then-lines-gt-MOST_CHECKED_LINES-clause-lowest_terms c = lowest_terms c.args.net.now

pub returns-then-net_lines-gt-MOST_CHECKED_LINES-clause-answer : goal.returns-then-net_lines-gt-MOST_CHECKED_LINES-clause-answer
returns-then-net_lines-gt-MOST_CHECKED_LINES-clause-answer c =
    inr (rw c.lines-net_lines.ensures.value (net_lines c.args.circuit.now c.args.net.now
    (omega (arith, c.line_count-lines.ensures.value, c.if-lines-gt-MOST_CHECKED_LINES.false)) (omega (arith, c.lines-net_lines.ensures.value, c.if-net_lines-gt-MOST_CHECKED_LINES.true))))

pub returns-then-net_lines-gt-MOST_CHECKED_LINES-clause-exact : goal.returns-then-net_lines-gt-MOST_CHECKED_LINES-clause-exact
returns-then-net_lines-gt-MOST_CHECKED_LINES-clause-exact c = exact_answer c.args.circuit.now c.args.net.now _ (returns-then-net_lines-gt-MOST_CHECKED_LINES-clause-answer c)

pub returns-then-net_lines-gt-MOST_CHECKED_LINES-clause-lowest_terms : goal.returns-then-net_lines-gt-MOST_CHECKED_LINES-clause-lowest_terms
returns-then-net_lines-gt-MOST_CHECKED_LINES-clause-lowest_terms c = lowest_terms c.args.net.now

pub returns-then-lines-net_lines-clause-answer : goal.returns-then-lines-net_lines-clause-answer
returns-then-lines-net_lines-clause-answer c =
    rw (c.line_count-lines.ensures.value, c.lines-net_lines.ensures.value) (other_lines c.args.circuit.now c.args.net.now
    (omega (arith, c.line_count-lines.ensures.value, c.if-lines-gt-MOST_CHECKED_LINES.false)) (omega (arith, c.lines-net_lines.ensures.value, c.if-net_lines-gt-MOST_CHECKED_LINES.false))
    (omega (arith, c.line_count-lines.ensures.value, c.lines-net_lines.ensures.value, c.if-lines-net_lines.true)))

pub returns-then-lines-net_lines-clause-exact : goal.returns-then-lines-net_lines-clause-exact
returns-then-lines-net_lines-clause-exact c = exact_answer c.args.circuit.now c.args.net.now _ (returns-then-lines-net_lines-clause-answer c)

pub returns-then-lines-net_lines-clause-lowest_terms : goal.returns-then-lines-net_lines-clause-lowest_terms
returns-then-lines-net_lines-clause-lowest_terms c = lowest_terms c.args.net.now

pub returns-clause-answer : goal.returns-clause-answer
returns-clause-answer c =
    let circuit = c.args.circuit.now in
    let net = c.args.net.now in
    let lines : length circuit.names ≡ net.lines = omega (arith, c.line_count-lines.ensures.value, c.lines-net_lines.ensures.value, c.if-lines-net_lines.false) in
    let few : net.lines ≤ 10 = omega (arith, c.lines-net_lines.ensures.value, c.if-net_lines-gt-MOST_CHECKED_LINES.false) in
    let is : check_of circuit net ≡ compared (first_large net) (first_difference circuit.gates net) = same_lines circuit net lines few in
    subst (λ whole. MatchResult c.compare.result (λ verdict. whole ≡ Ok verdict) (λ fault. (fault ≡ Mem) ⊎ (whole ≡ Err fault))) (sym is) c.compare.ensures

pub returns-clause-exact : goal.returns-clause-exact
returns-clause-exact c = exact_answer c.args.circuit.now c.args.net.now c.compare.result (returns-clause-answer c)

pub returns-clause-lowest_terms : goal.returns-clause-lowest_terms
returns-clause-lowest_terms c = lowest_terms c.args.net.now
