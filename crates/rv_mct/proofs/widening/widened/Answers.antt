use Rattle.std.proofs.Common.{List, ℕ, ◌∙◌, ◌++◌, ap, arith, length}
use Rattle.std.proofs.lemmas.List.{length-append}
use Rattle.rv_gate.specs.Circuit.{fresh}
use Rattle.rv_mct.specs.Widened.{added_names}
use Rattle.rv_mct.proofs.widening.widened.Goals as goal

pub new-requires : goal.new-requires
new-requires c =
    let names = c.names.result.now in
    omega (arith, c.recall_invariant.ensures.some, ap length c.names.ensures, ap length c.in_ok-names.ensures, length-append names (added_names names c.args.extra))

pub mark_lines-requires-clause-fresh : goal.mark_lines-requires-clause-fresh
mark_lines-requires-clause-fresh c =
    c.in_ok-wide.ensures
    ∙ ap fresh (c.in_ok-names.ensures ∙ ap (λ (names : List (List ℕ)). names ++ added_names names c.args.extra) c.names.ensures)
