use Rattle.std.proofs.Common.{◌∙◌, List, ap, arith}
use Rattle.rv_paths.specs.declared.terms.Term.{Term}
use Rattle.rv_paths.specs.inside.Parity.{value_from}
use Rattle.rv_paths.proofs.inside.Turning.{value-append}
use Rattle.rv_paths.proofs.phases.Phases.push.Goals as goal

pub returns-in_ok-push-2 : goal.returns-in_ok-push-2
returns-in_ok-push-2 c u =
    let t : Term = record { mask = c.args.mask; weight = c.args.weight } in
    let more = ap (λ (l : List Term). value_from 1 l u) c.in_ok-push.ensures.items ∙ value-append 1 c.join.new.self.terms.items t u in
    let joined = c.if-not-join.ensures u in
    omega (arith, more, joined)
