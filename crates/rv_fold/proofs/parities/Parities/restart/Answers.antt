use Rattle.std.proofs.Common.{sym, arith, length, subst}
use Rattle.rv_fold.specs.Parities.{Parities}
use Rattle.rv_fold.specs.inside.Mixed.{AreMixed}
use Rattle.rv_fold.specs.inside.Shown.{parities_of}
use Rattle.rv_fold.proofs.inside.Mixed.{less, mixed_restarted}
use Rattle.rv_fold.proofs.parities.Parities.restart.Goals as goal

pub invariant_of-self-clause-are_mixed : goal.invariant_of-self-clause-are_mixed
invariant_of-self-clause-are_mixed c =
    let items = c.args.self.now.parities.items in
    let news = c.restart_lines.new.parities.items in
    let mixed = less c.args.self.now.mixed c.reached-set.result in
    subst (λ n. AreMixed n (parities_of news) mixed) (sym c.restart_lines.ensures.count)
    (subst (λ (f : Parities). AreMixed (length items) f mixed) (sym c.restart_lines.ensures.parities)
    (mixed_restarted (length items) (parities_of items) c.args.self.now.mixed c.args.self.now.are_mixed c.reached-set.result (omega arith) (omega arith)))
