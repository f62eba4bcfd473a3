use Rattle.std.proofs.Common.{sym, arith, set, length, length-set, subst}
use Rattle.rv_fold.specs.Parities.{Parities}
use Rattle.rv_fold.specs.inside.Mixed.{AreMixed}
use Rattle.rv_fold.specs.inside.Shown.{parities_of}
use Rattle.rv_fold.proofs.inside.Mixed.{mixed_more, with_one}
use Rattle.rv_fold.proofs.inside.ParityLists.{with_parity_set}
use Rattle.rv_fold.proofs.parities.Parities.set_parity.Goals as goal

pub invariant_of-self-clause-are_mixed : goal.invariant_of-self-clause-are_mixed
invariant_of-self-clause-are_mixed c =
    let items = c.args.self.now.parities.items in
    let mixed = with_one c.args.self.now.mixed c.args.line in
    subst (λ n. AreMixed n (parities_of (set items c.args.line c.args.parity)) mixed) (sym (length-set items c.args.line c.args.parity))
    (subst (λ (f : Parities). AreMixed (length items) f mixed) (sym (with_parity_set items c.args.line c.args.parity c.requires))
    (mixed_more (length items) (parities_of items) c.args.self.now.mixed c.args.self.now.are_mixed c.args.line c.args.parity c.requires (omega (arith, c.requires, c.args.self.now.few))))

pub returns-clause-parities : goal.returns-clause-parities
returns-clause-parities c = with_parity_set c.args.self.now.parities.items c.args.line c.args.parity c.requires
