use Rattle.rv_terms.specs.Phases.{total, total_kept}
use Rattle.rv_terms.proofs.Powers.{and_kept}
use Rattle.rv_terms.proofs.phases.Phases.add_all.Goals as goal

pub returns : goal.returns
returns c x v =
    and_kept (total c.lift.new.terms.items x v) (total c.args.self.now.terms.items x v) _
    (total_kept c.args.self.now.kept.items x v) (c.in_ok-lift.ensures x v)
