use Rattle.rv_terms.specs.Phases.{total}
use Rattle.rv_terms.proofs.Powers.{and_terms}
use Rattle.rv_terms.proofs.phases.Phases.add_rest.Goals as goal

pub returns-in_ok-add_kept : goal.returns-in_ok-add_kept
returns-in_ok-add_kept c x v =
    and_terms _ _ _ (total c.args.self.now.terms.items x v) (c.in_ok-add_kept.ensures x v)
