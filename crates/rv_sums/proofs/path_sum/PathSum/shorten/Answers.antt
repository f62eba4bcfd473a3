use Rattle.rv_sums.proofs.inside.Shorter.{leads_none, leads_then}
use Rattle.rv_sums.proofs.path_sum.PathSum.shorten.Goals as goal

pub rounds-init : goal.rounds-init
rounds-init c = leads_none c.args.self.now

pub rounds-preserved : goal.rounds-preserved
rounds-preserved c =
    leads_then c.args.self.now c.rounds.self c.shorten_once.new.self c.rounds.invariant c.in_ok-again.ensures

pub returns-then-not-again : goal.returns-then-not-again
returns-then-not-again c =
    leads_then c.args.self.now c.rounds.self c.shorten_once.new.self c.rounds.invariant c.in_ok-again.ensures
