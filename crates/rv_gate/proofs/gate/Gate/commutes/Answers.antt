use Rattle.std.proofs.Common.{◌∙◌, sym, rules}
use Rattle.rv_gate.proofs.Commuting.{rule_agrees, rule_differs}
use Rattle.rv_gate.proofs.gate.Gate.commutes.Goals as goal

pub returns-clause-agree : goal.returns-clause-agree
returns-clause-agree c e = rule_agrees c.args.self c.args.other (search rules) (search rules) (sym c.rule.ensures ∙ e)

pub returns-clause-differ : goal.returns-clause-differ
returns-clause-differ c fa fb e n fg fh = rule_differs c.args.self c.args.other fa fb (search rules) (search rules) (sym c.rule.ensures ∙ e) n fg fh
