use Rattle.std.proofs.Common.{sym, ◌∙◌}
use Rattle.rv_templ.specs.Images.{turned}
use Rattle.rv_templ.proofs.WindowLaws.{span_turned}
use Rattle.rv_templ.proofs.inside.PruningLaws.{none_at_all}
use Rattle.rv_templ.proofs.search.renaming.Goals as goal

pub returns-then-not-may : goal.returns-then-not-may
returns-then-not-may c = sym (none_at_all c.args.window.now (turned c.args.r c.args.template.now) (c.may_match-may.ensures c.if-not-may.true))

pub explore-requires-clause-own : goal.explore-requires-clause-own
explore-requires-clause-own c = c.requires.own ∙ sym (span_turned c.args.r c.args.template.now)
