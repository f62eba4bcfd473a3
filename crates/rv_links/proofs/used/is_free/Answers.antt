use Rattle.std.proofs.Common.{sym, ◌∙◌, ap}
use Rattle.rv_gate.specs.Commuting.{meet}
use Rattle.rv_links.proofs.inside.UsedLemmas.{free_rule}
use Rattle.rv_links.proofs.used.is_free.Goals as goal

pub returns : goal.returns
returns c on other uses =
    free_rule c.args.gate other c.args.read c.args.changed (sym c.is_flip-flip.ensures ∙ c.if-not-flip.false)
    (ap (λ set. meet set c.args.read) (sym c.targets.ensures) ∙ c.apart-unread.ensures c.if-not-unread.false)
    (ap (λ set. meet set c.args.changed) (sym c.controls.ensures) ∙ c.apart.ensures on) uses
