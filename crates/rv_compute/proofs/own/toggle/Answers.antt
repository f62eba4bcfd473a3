use Rattle.std.proofs.Common.{◌≡◌, ◌≢◌, ◌+◌, ◌<◌, ℕ, List, length, get_or, ap, sym, subst, ◌∙◌}
use Rattle.std.specs.Prelude.{All}
use Rattle.rv_blif.specs.Logic.{Node, signal_count}
use Rattle.rv_compute.specs.inside.Own.{own_line}
use Rattle.rv_compute.proofs.inside.Owning.{operands_there, operands_apart}
use Rattle.rv_compute.proofs.own.toggle.Goals as goal

pub put-requires-clause-there : goal.put-requires-clause-there
put-requires-clause-there c =
    let logic = c.args.logic.now in
    let node = c.index-nodes-k.result in
    subst (λ (l : List ℕ). All (λ signal. signal < signal_count logic) l) (sym c.operands.ensures.value)
    (operands_there logic c.args.k node c.nodes.ensures.valid c.requires.there
    (c.index-nodes-k.is ∙ ap (λ (l : List Node). get_or l c.args.k node) c.nodes.ensures.value))

pub put-requires-clause-apart : goal.put-requires-clause-apart
put-requires-clause-apart c =
    let logic = c.args.logic.now in
    let node = c.index-nodes-k.result in
    let line : c.own_line-line.result ≡ own_line logic (length logic.inputs + c.args.k) =
    c.own_line-line.ensures ∙ ap (λ k. own_line logic (k + c.args.k)) c.input_count.ensures.value in
    subst (λ (l : List ℕ). All (λ signal. own_line logic signal ≢ c.own_line-line.result) l) (sym c.operands.ensures.value)
    (subst (λ (t : ℕ). All (λ signal. own_line logic signal ≢ t) node.operands) (sym line)
    (operands_apart logic c.args.k node c.nodes.ensures.valid c.requires.there
    (c.index-nodes-k.is ∙ ap (λ (l : List Node). get_or l c.args.k node) c.nodes.ensures.value)))
