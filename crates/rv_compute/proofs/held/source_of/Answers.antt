use Rattle.std.proofs.Common.{rules, ◌-◌, ℕ, List, length, get_or, ap, subst, ◌∙◌, arith}
use Rattle.std.specs.Prelude.{IfSome}
use Rattle.rv_blif.specs.Logic.{Node}
use Rattle.rv_compute.specs.inside.Sums.{IsStart}
use Rattle.rv_compute.proofs.inside.Standing.{source_if}
use Rattle.rv_compute.proofs.held.source_of.Goals as goal

pub returns : goal.returns
returns c =
    let k = c.args.signal - c.input_count-inputs.result in
    let node = c.index-nodes-k.result in
    let size = ap (λ (l : List Node). length l) c.nodes-nodes.ensures.value in
    let P : List ℕ → Type 0 = λ l. IfSome c.start_of.result (IsStart l c.args.pass.operand) in
    source_if c.args.logic.now c.args.signal k node c.args.pass.operand c.start_of.result c.args.pass.changed
    c.nodes-nodes.ensures.valid (omega (arith, c.input_count-inputs.ensures.value)) (omega arith)
    (c.index-nodes-k.is ∙ ap (λ (l : List Node). get_or l k node) c.nodes-nodes.ensures.value)
    (c.passes_on.ensures (search rules))
    (subst P c.operands.ensures.value c.start_of.ensures)
