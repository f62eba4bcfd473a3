use Rattle.std.proofs.Common.{rules, ◌≡◌, ◌-◌, ◌<◌, ℕ, List, length, get_or, ap, subst, ◌∙◌, arith}
use Rattle.std.specs.Prelude.{Option, Some, None, IfOk}
use Rattle.rv_blif.specs.Logic.{Node}
use Rattle.rv_compute.specs.inside.Sums.{IsStart}
use Rattle.rv_compute.specs.inside.Held.{held_at, IsExchanged, IsPutFor}
use Rattle.rv_compute.proofs.inside.Standing.{change_add, exchange, finish, by_default}
use Rattle.rv_compute.proofs.step.add.Goals as goal

pub returns : goal.returns
returns c =
    let logic = c.args.logic.now in
    let held = c.args.work.now.held.items in
    let node = c.index-nodes-signal.result in
    let k = c.args.signal - c.input_count-inputs.result in
    let products = c.args.products.now in
    let next = c.in-Some-exchanged.next in
    let Begins : List ℕ → Type 0 = λ l. IsStart l c.args.start c.in-Some.old in
    let begins = subst Begins c.operands-operands.ensures.value c.in-Some.ensures in
    let size = ap (λ (l : List Node). length l) c.nodes-nodes.ensures.value in
    let there : c.args.line < length held = search rules in
    let change =
    change_add logic k c.args.signal node c.args.start c.in-Some.old products c.nodes-nodes.ensures.valid
    (omega (arith, c.input_count-inputs.ensures.value)) (omega arith)
    (c.index-nodes-signal.is ∙ ap (λ (l : List Node). get_or l k node) c.nodes-nodes.ensures.value) begins
    (c.is_sum.ensures (search rules)) in
    let at : c.index.result.now ≡ held_at held c.args.line =
    c.index.ensures ∙ ap (λ i. get_or held i c.index.result.now) c.from-2.ensures
    ∙ by_default held c.args.line c.index.result.now None there in
    let Moves : Option ℕ → Type 0 = λ h. IsExchanged h c.in-Some.old (Some c.args.signal) next in
    let moved =
    exchange logic node.operands products (held_at held c.args.line) c.in-Some.old (Some c.args.signal) next
    (subst Moves at c.in-Some-exchanged.ensures) change in
    let Put : List ℕ → Type 0 =
    λ l. IfOk c.put_operands.result (IsPutFor logic l c.args.line products next held c.args.work.now.gates.items
    c.put_operands.new.work.held.items c.put_operands.new.work.gates.items) in
    finish logic c.args.extra held c.args.work.now.gates.items c.args.line products node.operands next
    c.put_operands.result c.put_operands.new.work.held.items c.put_operands.new.work.gates.items c.requires.stands there
    moved (subst Put c.operands-operands.ensures.value c.put_operands.ensures)
