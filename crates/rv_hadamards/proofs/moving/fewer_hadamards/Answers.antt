use Rattle.std.proofs.Common.{◌≡◌, ◌∙◌, ◌++◌, List, ℕ, sym, ap, subst}
use Rattle.rv_net.specs.Op.{Network}
use Rattle.rv_net.specs.declared.op.Op.{Op}
use Rattle.rv_hadamards.specs.Becomes.{Becomes}
use Rattle.rv_hadamards.proofs.Becoming.{whole}
use Rattle.rv_hadamards.proofs.moving.fewer_hadamards.Goals as goal

pub returns : goal.returns
returns c =
    let net : Network = c.args.net.now in
    let result : Network = c.of_ops.result in
    let copied : c.extend_from_slice.new.self.items ≡ net.ops =
    c.in_ok-extend_from_slice.ensures.items ∙ ap (λ l. l ++ c.ops-2.result.now) c.in_ok-ops.ensures.items ∙ c.ops-2.ensures in
    let made : result.ops ≡ c.in_ok-made.made.items = ap (λ (n : Network). n.ops) c.of_ops.ensures in
    let lines : result.lines ≡ net.lines = ap (λ (n : Network). n.lines) c.of_ops.ensures ∙ c.lines-2.ensures.value in
    let one : Becomes c.lines.result c.extend_from_slice.new.self.items c.in_ok-made.made.items = c.in_ok-made.ensures in
    let two : Becomes net.lines c.extend_from_slice.new.self.items c.in_ok-made.made.items =
    subst (λ (n : ℕ). Becomes n c.extend_from_slice.new.self.items c.in_ok-made.made.items) c.lines.ensures.value one in
    let three : Becomes net.lines net.ops c.in_ok-made.made.items = subst (λ (l : List Op). Becomes net.lines l c.in_ok-made.made.items) copied two in
    whole net result c.recall_invariant.ensures lines (subst (λ (l : List Op). Becomes net.lines net.ops l) (sym made) three)
