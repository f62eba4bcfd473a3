use Rattle.std.proofs.Common.{◌≡◌, ◌-◌, ◌+◌, ℕ, ◌∙◌, sym, ap, arith, length, get_or, inl, inr, refl, Some, subst}
use Rattle.std.specs.Prelude.{slice_get}
use Rattle.std.proofs.lemmas.Grind.{get_or_default_zero}
use Rattle.std.proofs.lemmas.Option.{same_Some, slice_get_read}
use Rattle.rv_pairs.specs.declared.chains.Node.{Node}
use Rattle.rv_pairs.specs.inside.Cells.{StandsAt}
use Rattle.rv_pairs.specs.inside.Chained.{Chain, IsLatest}
use Rattle.rv_pairs.proofs.inside.Linked.{latest_here, view}
use Rattle.rv_pairs.proofs.chains.Chains.latest.Goals as goal

pub returns-else-link-eq0-clause-latest : goal.returns-else-link-eq0-clause-latest
returns-else-link-eq0-clause-latest c = λ belongs are.
    let cells = c.args.cells.now in
    let nodes = c.args.self.now.nodes.items in
    let slot = c.args.slot in
    let link = c.past_gaps-link.result in
    let here : ℕ = link - 1 in
    let node : Node = c.index-else-link-eq0.result.now in
    let at : slice_get nodes here ≡ Some node = slice_get_read nodes _ here node refl (omega (arith, c.past_gaps-link.ensures.within)) c.index-else-link-eq0.ensures in
    let read : c.index.result.now ≡ get_or c.args.self.now.heads.items slot 0 = c.index.ensures ∙ get_or_default_zero c.args.self.now.heads.items slot _ c.requires.slot in
    let chain : Chain cells nodes (belongs slot) link (length cells) =
    c.past_gaps-link.ensures.chain (belongs slot) (subst (λ n. Chain cells nodes (belongs slot) n (length cells)) (sym read) (are.each slot c.requires.slot)) in
    let op = c.past_gaps-link.ensures.stands here node (omega arith) at in
    elim (view cells nodes (belongs slot) link (length cells) chain) [
      | inl none ↦ absurd (c.if-link-eq0.false none.0)
      | inr is ↦
          (let same : is.node ≡ node = same_Some _ _ (sym is.there ∙ ap (slice_get nodes) (let e : is.at ≡ here = omega (arith, is.is) in e) ∙ at) in
          subst (λ (n : Node). IsLatest cells (belongs slot) (n.place + 1)) same
          (latest_here cells nodes (belongs slot) link is op.0 (subst (λ (n : Node). StandsAt cells n.place op.0) (sym same) op.1)))
    ]
