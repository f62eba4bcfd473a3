use Rattle.std.proofs.Common.{◌≡◌, ◌-◌, ℕ, ◌∙◌, sym, ap, arith, length, inl, inr, refl, Some, subst}
use Rattle.rv_net.specs.declared.op.Op.{Op}
use Rattle.std.specs.Prelude.{slice_get}
use Rattle.std.proofs.lemmas.Bool.{false≢true}
use Rattle.std.proofs.lemmas.Option.{same_Some, slice_get_read}
use Rattle.rv_pairs.specs.declared.chains.Node.{Node}
use Rattle.rv_pairs.specs.inside.Cells.{StandsAt}
use Rattle.rv_pairs.specs.inside.Chained.{Chain}
use Rattle.rv_pairs.proofs.inside.Linked.{past_gap, view}
use Rattle.rv_pairs.proofs.chains.Chains.past_gaps.Goals as goal

pub loop-link-smaller : goal.loop-link-smaller
loop-link-smaller c =
    let here : ℕ = c.loop-link.link - 1 in
    let at : slice_get c.args.self.now.nodes.items here ≡ Some c.index-node.result.now = slice_get_read c.args.self.now.nodes.items _ here c.index-node.result.now refl (omega arith) c.index-node.ensures in
    omega (arith, c.args.self.now.falling here c.index-node.result.now at)

pub loop-link-preserved : goal.loop-link-preserved
loop-link-preserved c =
    let nodes = c.args.self.now.nodes.items in
    let here : ℕ = c.loop-link.link - 1 in
    let at : slice_get nodes here ≡ Some c.index-node.result.now = slice_get_read nodes _ here c.index-node.result.now refl (omega arith) c.index-node.ensures in
    let gap : (o : Op) → StandsAt c.args.cells.now c.index-node.result.now.place o → ⊥ = λ o h. false≢true (sym c.if-is_kept.false ∙ c.is_kept.ensures.1 (o, h)) in
    record {
      within = omega (arith, c.args.self.now.falling here c.index-node.result.now at);
      chain = λ belongs chain.
          elim (view c.args.cells.now nodes belongs c.loop-link.link (length c.args.cells.now) (c.loop-link.invariant.chain belongs chain)) [
            | inl none ↦ absurd (c.loop-link-test.true none.0)
            | inr is ↦
                (let same : is.node ≡ c.index-node.result.now = same_Some _ _ (sym is.there ∙ ap (slice_get nodes) (let e : is.at ≡ here = omega (arith, is.is) in e) ∙ at) in
                subst (λ (n : Node). Chain c.args.cells.now nodes belongs n.below (length c.args.cells.now)) same
                (past_gap c.args.cells.now nodes belongs c.loop-link.link (length c.args.cells.now) is (λ o h. gap o (subst (λ (n : Node). StandsAt c.args.cells.now n.place o) same h))))
          ];
    }
