use Rattle.std.proofs.Common.{rules, ◌≡◌, ℕ, List, map, sym, ap, ◌∙◌, arith}
use Rattle.std.proofs.lemmas.List.{length-map}
use Rattle.rv_gate.specs.Gate.{act_on_number, FitsIn, IsGate}
use Rattle.rv_perm.specs.Perm.{Table, reindexed}
use Rattle.rv_perm.proofs.Images.{perm_moved}
use Rattle.rv_perm.proofs.inside.Inverse.{length-reindexed, inverse_out, written, kept_tables}
use Rattle.rv_perm.proofs.perm.Perm.apply_out.Goals as goal

pub invariant_of-self : goal.invariant_of-self
invariant_of-self c =
    let n : ℕ = c.self.inside.lines in
    let images : List ℕ = c.self.inside.images.items in
    let preimages : List ℕ = c.self.inside.preimages.items in
    let valid : IsGate c.args.gate = search rules in
    let lines : n ≡ c.args.self.now.lines = ap (λ (t : Table). t.lines) c.self.view_is in
    let fits : FitsIn c.args.gate n = λ line on. omega (arith, c.requires.fits line on) in
    kept_tables n (map (act_on_number c.args.gate n) images) _ (reindexed (act_on_number c.args.gate n) preimages) _
    (written c.self.inside.images.len c.exchange.new.inverse _ images (c.exchange.ensures.inverse ∙ ap (map (act_on_number c.args.gate n)) c.deref_mut-2.ensures.value)
    (c.self.inside.images.ok.0 ∙ sym (length-map images (act_on_number c.args.gate n))))
    (written c.self.inside.preimages.len c.exchange.new.table _ preimages (c.exchange.ensures.table ∙ ap (reindexed (act_on_number c.args.gate n)) c.deref_mut.ensures.value)
    (c.self.inside.preimages.ok.0 ∙ sym (length-reindexed (act_on_number c.args.gate n) preimages)))
    (perm_moved c.args.gate n images c.requires.is_flip valid fits c.self.invariant.0)
    (inverse_out c.args.gate n images preimages c.requires.is_flip valid fits c.self.invariant.0 c.self.invariant.1)
