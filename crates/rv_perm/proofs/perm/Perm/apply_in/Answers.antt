use Rattle.std.proofs.Common.{rules, ◌≡◌, ℕ, List, map, sym, ap, ◌∙◌, arith}
use Rattle.std.proofs.lemmas.List.{length-map}
use Rattle.rv_gate.specs.Gate.{act_on_number, FitsIn, IsGate}
use Rattle.rv_perm.specs.Perm.{Table, reindexed}
use Rattle.rv_perm.proofs.inside.Inverse.{length-reindexed, inverse_in, written, kept_tables}
use Rattle.rv_perm.proofs.perm.Perm.apply_in.Goals as goal

pub invariant_of-self : goal.invariant_of-self
invariant_of-self c =
    let n : ℕ = c.self.inside.lines in
    let images : List ℕ = c.self.inside.images.items in
    let preimages : List ℕ = c.self.inside.preimages.items in
    let valid : IsGate c.args.gate = search rules in
    let lines : n ≡ c.args.self.now.lines = ap (λ (t : Table). t.lines) c.self.view_is in
    let fits : FitsIn c.args.gate n = λ line on. omega (arith, c.requires.fits line on) in
    let both = inverse_in c.args.gate n images preimages c.requires.is_flip valid fits c.self.invariant.0 c.self.invariant.1 in
    kept_tables n (reindexed (act_on_number c.args.gate n) images) _ (map (act_on_number c.args.gate n) preimages) _
    (written c.self.inside.images.len c.exchange.new.table _ images (c.exchange.ensures.table ∙ ap (reindexed (act_on_number c.args.gate n)) c.deref_mut.ensures.value)
    (c.self.inside.images.ok.0 ∙ sym (length-reindexed (act_on_number c.args.gate n) images)))
    (written c.self.inside.preimages.len c.exchange.new.inverse _ preimages (c.exchange.ensures.inverse ∙ ap (map (act_on_number c.args.gate n)) c.deref_mut-2.ensures.value)
    (c.self.inside.preimages.ok.0 ∙ sym (length-map preimages (act_on_number c.args.gate n))))
    both.perm both.inverse
