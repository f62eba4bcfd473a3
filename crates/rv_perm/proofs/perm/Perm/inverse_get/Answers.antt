use Rattle.std.proofs.Common.{◌≡◌, ℕ, ◌<◌, List, length, get_or, ap, ◌∙◌, sym, arith}
use Rattle.std.proofs.lemmas.List.{get_or_default}
use Rattle.rv_perm.specs.Perm.{Table, preimage_of}
use Rattle.rv_perm.proofs.inside.Inverse.{preimage_of-is}
use Rattle.rv_perm.proofs.perm.Perm.inverse_get.Goals as goal

pub returns-clause-value : goal.returns-clause-value
returns-clause-value c =
    let images : List ℕ = c.self.inside.images.items in
    let preimages : List ℕ = c.self.inside.preimages.items in
    let lines : c.self.inside.lines ≡ c.args.self.now.lines = ap (λ (t : Table). t.lines) c.self.view_is in
    let y_in : c.args.y < length images = rw (c.self.invariant.0.2, lines) c.requires in
    c.index.ensures
    ∙ get_or_default preimages c.args.y c.index.result.now 0 (omega (arith, c.self.invariant.1.len))
    ∙ sym (preimage_of-is images (get_or preimages c.args.y 0) c.args.y c.self.invariant.0.3.1 (c.self.invariant.1.below c.args.y y_in) (c.self.invariant.1.there c.args.y y_in))
    ∙ ap (λ (t : Table). preimage_of t.images c.args.y) c.self.view_is
