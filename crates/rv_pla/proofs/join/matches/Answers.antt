use Rattle.std.proofs.Common.{◌-◌, ℕ, ◌∙◌, ap}
use Rattle.std.specs.Int.{bit_at}
use Rattle.rv_pla.proofs.inside.Matching.{matches-mirrored}
use Rattle.rv_pla.proofs.join.matches.Goals as goal

pub returns : goal.returns
returns c =
    let n : ℕ = c.args.inputs in
    c.agrees.ensures
    ∙ matches-mirrored n c.args.x c.args.cube c.mirrored_u32-care.result c.mirrored_u32-want.result
    (record { below = c.mirrored_u32-care.ensures.bound; at = λ i h. c.mirrored_u32-care.ensures.bits i h ∙ ap (λ (s : ℕ). bit_at s (n - 1 - i)) c.from.ensures })
    (record { below = c.mirrored_u32-want.ensures.bound; at = λ i h. c.mirrored_u32-want.ensures.bits i h ∙ ap (λ (s : ℕ). bit_at s (n - 1 - i)) c.from-2.ensures })
