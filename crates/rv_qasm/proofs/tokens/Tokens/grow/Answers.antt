use Rattle.std.proofs.Common.{[], ◌∷◌, ◌++◌, length, ap, ◌∙◌, arith}
use Rattle.std.proofs.lemmas.List.{length-append}
use Rattle.rv_qasm.specs.inside.Flat.{cut_at, with_byte}
use Rattle.rv_qasm.proofs.inside.Flat.{Ascend-more, cut_at-grown}
use Rattle.rv_qasm.proofs.tokens.Tokens.grow.Goals as goal

pub invariant_of-self-2 : goal.invariant_of-self-2
invariant_of-self-2 c =
    rw c.in_ok-push.ensures.items
    (Ascend-more (length c.self.inside.bytes.items) (length (c.self.inside.bytes.items ++ c.args.byte ∷ [])) c.self.inside.starts.items (omega (arith, length-append c.self.inside.bytes.items (c.args.byte ∷ []))) c.self.invariant)

pub returns : goal.returns
returns c =
    ap (λ bytes. cut_at c.self.inside.starts.items bytes) c.in_ok-push.ensures.items
    ∙ cut_at-grown c.self.inside.starts.items c.self.inside.bytes.items c.args.byte c.self.invariant
    ∙ ap (λ lists. with_byte lists c.args.byte) c.self.view_is
