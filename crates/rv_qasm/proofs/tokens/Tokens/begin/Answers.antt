use Rattle.std.proofs.Common.{◌≡◌, [], ◌∷◌, ◌++◌, length, ap, ◌∙◌, arith, rules, vec_len}
use Rattle.std.proofs.lemmas.List.{length-append}
use Rattle.rv_qasm.specs.inside.Flat.{cut_at}
use Rattle.rv_qasm.proofs.inside.Flat.{Ascend-more, Ascend-new, cut_at-new}
use Rattle.rv_qasm.proofs.tokens.Tokens.begin.Goals as goal

pub invariant_of-self-in_err-push-2 : goal.invariant_of-self-in_err-push-2
invariant_of-self-in_err-push-2 c =
    let is : vec_len c.self.inside.bytes ≡ length c.self.inside.bytes.items = search rules in
    let start : c.len-start.result ≡ length c.self.inside.bytes.items = c.len-start.ensures ∙ is in
    rw (c.in_err-push-2.ensures.items, c.in_ok-push.ensures.items, start) (Ascend-new (length c.self.inside.bytes.items) c.self.inside.starts.items c.self.invariant)

pub invariant_of-self-2 : goal.invariant_of-self-2
invariant_of-self-2 c =
    let is : vec_len c.self.inside.bytes ≡ length c.self.inside.bytes.items = search rules in
    let start : c.len-start.result ≡ length c.self.inside.bytes.items = c.len-start.ensures ∙ is in
    let limit = length c.self.inside.bytes.items in
    rw (c.in_ok-push-2.ensures.items, c.in_ok-push.ensures.items, start)
    (Ascend-more limit (length (c.self.inside.bytes.items ++ c.args.byte ∷ [])) (c.self.inside.starts.items ++ limit ∷ []) (omega (arith, length-append c.self.inside.bytes.items (c.args.byte ∷ [])))
    (Ascend-new limit c.self.inside.starts.items c.self.invariant))

pub returns : goal.returns
returns c =
    let is : vec_len c.self.inside.bytes ≡ length c.self.inside.bytes.items = search rules in
    let start : c.len-start.result ≡ length c.self.inside.bytes.items = c.len-start.ensures ∙ is in
    let same : cut_at c.push.new.self.items c.push-2.new.self.items ≡ cut_at c.self.inside.starts.items c.self.inside.bytes.items ++ (c.args.byte ∷ []) ∷ [] =
    rw (c.in_ok-push-2.ensures.items, c.in_ok-push.ensures.items, start) (cut_at-new c.self.inside.starts.items c.self.inside.bytes.items c.args.byte c.self.invariant) in
    same ∙ ap (λ lists. lists ++ (c.args.byte ∷ []) ∷ []) c.self.view_is
