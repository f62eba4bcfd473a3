use Rattle.std.proofs.Common.{ℕ, List, ◌++◌, ◌∷◌, [], ◌∙◌, ap, arith, take, map}
use Rattle.std.proofs.lemmas.List.{take_more, map-append}
use Rattle.rv_gate.proofs.NameLemmas.{bytes_of}
use Rattle.rv_gate.proofs.circuit.copy_of.Goals as goal

pub loop-label-preserved : goal.loop-label-preserved
loop-label-preserved c =
    let labels = c.args.labels.now in
    let label = c.label-item.result in
    rw (c.in_ok-push.ensures.items, map-append bytes_of c.loop-label.copy.items _, c.loop-label.invariant, take_more labels c.loop-label.label-index label (omega arith), map-append bytes_of (take c.loop-label.label-index labels) _, c.in_ok-from_slice.ensures.items)
    (ap (λ (last : List ℕ). map bytes_of (take c.loop-label.label-index labels) ++ last ∷ []) (c.deref.ensures.value ∙ ap bytes_of c.label-item.is))
