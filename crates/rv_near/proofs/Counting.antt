-- Gates one after another.
use Rattle.std.proofs.Common.{◌≡◌, ◌∙◌, ℕ, ◌+◌, ◌<◌, List, [], ◌∷◌, ◌++◌, append-nil, ap, get_or, length, take}
use Rattle.std.proofs.lemmas.Grind.{flat_map-append}
use Rattle.std.proofs.lemmas.List.{take_more}
use Rattle.rv_gate.specs.declared.gate.Shape.{Shape}
use Rattle.rv_near.specs.Near.{near_gate, near_ops}

pub near-more : (gates : List Shape) (i : ℕ) (d : Shape) → i < length gates → near_ops (take (i + 1) gates) ≡ near_ops (take i gates) ++ near_gate (get_or gates i d)
near-more gates i d h =
    ap near_ops (take_more gates i d h)
    ∙ flat_map-append near_gate (take i gates) (get_or gates i d ∷ [])
    ∙ ap (λ ops. near_ops (take i gates) ++ ops) (append-nil (near_gate (get_or gates i d)))
