-- The gates so far, as tasks.
use Rattle.std.proofs.Common.{◌≡◌, ℕ, ◌+◌, ◌<◌, List, [], ◌∷◌, length, map, reverse, take, get_or, sym, ap, ◌∙◌}
use Rattle.std.proofs.lemmas.List.{map-append, reverse-append, take_more}
use Rattle.rv_gate.specs.declared.gate.Shape.{Shape}
use Rattle.rv_cost.specs.CircuitCost.{gate_task}

pub tasks_next : (gates : List Shape) (k : ℕ) (gate : Shape) → k < length gates → gate ≡ get_or gates k gate
    → reverse (map gate_task (take (k + 1) gates)) ≡ gate_task gate ∷ reverse (map gate_task (take k gates))
tasks_next gates k gate lt at =
    ap (λ (all : List Shape). reverse (map gate_task all)) (take_more gates k gate lt)
    ∙ ap reverse (map-append gate_task (take k gates) (get_or gates k gate ∷ []))
    ∙ reverse-append (map gate_task (take k gates)) (gate_task (get_or gates k gate) ∷ [])
    ∙ ap (λ (g : Shape). gate_task g ∷ reverse (map gate_task (take k gates))) (sym at)
