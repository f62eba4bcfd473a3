-- A shape that is held as its lines gives back what is held.
use Rattle.std.proofs.Common.{◌≡◌, refl}
use Rattle.rv_gate.specs.declared.gate.Held.{Held}
use Rattle.rv_gate.specs.declared.gate.Held.TheVariants as held
use Rattle.rv_gate.specs.inside.GateView.{held_of, shape_of}

pub held_again : (h : Held) → held_of (shape_of h) ≡ h
held_again (held.Flip target care want) = refl
held_again (held.Swap a b care want) = refl
held_again (held.Peres a b c) = refl
