-- What fits of all operations of a network fits of those of each gate.
use Rattle.std.proofs.Common.{ℕ, zero, suc, ◌<◌, List, [], ◌∷◌, ◌++◌, length, get_or, arith, All}
use Rattle.std.proofs.lemmas.List.Elements.{All-cons, All-head, All-nil, All-tail}
use Rattle.rv_gate.specs.declared.gate.Shape.{Shape}
use Rattle.rv_net.specs.Network.{gate_ops, network_of}
use Rattle.rv_net.specs.Op.{OpFitsIn}
use Rattle.rv_net.specs.declared.op.Op.{Op}

abbrev pub AllFit : ℕ → List Op → Type 0
AllFit n ops = All (λ op. OpFitsIn op n) ops

pub head_fits : (n : ℕ) (op : Op) (ops : List Op) → AllFit n (op ∷ ops) → OpFitsIn op n
head_fits n op ops fit = All-head (λ op. OpFitsIn op n) op ops fit

pub tail_fits : (n : ℕ) (op : Op) (ops : List Op) → AllFit n (op ∷ ops) → AllFit n ops
tail_fits n op ops fit = All-tail (λ op. OpFitsIn op n) op ops fit

pub left_fits : (n : ℕ) (a b : List Op) → AllFit n (a ++ b) → AllFit n a
left_fits n [] b fit = All-nil (λ op. OpFitsIn op n)
left_fits n (op ∷ a) b fit = All-cons (λ op. OpFitsIn op n) op a (head_fits n op (a ++ b) fit) (left_fits n a b (tail_fits n op (a ++ b) fit))

pub right_fits : (n : ℕ) (a b : List Op) → AllFit n (a ++ b) → AllFit n b
right_fits n [] b fit = fit
right_fits n (op ∷ a) b fit = right_fits n a b (tail_fits n op (a ++ b) fit)

pub gate_fits : (n : ℕ) (gates : List Shape) (i : ℕ) (d : Shape) → i < length gates → AllFit n (network_of gates) → AllFit n (gate_ops (get_or gates i d))
unfolding network_of
gate_fits n [] i d lt fit = absurd (omega (arith, lt))
gate_fits n (g ∷ gates) zero d lt fit = left_fits n (gate_ops g) (network_of gates) fit
gate_fits n (g ∷ gates) (suc i) d lt fit = gate_fits n gates i d (omega (arith, lt)) (right_fits n (gate_ops g) (network_of gates) fit)
