-- A circuit without constants and garbage: its words are answered as if all bits were asked for.
use Rattle.std.proofs.Common.{arith}
use Rattle.std.proofs.Common.{◌≡◌, ℕ, Bool, true, false, ◌||◌, ◌&&◌, not, List, [], ◌∷◌, ◌++◌, length, map, replicate, cond, nat_eq, Option, Some, None, refl, ap}
use Rattle.std.specs.List.{list_all}
use Rattle.rv_gate.specs.Circuit.{Cascade, IsCascade}
use Rattle.rv_gate.specs.Gate.{run}
use Rattle.rv_gate.specs.Marks.{input_count, takes_input, with_constants, without_garbage}
use Rattle.rv_gate.specs.declared.circuit.Mark.{Mark}
use Rattle.rv_gate.specs.declared.circuit.Mark.TheVariants.{Input, Zero, One}
use Rattle.rv_text.specs.Bytes.{bit_byte, line_feed}
use Rattle.rv_simulate.specs.Simulation.{answer_to, answer_to_bits, line_bits}
use Rattle.std.proofs.lemmas.Bool.{and_parts}

all_inputs : (marks : List Mark) → list_all takes_input marks ≡ true → replicate (length marks) Input ≡ marks
all_inputs [] h = refl
all_inputs (Input ∷ marks) h = ap (λ rest. Input ∷ rest) (all_inputs marks h)
all_inputs (Zero ∷ marks) h = absurd cc
all_inputs (One ∷ marks) h = absurd cc

no_garbage : (garbage : List Bool) → list_all not garbage ≡ true → replicate (length garbage) false ≡ garbage
no_garbage [] h = refl
no_garbage (false ∷ garbage) h = ap (λ rest. false ∷ rest) (no_garbage garbage h)
no_garbage (true ∷ garbage) h = absurd cc

-- the answer to bits, by what is put in on each line and which are left out
abbrev answer_by : Cascade → List Mark → List Bool → List Bool → Option (List ℕ)
answer_by c marks garbage bits =
    cond (nat_eq (length bits) (input_count marks)) (Some (map bit_byte (without_garbage garbage (run c.gates (with_constants marks bits))) ++ line_feed ∷ [])) None

same_bits : (c : Cascade) → replicate (length c.names) Input ≡ c.constants → replicate (length c.names) false ≡ c.garbage → (bits : Option (List Bool)) → answer_to_bits c true bits ≡ answer_to_bits c false bits
same_bits c h h1 bits = grind arith

pub asked_same : (c : Cascade) (all unmarked : Bool) → IsCascade c → unmarked ≡ (list_all takes_input c.constants && list_all not c.garbage)
    → (line : List ℕ) → answer_to c (all || unmarked) line ≡ answer_to c all line
asked_same c all unmarked h h1 line =
    grind (arith, and_parts, list_all, takes_input, same_bits, all_inputs, no_garbage, line_bits)
