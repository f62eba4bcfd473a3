-- Templates: lists of flips that change nothing, and which circuits are one.
use Rattle.std.specs.Prelude.{◌≤◌, ℕ, ◌+◌, ◌^◌, if◌then◌else◌, ◌==◌, nat_lt, List, [], ◌∷◌, length, Option, Some, None, option_map}
use Rattle.std.specs.Option.{option_or}
use Rattle.rv_templ.specs.declared.image.TheConstants.{TEMPLATE_GATES, TEMPLATE_LINES}
use Rattle.rv_gate.specs.declared.gate.Shape.{Shape}
use Rattle.rv_gate.specs.Gate.{is_flip, run_on_number}
use Rattle.rv_gate.specs.Circuit.{Cascade}
use Rattle.rv_templ.specs.declared.fault.LibFault.{LibFault}
use Rattle.rv_templ.specs.declared.fault.LibFault.TheVariants.{TooWide, TooLong, NotToffoli, NotIdentity}
use Rattle.rv_gate.specs.FirstAnswer.{first}
use Rattle.rv_templ.specs.Gates.{gate_in, AreGates, Flips, Identity}

-- a list of a few flips on a few lines that is an identity
pub record IsTemplate (gates : List Shape) : Type 0 where
  pub few : length gates ≤ TEMPLATE_GATES
  pub flips : Flips gates
  pub good : AreGates TEMPLATE_LINES gates
  pub identity : Identity TEMPLATE_LINES gates

-- each is a template
abbrev pub AreTemplates : List (List Shape) → Type 0
AreTemplates [] = Unit {0}
AreTemplates (t ∷ rest) = IsTemplate t × AreTemplates rest

-- the number, from 1, of the gate at a place, if it is no flip
abbrev pub other_at : List Shape → ℕ → Option ℕ
other_at gates place = if is_flip (gate_in gates place) then None else Some (place + 1)

abbrev pub first_other : List Shape → Option ℕ
first_other gates = first (other_at gates) 0 (length gates)

-- the number of a word of n bits, if the gates change the word
abbrev pub changed_at : ℕ → List Shape → ℕ → Option ℕ
changed_at n gates x = if run_on_number gates n x == x then None else Some x

abbrev pub first_changed : ℕ → List Shape → Option ℕ
first_changed n gates = first (changed_at n gates) 0 (2 ^ n)

-- the first fault that a circuit has as a template
unfoldable pub template_fault : Cascade → Option LibFault
template_fault c =
    if nat_lt TEMPLATE_LINES (length c.names) then Some (TooWide (length c.names))
    else if nat_lt TEMPLATE_GATES (length c.gates) then Some (TooLong (length c.gates))
    else option_or (option_map NotToffoli (first_other c.gates))
    (option_map (λ x. NotIdentity x (run_on_number c.gates (length c.names) x))
    (first_changed (length c.names) c.gates))
