-- Circuits and permutations as they are compared, by their marks or on all lines.
use Rattle.std.proofs.Common.{arith}
use Rattle.std.proofs.Common.{◌≡◌, ◌⊎◌, ℕ, Bool, true, false, List, length, replicate, refl, ◌∙◌, ap, inl, inr}
use Rattle.std.proofs.lemmas.List.{length-replicate}
use Rattle.rv_gate.specs.Circuit.{Cascade, IsCascade}
use Rattle.rv_gate.specs.declared.circuit.Mark.{Mark}
use Rattle.rv_gate.specs.declared.circuit.Mark.TheVariants.{Input}
use Rattle.rv_perm.specs.Marked.{IsMarked, Marked, unmarked}
use Rattle.rv_compare.specs.Compare.{IsOnAllLines, IsUnmarked, asked, asked_perm, constants_asked, garbage_asked}

length-constants : (all : Bool) (constants : List Mark) → length (constants_asked all constants) ≡ length constants
length-constants true constants = length-replicate (length constants) Input
length-constants false constants = refl

length-garbage : (all : Bool) (garbage : List Bool) → length (garbage_asked all garbage) ≡ length garbage
length-garbage true garbage = length-replicate (length garbage) false
length-garbage false garbage = refl

pub valid-asked : (all : Bool) (c : Cascade) → IsCascade c → IsCascade (asked all c)
valid-asked all c valid = record {
  some = valid.some;
  names = valid.names;
  input_labels = valid.input_labels;
  output_labels = valid.output_labels;
  constants = length-constants all c.constants ∙ valid.constants;
  garbage = length-garbage all c.garbage ∙ valid.garbage;
  bounded = valid.bounded;
  valid = valid.valid;
  fitting = valid.fitting;
}

-- ---- on all lines there are no marks

constants-free : (all : Bool) (constants : List Mark) (n : ℕ) → length constants ≡ n → (all ≡ true) ⊎ (constants ≡ replicate n Input) → constants_asked all constants ≡ replicate n Input
constants-free true constants n len free = ap (λ m. replicate m Input) len
constants-free false constants n len free = elim free [ inl is ↦ absurd (let z = is in cc) | inr is ↦ is ]

garbage-free : (all : Bool) (garbage : List Bool) (n : ℕ) → length garbage ≡ n → (all ≡ true) ⊎ (garbage ≡ replicate n false) → garbage_asked all garbage ≡ replicate n false
garbage-free true garbage n len free = ap (λ m. replicate m false) len
garbage-free false garbage n len free = elim free [ inl is ↦ absurd (let z = is in cc) | inr is ↦ is ]

pub unmarked-asked : (all : Bool) (c : Cascade) (m : Marked) → IsCascade c → IsOnAllLines all c m → IsUnmarked (asked all c)
unmarked-asked all c m valid free = record {
  constants = constants-free all c.constants (length c.names) valid.constants (elim free [ inl is ↦ inl is | inr none ↦ inr none.0.constants ]);
  garbage = garbage-free all c.garbage (length c.names) valid.garbage (elim free [ inl is ↦ inl is | inr none ↦ inr none.0.garbage ]);
}

pub perm-unmarked : (all : Bool) (c : Cascade) (m : Marked) → IsMarked m → IsOnAllLines all c m → asked_perm all m ≡ unmarked m.table
perm-unmarked all c m valid free = grind arith
