-- The decomposed circuit is a decomposition: helper lines that begin with the constant 0 and end as garbage change no output.
use Rattle.std.proofs.Common.{◌≡◌, ℕ, ◌+◌, Bool, true, false, List, [], ◌∷◌, ◌++◌, ◌≤◌, length, replicate, ap, sym, arith}
use Rattle.std.proofs.lemmas.List.{length-append, length-replicate}
use Rattle.std.specs.Prelude.{All}
use Rattle.rv_gate.specs.Circuit.{Cascade, IsCascade}
use Rattle.rv_gate.specs.Marks.{with_constants, without_garbage}
use Rattle.rv_gate.specs.declared.circuit.Mark.{Mark}
use Rattle.rv_gate.specs.declared.circuit.Mark.TheVariants.{Input, Zero, One}
use Rattle.rv_gate.proofs.inside.GateLemmas.{length-run}
use Rattle.rv_gate.proofs.Marks.{length-with_constants, with_constants-zeros, without_garbage-all}
use Rattle.rv_gate.specs.declared.word.TheConstants.{MOST_LINES}
use Rattle.rv_mct.specs.Decomposition.{Decomposes, output_of}
use Rattle.rv_mct.specs.Blocks.{cost_of}
use Rattle.rv_mct.specs.Extends.{Extends, IsPlain, MayHold}
use Rattle.rv_mct.specs.Widened.{added_names, decomposed, helper_count, lines_with_helpers}
use Rattle.rv_mct.specs.declared.aux.Aux.{Aux}
use Rattle.rv_mct.specs.declared.aux.Aux.TheVariants.{Borrowed, Clean}
use Rattle.rv_mct.proofs.inside.Counts.{length_decomposition, plain_decomposition}
use Rattle.rv_mct.proofs.inside.Gates.{extends}
use Rattle.rv_mct.proofs.Names.{length-added_names}

-- zeros after the constants are zeros after the word
with_more : (marks : List Mark) (k : ℕ) (bits : List Bool) → with_constants (marks ++ replicate k Zero) bits ≡ with_constants marks bits ++ replicate k false
unfolding with_constants
with_more [] k bits = with_constants-zeros k bits
with_more (Zero ∷ marks) k bits = ap (λ word. false ∷ word) (with_more marks k bits)
with_more (One ∷ marks) k bits = ap (λ word. true ∷ word) (with_more marks k bits)
with_more (Input ∷ marks) k [] = ap (λ word. false ∷ word) (with_more marks k [])
with_more (Input ∷ marks) k (bit ∷ bits) = ap (λ word. bit ∷ word) (with_more marks k bits)

-- more garbage leaves out more lines
without_more : (garbage : List Bool) (k : ℕ) (word held : List Bool) → length word ≡ length garbage
    → without_garbage (garbage ++ replicate k true) (word ++ held) ≡ without_garbage garbage word
unfolding without_garbage
without_more [] k [] held same = without_garbage-all k held
without_more [] k (bit ∷ word) held same = absurd (omega (arith, same))
without_more (is_garbage ∷ garbage) k [] held same = absurd (omega (arith, same))
without_more (true ∷ garbage) k (bit ∷ word) held same = without_more garbage k word held (omega (arith, same))
without_more (false ∷ garbage) k (bit ∷ word) held same = ap (λ rest. bit ∷ rest) (without_more garbage k word held (omega (arith, same)))

may_hold : (aux : Aux) (k : ℕ) → MayHold aux (replicate k false)
may_hold Borrowed k = tt
may_hold Clean k = let bit : Bool = false in ap (λ n. replicate n bit) (sym (length-replicate k bit))

same_output : (aux : Aux) (c : Cascade) → IsCascade c → Extends aux (length c.names) (helper_count aux c) (decomposed aux c).gates c.gates
    → (bits : List Bool) → output_of (decomposed aux c) bits ≡ output_of c bits
same_output aux c valid extends bits = grind (arith, helper_count, with_constants, length-with_constants, length-run, without_garbage, with_more, length-replicate, may_hold, without_more)

pub decomposed-lines : (aux : Aux) (c : Cascade) → lines_with_helpers aux c ≤ MOST_LINES → length (decomposed aux c).names ≡ lines_with_helpers aux c
decomposed-lines aux c few = grind (arith, added_names, helper_count, length-append, length-added_names)

-- the law
pub decomposes : (aux : Aux) (c : Cascade) → IsCascade c → lines_with_helpers aux c ≤ MOST_LINES → Decomposes aux c (decomposed aux c)
decomposes aux c given few = grind (arith, extends, plain_decomposition, length_decomposition, same_output, length-added_names)

-- the same of what equals it
pub record DecomposesAs (aux : Aux) (c made : Cascade) (extra : ℕ) : Type 0 where
  pub extends : Extends aux (length c.names) extra made.gates c.gates
  pub plain : All IsPlain made.gates
  pub counted : length made.gates ≡ cost_of aux (length c.names + extra) c.gates

pub decomposes_as : (aux : Aux) (c made : Cascade) (extra : ℕ) → IsCascade c → lines_with_helpers aux c ≤ MOST_LINES → extra ≡ helper_count aux c → made ≡ decomposed aux c
    → DecomposesAs aux c made extra
decomposes_as aux c made extra given few extra_is made_is =
    let law = decomposes aux c given few in
    rw (extra_is, made_is) (record { extends = law.extends; plain = law.plain; counted = law.counted })
