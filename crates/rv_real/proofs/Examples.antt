-- Worked examples.
use Rattle.std.proofs.Common.{◌≡◌, true, false, [], ◌∷◌, Ok, Err, refl, ◌++◌}
use Rattle.std.specs.Prelude.{ℕ, List, codes, Result}
use Rattle.rv_real.specs.declared.fault.RealFault.{RealFault}
use Rattle.rv_real.specs.declared.fault.RealFault.TheVariants.{Text}
use Rattle.rv_gate.specs.declared.circuit.Mark.TheVariants.{Input, Zero, One}
use Rattle.rv_gate.specs.declared.gate.Shape.TheVariants.{Flip, Swap, Peres}
use Rattle.rv_gate.specs.Circuit.{Cascade}
use Rattle.rv_real.specs.Header.{named_fault}
use Rattle.rv_real.specs.Body.{named_gate}
use Rattle.rv_real.specs.Reading.{real_of}

abbrev at : ℕ → ℕ → Result Cascade RealFault
at line code = Err (Text (record { line = line; code = code }))

-- three lines of a header, and a fourth line
abbrev two_lines : List ℕ → List ℕ
two_lines line = codes ".numvars 2\n.variables a b\n.begin\n" ++ line

empty_text : real_of [] ≡ at 0 11
unfolding real_of named_fault named_gate
empty_text = refl

no_end : real_of (codes ".numvars 2\n\n") ≡ at 2 11
unfolding real_of named_fault named_gate
no_end = refl

unknown_label : real_of (two_lines (codes "t2 a c")) ≡ at 4 4
unfolding real_of named_fault named_gate
unknown_label = refl

repeated_operand : real_of (two_lines (codes "t2 a a")) ≡ at 4 7
unfolding real_of named_fault named_gate
repeated_operand = refl

wrong_operand_count : real_of (two_lines (codes "t3 a b")) ≡ at 4 6
unfolding real_of named_fault named_gate
wrong_operand_count = refl

not_supported : real_of (two_lines (codes "v a b")) ≡ at 4 8
unfolding real_of named_fault named_gate
not_supported = refl

unknown_gate : real_of (two_lines (codes "q2 a b")) ≡ at 4 5
unfolding real_of named_fault named_gate
unknown_gate = refl

sign_on_target : real_of (two_lines (codes "t2 a -b")) ≡ at 4 17
unfolding real_of named_fault named_gate
sign_on_target = refl

wrong_number : real_of (codes ".numvars 0") ≡ at 1 2
unfolding real_of named_fault named_gate
wrong_number = refl

too_many_lines : real_of (codes ".numvars 65") ≡ at 1 12
unfolding real_of named_fault named_gate
too_many_lines = refl

whole : real_of (codes ".version 2.0\n.numvars 3 # three\n.variables a b c\n.inputs a \"b c\" \"\"\n.constants -0 1\n.garbage --1\n.begin\nt1 a\n\nt3 -a c b\nf2 a c\nf3 -b a c\r\np c b a\n.end")
    ≡ Ok (record {
      names = codes "a" ∷ (codes "b" ∷ (codes "c" ∷ []));
      input_labels = codes "a" ∷ (codes "b c" ∷ ([] ∷ []));
      output_labels = codes "a" ∷ (codes "b" ∷ (codes "c" ∷ []));
      constants = Input ∷ (Zero ∷ (One ∷ []));
      garbage = false ∷ (false ∷ (true ∷ []));
      gates = Flip 0 0 0 ∷ (Flip 5 4 1 ∷ (Swap 0 0 0 2 ∷ (Swap 2 0 0 2 ∷ (Peres 2 1 0 ∷ []))));
    })
unfolding real_of named_fault named_gate
whole = refl
