-- Worked examples: a permutation of eight words, from its text to the text of its circuit; and what a written text means, unfolded.
use Rattle.std.proofs.Common.{◌≡◌, ℕ, List, [], ◌∷◌, Ok, codes, refl}
use Rattle.std.specs.Fmt.{digits}
use Rattle.rv_gate.specs.Circuit.{fresh}
use Rattle.rv_gate.specs.Names.{numbered}
use Rattle.rv_gate.specs.declared.gate.Shape.{Shape}
use Rattle.rv_gate.specs.declared.gate.Shape.TheVariants.{Flip}
use Rattle.rv_perm.specs.Marked.{unmarked}
use Rattle.rv_reader.specs.FirstFault.{first_below}
use Rattle.rv_perm.specs.Perm.{preimage_of, place_fault, lines_up_to, images_checked}
use Rattle.rv_perm.specs.Reading.{permutation_of}
use Rattle.rv_real.specs.Text.{text_of}
use Rattle.rv_tbs.specs.declared.method.Method.{Method}
use Rattle.rv_inputs.specs.Formats.{DenotesWith, permutation}
use Rattle.rv_cmd.specs.Commands.Synth.{IsSynthesis, synth_row}
use Rattle.rv_cmd.specs.Row.{MeansBy}

abbrev input : List ℕ
input = codes "1 0 3 2 5 7 4 6\n"

abbrev images : List ℕ
images = 1 ∷ 0 ∷ 3 ∷ 2 ∷ 5 ∷ 7 ∷ 4 ∷ 6 ∷ []

-- line i has the value 2 ^ i in a set of lines
abbrev gates : List Shape
gates = Flip 3 3 2 ∷ Flip 5 5 1 ∷ Flip 3 3 2 ∷ Flip 0 0 2 ∷ []

abbrev output : List ℕ
output = codes ".version 2.0\n.numvars 3\n.variables x0 x1 x2\n.inputs x0 x1 x2\n.outputs x0 x1 x2\n.constants ---\n.garbage ---\n.begin\nt3 x0 x1 x2\nt3 x0 x2 x1\nt3 x0 x1 x2\nt1 x2\n.end\n"

the_text_denotes : permutation_of input ≡ Ok (unmarked (record { lines = 3; images = images }))
unfolding permutation_of lines_up_to images_checked first_below place_fault preimage_of
the_text_denotes = refl

the_circuit_is_spelled : text_of (record (fresh (numbered 120 3)) { gates = gates }) ≡ output
unfolding text_of digits
the_circuit_is_spelled = refl

-- by `synth` the input denotes a permutation, and the text is a circuit for it
the_meaning_unfolds : (method : Method) (given text : List ℕ) → MeansBy (synth_row method) (given ∷ []) text
    → DenotesWith permutation given (λ spec. IsSynthesis method spec text)
the_meaning_unfolds method given text means = means
