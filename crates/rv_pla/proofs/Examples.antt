-- Worked examples.
use Rattle.std.proofs.Common.{◌≡◌, ℕ, true, false, List, [], ◌∷◌, ◌++◌, Result, Ok, Err, refl}
use Rattle.std.specs.Prelude.{codes}
use Rattle.rv_gate.specs.Word.{ones_of, word_of}
use Rattle.rv_pla.specs.Cube.{matches}
use Rattle.rv_pla.specs.declared.entry.Entry.TheVariants.{Zero, Free}
use Rattle.rv_pla.specs.declared.kind.Kind.{Kind}
use Rattle.rv_pla.specs.declared.kind.Kind.TheVariants.{F, Fd, Fr, Esop}
use Rattle.rv_pla.specs.declared.fault.PlaFault.{PlaFault}
use Rattle.rv_pla.specs.declared.fault.PlaFault.TheVariants.{Conflict, Text}
use Rattle.rv_pla.specs.Pla.{TwoLevel, entry, first_line, conflict_of}
use Rattle.rv_reader.specs.FirstFault.{first_below}
use Rattle.rv_pla.specs.Row.{term_of}
use Rattle.rv_pla.specs.Line.{kind_named, is_dropped, is_end, is_unsupported}
use Rattle.rv_pla.specs.Given.{directive_fault}
use Rattle.rv_pla.specs.Reading.{pla_of}

abbrev at : ℕ → ℕ → Result TwoLevel PlaFault
at line code = Err (Text (record { line = line; code = code }))

-- one input and one output, and further lines
abbrev sized : List ℕ → List ℕ
sized lines = codes ".i 1\n.o 1\n" ++ lines

-- ---- texts

nothing_in_it : pla_of [] ≡ at 0 1
unfolding pla_of is_end
nothing_in_it = refl

no_terms : pla_of (sized (codes ".e\n")) ≡ Ok (record { inputs = 1; outputs = 1; kind = Fd; terms = [] })
unfolding pla_of directive_fault is_dropped is_end conflict_of first_below first_line
no_terms = refl

two_sets : pla_of (codes ".i 2\n.o 1\n1- 1\n-1 1\n.e\n")
    ≡ Ok (record { inputs = 2; outputs = 1; kind = Fd; terms = term_of 2 3 (codes "1-1") ∷ term_of 2 4 (codes "-11") ∷ [] })
unfolding pla_of directive_fault is_dropped is_end conflict_of first_below first_line ones_of matches word_of
two_sets = refl

-- inputs 0 of care and want, and output 0
the_sets : term_of 2 3 (codes "1-1") ≡ record { line = 3; cube = record { care = 1; want = 1; outs = 1 }; zero_outs = 0; dash_outs = 0 }
unfolding ones_of
the_sets = refl

all_characters : term_of 4 1 (codes "01-201-~234")
    ≡ record { line = 1; cube = record { care = 3; want = 2; outs = 66 }; zero_outs = 1; dash_outs = 20 }
unfolding ones_of
all_characters = refl

conflict_of_two_lines : pla_of (codes ".i 1\n.o 1\n.type fr\n1 1\n- 0\n") ≡ Err (Conflict 4 5 1 1 0)
unfolding pla_of directive_fault kind_named is_dropped is_end conflict_of first_below first_line ones_of matches word_of
conflict_of_two_lines = refl

after_the_end : pla_of (sized (codes ".e\n.x\n")) ≡ Ok (record { inputs = 1; outputs = 1; kind = Fd; terms = [] })
unfolding pla_of directive_fault is_dropped is_end conflict_of first_below first_line
after_the_end = refl

no_outputs : pla_of (codes ".i 1\n.e\n\n") ≡ at 3 1
unfolding pla_of directive_fault is_dropped is_end
no_outputs = refl

term_without_sizes : pla_of (codes "1 1\n") ≡ at 1 1
unfolding pla_of is_end
term_without_sizes = refl

ten_digits : pla_of (codes ".i 0000000001\n") ≡ at 1 2
unfolding pla_of directive_fault is_end
ten_digits = refl

two_operands : pla_of (codes ".i 1 1\n") ≡ at 1 2
unfolding pla_of directive_fault is_end
two_operands = refl

too_many : pla_of (codes ".i 1\n.o 17\n") ≡ at 2 3
unfolding pla_of directive_fault is_end
too_many = refl

twice : pla_of (codes ".i 1\n.i 1\n") ≡ at 2 4
unfolding pla_of directive_fault is_end
twice = refl

type_after_a_term : pla_of (sized (codes "1 1\n.type f\n")) ≡ at 4 4
unfolding pla_of directive_fault is_end
type_after_a_term = refl

unknown_directive : pla_of (codes ".x\n") ≡ at 1 5
unfolding pla_of directive_fault is_dropped is_end is_unsupported
unknown_directive = refl

many_values : pla_of (codes ".mv 4\n") ≡ at 1 6
unfolding pla_of directive_fault is_dropped is_end is_unsupported
many_values = refl

type_r : pla_of (codes ".type r\n") ≡ at 1 6
unfolding pla_of directive_fault kind_named is_end
type_r = refl

no_type : pla_of (codes ".type\n") ≡ at 1 6
unfolding pla_of directive_fault is_end
no_type = refl

term_too_long : pla_of (sized (codes "1 | 1|1\n")) ≡ at 3 7
unfolding pla_of directive_fault is_end
term_too_long = refl

three_in_an_input_part : pla_of (sized (codes "3 1\n")) ≡ at 3 8
unfolding pla_of directive_fault is_end
three_in_an_input_part = refl

-- ---- entries

-- a PLA of one input and one output that says this at the word 1
abbrev one_term : Kind → List ℕ → TwoLevel
one_term kind out = record { inputs = 1; outputs = 1; kind = kind; terms = term_of 1 1 (49 ∷ out) ∷ [] }

zero_in_f : entry (one_term F (codes "0")) (true ∷ []) 0 ≡ Zero
unfolding entry first_line ones_of matches
zero_in_f = refl

zero_in_fr : entry (one_term Fr (codes "0")) (true ∷ []) 0 ≡ Zero
unfolding entry first_line ones_of matches
zero_in_fr = refl

nothing_in_fr : entry (one_term Fr (codes "0")) (false ∷ []) 0 ≡ Free
unfolding entry first_line ones_of matches
nothing_in_fr = refl

dash_in_fd : entry (one_term Fd (codes "-")) (true ∷ []) 0 ≡ Free
unfolding entry first_line ones_of matches
dash_in_fd = refl

dash_in_f : entry (one_term F (codes "-")) (true ∷ []) 0 ≡ Zero
unfolding entry first_line ones_of matches
dash_in_f = refl

tilde_in_fd : entry (one_term Fd (codes "~")) (true ∷ []) 0 ≡ Zero
unfolding entry first_line ones_of matches
tilde_in_fd = refl

even_in_esop : entry (record { inputs = 1; outputs = 1; kind = Esop; terms = term_of 1 1 (codes "11") ∷ term_of 1 2 (codes "-1") ∷ [] }) (true ∷ []) 0 ≡ Zero
unfolding entry first_line ones_of matches
even_in_esop = refl
