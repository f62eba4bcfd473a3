-- Worked examples.
use Rattle.std.proofs.Common.{◌≡◌, true, false, [], ◌∷◌, Some, None, refl}
use Rattle.std.specs.Prelude.{codes}
use Rattle.std.specs.Str.{encode_utf8_all}
use Rattle.rv_gate.specs.Word.{ones_of}
use Rattle.rv_gate.specs.declared.circuit.Mark.TheVariants.{Input, Zero, One}
use Rattle.rv_gate.specs.declared.gate.Shape.TheVariants.{Flip, Swap, Peres}
use Rattle.rv_draw.specs.Reading.{shown, shown_by}

-- four flips
three_lines : shown (encode_utf8_all (codes "x0 ──●──●──●───── x0\nx1 ──●──⊕──●───── x1\nx2 ──⊕──●──⊕──⊕── x2\n"))
    ≡ Some (record {
      input_labels = codes "x0" ∷ (codes "x1" ∷ (codes "x2" ∷ []));
      output_labels = codes "x0" ∷ (codes "x1" ∷ (codes "x2" ∷ []));
      constants = Input ∷ (Input ∷ (Input ∷ []));
      garbage = false ∷ (false ∷ (false ∷ []));
      gates = Flip 3 3 2 ∷ (Flip 5 5 1 ∷ (Flip 3 3 2 ∷ (Flip 0 0 2 ∷ [])));
    })
unfolding shown_by lib.Utf8.encode ones_of
three_lines = refl

-- a control that wants 0, a swap and a Peres gate; a label with a blank, constants, and garbage
each_kind : shown (encode_utf8_all (codes "x0 ─────●─────●──◉─┤ g\nb ──────○──⊕──✕──┼── b\n\"a b\" 0─┼──┼──✕──●── c\nd 1─────⊕──●─────⊕── d\n"))
    ≡ Some (record {
      input_labels = codes "x0" ∷ (codes "b" ∷ (codes "a b" ∷ (codes "d" ∷ [])));
      output_labels = codes "g" ∷ (codes "b" ∷ (codes "c" ∷ (codes "d" ∷ [])));
      constants = Input ∷ (Input ∷ (Zero ∷ (One ∷ [])));
      garbage = true ∷ (false ∷ (false ∷ (false ∷ [])));
      gates = Flip 3 1 3 ∷ (Flip 8 8 1 ∷ (Swap 1 1 1 2 ∷ (Peres 2 0 3 ∷ [])));
    })
unfolding shown_by lib.Utf8.encode ones_of
each_kind = refl

-- two targets of flips in one column are no drawing
two_targets : shown (encode_utf8_all (codes "a ──⊕── a\nb ──⊕── b\n")) ≡ None
unfolding shown_by lib.Utf8.encode ones_of
two_targets = refl

-- the first example in two blocks
two_blocks : shown (encode_utf8_all (codes "x0 ──●──●── x0\nx1 ──●──⊕── x1\nx2 ──⊕──●── x2\n\nx0 ──●───── x0\nx1 ──●───── x1\nx2 ──⊕──⊕── x2\n"))
    ≡ Some (record {
      input_labels = codes "x0" ∷ (codes "x1" ∷ (codes "x2" ∷ []));
      output_labels = codes "x0" ∷ (codes "x1" ∷ (codes "x2" ∷ []));
      constants = Input ∷ (Input ∷ (Input ∷ []));
      garbage = false ∷ (false ∷ (false ∷ []));
      gates = Flip 3 3 2 ∷ (Flip 5 5 1 ∷ (Flip 3 3 2 ∷ (Flip 0 0 2 ∷ [])));
    })
unfolding shown_by lib.Utf8.encode ones_of
two_blocks = refl

-- blocks of other lines are no drawing
other_lines : shown (encode_utf8_all (codes "a ──⊕── a\nb ──●── b\n\na ──⊕── a\nc ──●── b\n")) ≡ None
unfolding shown_by lib.Utf8.encode ones_of
other_lines = refl

-- a vertical that passes a line has to cross it
line_not_crossed : shown (encode_utf8_all (codes "a ──●── a\nb ───── b\nc ──⊕── c\n")) ≡ None
unfolding shown_by lib.Utf8.encode ones_of
line_not_crossed = refl

-- a Peres gate has no control that wants 0
peres_under_zero : shown (encode_utf8_all (codes "a ──○── a\nb ──◉── b\nc ──⊕── c\n")) ≡ None
unfolding shown_by lib.Utf8.encode ones_of
peres_under_zero = refl
