-- Worked examples, for a format whose state is the lengths of the lines and in which an empty line is fault 7.
use Rattle.std.proofs.Common.{◌≡◌, ℕ, nat_eq, List, [], ◌∷◌, ◌++◌, length, Ok, Err, refl}
use Rattle.std.specs.Prelude.{codes, if◌then◌else◌}
use Rattle.rv_reader.specs.Rules.{Rules, whole_of}
use Rattle.rv_reader.specs.inside.Progress.{ended_read}

abbrev lengths : Rules (List ℕ)
lengths =
    record { start = []; line_of = λ state number line. if nat_eq (length line) 0 then Err 7 else Ok (state ++ length line ∷ []) }

empty_text : whole_of lengths [] ≡ Ok (record { state = []; lines = 0 })
unfolding whole_of
empty_text = refl

unended_last_line : whole_of lengths (codes "ab\nc") ≡ Ok (record { state = 2 ∷ (1 ∷ []); lines = 2 })
unfolding whole_of
unended_last_line = refl

ended_last_line : whole_of lengths (codes "ab\nc\n") ≡ Ok (record { state = 2 ∷ (1 ∷ []); lines = 2 })
unfolding whole_of
ended_last_line = refl

first_fault : whole_of lengths (codes "a\n\nb\n\n") ≡ Err (record { line = 2; code = 7 })
unfolding whole_of
first_fault = refl

only_ended_lines : ended_read lengths (codes "ab\nc") ≡ Ok (2 ∷ [])
only_ended_lines = refl
