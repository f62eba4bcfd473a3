-- Each title is one line.
use Rattle.std.proofs.Common.{◌≡◌, ℕ, zero, suc, ◌+◌, Bool, true, false, cond, List, [], ◌∷◌, ◌++◌, length, refl}
use Rattle.std.specs.Prelude.{decimal}
use Rattle.rv_text.specs.Spelled.{more_words, words_line}
use Rattle.rv_gate.specs.Word.{has}
use Rattle.rv_gate.specs.declared.gate.Shape.TheVariants.{Flip, Swap, Peres}
use Rattle.rv_net.specs.declared.op.Op.TheVariants.{X, Y, Z, H, S, Sdg, T, Tdg, Cx, Cz, Ccx}
use Rattle.rv_net.specs.declared.op.Op.TheVariants as ops
use Rattle.rv_real.specs.Text.{control_on, controls_from, control_word, gate_line, name_at}
use Rattle.rv_picture.specs.Titles.{gate_title, op_title, written_names}
use Rattle.rv_picture.proofs.Cutting.{AreLines, lacks, lines_append}
use Rattle.rv_picture.proofs.SvgBack.{AreOneLine, both_lack, label_lacks, number_lacks}

words_lack : (words : List (List ℕ)) → AreLines words → lacks 10 (more_words words) ≡ true
words_lack [] are = refl
words_lack (word ∷ words) are = both_lack word (more_words words) are.0 (words_lack words are.1)

names_lines : (names : List (List ℕ)) → AreLines (written_names names)
names_lines [] = tt
names_lines (name ∷ names) = (label_lacks name, names_lines names)

name_lacks : (names : List (List ℕ)) (line : ℕ) → AreLines names → lacks 10 (name_at names line) ≡ true
name_lacks [] line are = refl
name_lacks (name ∷ names) zero are = are.0
name_lacks (name ∷ names) (suc line) are = name_lacks names line are.1

word_lacks : (name : List ℕ) (wanted : Bool) → lacks 10 name ≡ true → lacks 10 (control_word name wanted) ≡ true
word_lacks name true free = free
word_lacks name false free = free

controls_lines : (from : ℕ) (names : List (List ℕ)) (care want : ℕ) → AreLines names → AreLines (controls_from from names care want)
controls_lines from [] care want are = tt
controls_lines from (name ∷ names) care want are =
    let later : List (List ℕ) = controls_from (from + 1) names care want in
    let word : List ℕ = control_word name (has want from) in
    let here : AreLines (control_on care want from name) =
    elim (has care from) as (λ t. AreLines (cond t (word ∷ []) [])) [ true ↦ (word_lacks name (has want from) are.0, tt) | false ↦ tt ] in
    lines_append (control_on care want from name) later here (controls_lines (from + 1) names care want are.1)

operands_lack : (letter : ℕ) (operands : List (List ℕ)) → lacks 10 (letter ∷ []) ≡ true → AreLines operands
    → lacks 10 (words_line (gate_line letter operands)) ≡ true
operands_lack letter operands free are =
    both_lack (letter ∷ decimal (length operands)) (more_words operands) (both_lack (letter ∷ []) (decimal (length operands)) free (number_lacks (length operands)))
    (words_lack operands are)

pub gate_titles : AreOneLine gate_title
gate_titles names (Flip care want target) =
    let written : List (List ℕ) = written_names names in
    let controls : List (List ℕ) = controls_from 0 written care want in
    operands_lack 116 (controls ++ name_at written target ∷ []) refl
    (lines_append controls (name_at written target ∷ []) (controls_lines 0 written care want (names_lines names)) (name_lacks written target (names_lines names), tt))
gate_titles names (Swap care want a b) =
    let written : List (List ℕ) = written_names names in
    let controls : List (List ℕ) = controls_from 0 written care want in
    operands_lack 102 (controls ++ name_at written a ∷ name_at written b ∷ []) refl
    (lines_append controls (name_at written a ∷ name_at written b ∷ []) (controls_lines 0 written care want (names_lines names))
    (name_lacks written a (names_lines names), (name_lacks written b (names_lines names), tt)))
gate_titles names (Peres a b c) =
    let written : List (List ℕ) = written_names names in
    operands_lack 112 (name_at written a ∷ name_at written b ∷ name_at written c ∷ []) refl
    (name_lacks written a (names_lines names), (name_lacks written b (names_lines names), (name_lacks written c (names_lines names), tt)))

two_lack : (a b : List ℕ) → lacks 10 a ≡ true → lacks 10 b ≡ true → lacks 10 (a ++ 44 ∷ b) ≡ true
two_lack a b ha hb = both_lack a (44 ∷ b) ha hb

three_lack : (a b c : List ℕ) → lacks 10 a ≡ true → lacks 10 b ≡ true → lacks 10 c ≡ true → lacks 10 (a ++ 44 ∷ (b ++ 44 ∷ c)) ≡ true
three_lack a b c ha hb hc = both_lack a (44 ∷ (b ++ 44 ∷ c)) ha (two_lack b c hb hc)

written_lacks : (names : List (List ℕ)) (line : ℕ) → lacks 10 (name_at (written_names names) line) ≡ true
written_lacks names line = name_lacks (written_names names) line (names_lines names)

on_two : (names : List (List ℕ)) (a b : ℕ) → lacks 10 (name_at (written_names names) a ++ 44 ∷ name_at (written_names names) b) ≡ true
on_two names a b =
    two_lack (name_at (written_names names) a) (name_at (written_names names) b) (written_lacks names a) (written_lacks names b)

on_three : (names : List (List ℕ)) (a b c : ℕ)
    → lacks 10 (name_at (written_names names) a ++ 44 ∷ (name_at (written_names names) b ++ 44 ∷ name_at (written_names names) c)) ≡ true
on_three names a b c =
    three_lack (name_at (written_names names) a) (name_at (written_names names) b) (name_at (written_names names) c)
    (written_lacks names a) (written_lacks names b) (written_lacks names c)

pub op_titles : AreOneLine op_title
op_titles names (X q) = written_lacks names q
op_titles names (Y q) = written_lacks names q
op_titles names (Z q) = written_lacks names q
op_titles names (H q) = written_lacks names q
op_titles names (S q) = written_lacks names q
op_titles names (Sdg q) = written_lacks names q
op_titles names (T q) = written_lacks names q
op_titles names (Tdg q) = written_lacks names q
op_titles names (Cx a b) = on_two names a b
op_titles names (Cz a b) = on_two names a b
op_titles names (Ccx a b c) = on_three names a b c
op_titles names (ops.Swap a b) = on_two names a b
op_titles names (ops.Cswap c a b) = on_three names c a b
