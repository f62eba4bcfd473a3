-- The header of a circuit that was written is read back.
use Rattle.std.proofs.Common.{◌≡◌, ◌≢◌, ℕ, ◌+◌, ◌≤◌, Bool, true, false, cond, List, [], ◌∷◌, ◌++◌, length, map, get_or, Some, None, Ok, refl, sym, ap, ◌∙◌, arith, append_assoc, decimal, eq-eqb, codes}
use Rattle.std.specs.Prelude.{All, AllPairs}
use Rattle.std.specs.List.{list_any}
use Rattle.std.proofs.lemmas.Bool.{le-ltb}
use Rattle.std.proofs.lemmas.List.{append-nil, length-append, length-map, get_or_at, get_or_append_left}
use Rattle.std.proofs.lemmas.List.Elements.{All-get_or, All-head, All-tail}
use Rattle.std.proofs.lemmas.Option.{get_or_from_slice_get, slice_get_within}
use Rattle.rv_text.specs.Tokens.{Lexeme, plain, in_quotes}
use Rattle.rv_text.proofs.inside.Decimal.{count_is, decimal_value-decimal}
use Rattle.rv_gate.specs.Names.{AreNames, IsName}
use Rattle.rv_gate.specs.Circuit.{Cascade, AreLabels, IsLabel}
use Rattle.rv_gate.specs.declared.circuit.Mark.{Mark}
use Rattle.rv_marks.specs.Row.{constant_of, constant_byte, garbage_of, garbage_byte}
use Rattle.rv_marks.specs.inside.laws.RowLaws.{constant_of-constant_byte, garbage_of-garbage_byte}
use Rattle.rv_marks.proofs.inside.Row.{row_of-map}
use Rattle.rv_real.specs.Rules.{in_order, is_bare}
use Rattle.rv_real.specs.inside.Directives.{Header, no_directives}
use Rattle.rv_real.specs.Header.{line_of_name, with_name, with_label}
use Rattle.rv_real.specs.inside.HeaderSteps.{numvars_of, variables_of, inputs_of, outputs_of, constants_of, garbage_row_of, named_directive, directive_of, begin_of}
use Rattle.rv_real.specs.Reading.{is_unclosed}
use Rattle.rv_real.specs.inside.LineByLine.{header_of, body_of}
use Rattle.rv_real.specs.Text.{needs_quotes}
use Rattle.rv_real.proofs.NameLemmas.{none_found}
use Rattle.rv_real.proofs.inside.Written.{label_lexeme, label_no_quote}

-- ---- one line of the header

pub one_directive : (before : ℕ) (h next : Header) (w : Lexeme) (ws : List Lexeme) (lines : List (List Lexeme)) → list_any is_unclosed (w ∷ ws) ≡ false → is_bare w (codes ".begin") ≡ false → directive_of h w ws ≡ Ok next
    → header_of h before ((w ∷ ws) ∷ lines) ≡ header_of next (before + 1) lines
one_directive before h next w ws lines closed other read = rw (closed, other, read) refl

-- ---- .version

pub version_back : (h : Header) → directive_of h (plain (codes ".version")) (plain (codes "2.0") ∷ []) ≡ Ok h
unfolding named_directive
version_back h = refl

-- ---- .numvars

pub numvars_back : (n : ℕ) → 1 ≤ n → n ≤ 64
    → directive_of no_directives (plain (codes ".numvars")) (plain (decimal n) ∷ []) ≡ Ok (record no_directives { numvars = Some n })
unfolding named_directive numvars_of
numvars_back n some few = rw (count_is n some (omega arith), decimal_value-decimal n (omega arith), le-ltb 64 n few) refl

-- ---- .variables

name_free : (names front : List (List ℕ)) (name : List ℕ) (rest : List (List ℕ)) → AllPairs (λ x y. x ≢ y) names → front ++ name ∷ rest ≡ names → line_of_name front name ≡ None
name_free names front name rest apart whole =
    none_found front name (λ line at.
    let within = slice_get_within front line name at in
    let here : get_or names line name ≡ name = ap (λ ns. get_or ns line name) (sym whole) ∙ get_or_append_left front (name ∷ rest) name line within ∙ get_or_from_slice_get front line name name at in
    let there : get_or names (length front) name ≡ name = ap (λ ns. get_or ns (length front) name) (sym whole) ∙ get_or_at front name rest name (length front) refl in
    apart line (length front) name within (omega (arith, ap length whole, length-append front (name ∷ rest))) (here ∙ sym there)) (line_of_name front name) refl

name_added : (names front : List (List ℕ)) (name : List ℕ) (rest : List (List ℕ)) → AreNames names → front ++ name ∷ rest ≡ names → with_name front (plain name) ≡ Ok (front ++ name ∷ [])
name_added names front name rest are whole =
    let at : get_or names (length front) name ≡ name = ap (λ ns. get_or ns (length front) name) (sym whole) ∙ get_or_at front name rest name (length front) refl in
    let is : IsName name = rw at at (All-get_or IsName names (length front) name (omega (arith, ap length whole, length-append front (name ∷ rest))) are.each) in
    rw (is, name_free names front name rest are.apart whole) refl

names_read : (names front rest : List (List ℕ)) → AreNames names → front ++ rest ≡ names → in_order with_name front (map plain rest) ≡ Ok names
names_read names front [] are whole = ap Ok (sym (append-nil front) ∙ whole)
names_read names front (name ∷ rest) are whole =
    rw (name_added names front name rest are whole) (names_read names (front ++ name ∷ []) rest are (append_assoc front (name ∷ []) rest ∙ whole))

pub length-plain : (ws : List (List ℕ)) → length (map plain ws) ≡ length ws
length-plain ws = length-map ws plain

pub variables_back : (h : Header) (names : List (List ℕ)) → AreNames names → h.numvars ≡ Some (length names) → h.names ≡ None
    → directive_of h (plain (codes ".variables")) (map plain names) ≡ Ok (record h { names = Some names })
unfolding named_directive variables_of
variables_back h names are numvars none =
    rw (numvars, none, length-plain names, eq-eqb (length names) (length names) refl, names_read names [] names are refl) refl

-- ---- .inputs and .outputs

label_closed : (label : List ℕ) → is_unclosed (label_lexeme label) ≡ false
label_closed label = elim (needs_quotes label) as (λ t. is_unclosed (cond t (in_quotes label true) (plain label)) ≡ false) [ true ↦ refl | false ↦ refl ]

pub labels_closed : (labels : List (List ℕ)) → list_any is_unclosed (map label_lexeme labels) ≡ false
labels_closed [] = refl
labels_closed (label ∷ labels) = rw (label_closed label) (labels_closed labels)

label_added : (front : List (List ℕ)) (label : List ℕ) → IsLabel label → with_label front (label_lexeme label) ≡ Ok (front ++ label ∷ [])
label_added front label is = grind (arith, needs_quotes, with_label, in_quotes, label_no_quote)

labels_read : (front rest : List (List ℕ)) → All IsLabel rest → in_order with_label front (map label_lexeme rest) ≡ Ok (front ++ rest)
labels_read front [] are = ap Ok (sym (append-nil front))
labels_read front (label ∷ rest) are =
    rw (label_added front label (All-head IsLabel label rest are))
    (labels_read (front ++ label ∷ []) rest (All-tail IsLabel label rest are) ∙ ap Ok (append_assoc front (label ∷ []) rest))

length-labels : (labels : List (List ℕ)) → length (map label_lexeme labels) ≡ length labels
length-labels labels = length-map labels label_lexeme

pub inputs_back : (h : Header) (n : ℕ) (labels : List (List ℕ)) → AreLabels n labels → h.numvars ≡ Some n → h.input_labels ≡ None
    → directive_of h (plain (codes ".inputs")) (map label_lexeme labels) ≡ Ok (record h { input_labels = Some labels })
unfolding named_directive inputs_of
inputs_back h n labels are numvars none =
    rw (numvars, none, length-labels labels, eq-eqb (length labels) n are.count, labels_read [] labels are.each) refl

pub outputs_back : (h : Header) (n : ℕ) (labels : List (List ℕ)) → AreLabels n labels → h.numvars ≡ Some n → h.output_labels ≡ None
    → directive_of h (plain (codes ".outputs")) (map label_lexeme labels) ≡ Ok (record h { output_labels = Some labels })
unfolding named_directive outputs_of
outputs_back h n labels are numvars none =
    rw (numvars, none, length-labels labels, eq-eqb (length labels) n are.count, labels_read [] labels are.each) refl

-- ---- .constants and .garbage

pub constants_back : (h : Header) (n : ℕ) (marks : List Mark) → length marks ≡ n → h.numvars ≡ Some n → h.constants ≡ None
    → directive_of h (plain (codes ".constants")) (plain (map constant_byte marks) ∷ []) ≡ Ok (record h { constants = Some marks })
unfolding named_directive constants_of
constants_back h n marks count numvars none =
    rw (numvars, none, append-nil (map constant_byte marks), ← count, row_of-map constant_of constant_byte constant_of-constant_byte marks) refl

pub garbage_back : (h : Header) (n : ℕ) (marks : List Bool) → length marks ≡ n → h.numvars ≡ Some n → h.garbage ≡ None
    → directive_of h (plain (codes ".garbage")) (plain (map garbage_byte marks) ∷ []) ≡ Ok (record h { garbage = Some marks })
unfolding named_directive garbage_row_of
garbage_back h n marks count numvars none =
    rw (numvars, none, append-nil (map garbage_byte marks), ← count, row_of-map garbage_of garbage_byte garbage_of-garbage_byte marks) refl

-- ---- .begin

-- the header of a circuit that was written
abbrev pub header_of_cascade : Cascade → Header
header_of_cascade c = record {
  numvars = Some (length c.names);
  names = Some c.names;
  input_labels = Some c.input_labels;
  output_labels = Some c.output_labels;
  constants = Some c.constants;
  garbage = Some c.garbage;
}

pub begin_back : (before : ℕ) (c : Cascade) (lines : List (List Lexeme)) → header_of (header_of_cascade c) before ((plain (codes ".begin") ∷ []) ∷ lines) ≡ body_of (record c { gates = [] }) (before + 1) lines
unfolding begin_of
begin_back before c lines = refl
