-- The lines of gates that were written are read back.
use Rattle.std.proofs.Common.{◌≡◌, ℕ, suc, ◌+◌, ◌-◌, ◌<◌, ◌≤◌, ◌^◌, true, false, ◌&&◌, List, [], ◌∷◌, ◌++◌, length, map, take, nat_eq, nat_lt, codes, Result, Ok, refl, sym, ap, ◌∙◌, arith, append_assoc, decimal, eq-eqb, ne_eqb}
use Rattle.std.specs.Prelude.{All}
use Rattle.std.specs.List.{list_any}
use Rattle.std.specs.Str.{bytes_eq}
use Rattle.std.proofs.lemmas.Bool.{lt-ltb}
use Rattle.std.proofs.lemmas.Fmt.{decimal_nonempty, length-decimal-le}
use Rattle.std.proofs.lemmas.List.{append-nil, length-append, map-append, get_or_at, take_all, take-append-le}
use Rattle.std.proofs.lemmas.List.Elements.{All-head, All-tail}
use Rattle.rv_text.specs.Tokens.{Lexeme, plain}
use Rattle.rv_text.proofs.inside.Decimal.{is_decimal-decimal, decimal_value-decimal}
use Rattle.rv_gate.specs.Gate.{IsGate, FitsIn}
use Rattle.rv_gate.specs.Names.{AreNames}
use Rattle.rv_gate.specs.Circuit.{Cascade}
use Rattle.rv_gate.specs.declared.gate.Shape.{Shape}
use Rattle.rv_gate.specs.declared.gate.Shape.TheVariants.{Flip, Swap, Peres}
use Rattle.rv_gate.proofs.inside.GateLemmas.{fits_flip, fits_swap_a, fits_swap_b, fits_peres_a, fits_peres_b, fits_peres_c}
use Rattle.rv_real.specs.Rules.{in_order, is_bare}
use Rattle.rv_real.specs.Reading.{is_unclosed}
use Rattle.rv_real.specs.inside.LineByLine.{body_of}
use Rattle.rv_real.specs.Body.{Operand, letter_of, operand_count, takes_operands, is_known, with_operand, names_line, has_repeated, shape_of, line_at, named_gate}
use Rattle.rv_real.specs.inside.BodySteps.{with_gate, with_body_line}
use Rattle.rv_real.specs.Text.{name_at, controls_from, gate_line, gate_words}
use Rattle.rv_real.proofs.LineSets.{has_repeated-push, names_line-push}
use Rattle.rv_real.proofs.inside.Placed.{AreOperands, placed_gate}
use Rattle.rv_real.proofs.ControlsBack.{AreBelow, bare_operand, control_operands, control_operands-count, controls_read, named_exactly, lines_back, positive_back, controls_once}
use Rattle.rv_real.proofs.inside.HeaderBack.{length-plain}

-- ---- one line of the body

pub one_gate : (before : ℕ) (c next : Cascade) (w : Lexeme) (ws : List Lexeme) (lines : List (List Lexeme)) → list_any is_unclosed (w ∷ ws) ≡ false → is_bare w (codes ".end") ≡ false → with_body_line c w ws ≡ Ok next
    → body_of c before ((w ∷ ws) ∷ lines) ≡ body_of next (before + 1) lines
one_gate before c next w ws lines closed other read = rw (closed, other, read) refl

pub closed_plain : (ws : List (List ℕ)) → list_any is_unclosed (map plain ws) ≡ false
closed_plain [] = refl
closed_plain (w ∷ ws) = closed_plain ws

-- ---- the name of a gate

-- a name with digits is no `p` alone
not_alone : (letter : ℕ) (digits : List ℕ) → 0 < length digits → bytes_eq (letter ∷ digits) (codes "p") ≡ false
not_alone letter [] some = absurd (omega (arith, some))
not_alone letter (d ∷ digits) some = elim (nat_eq letter 112) as (λ t. (t && false) ≡ false) [ true ↦ refl | false ↦ refl ]

-- what a name that was written says
record SaysOf (name : List ℕ) (first count : ℕ) : Type 0 where
  known : is_known name ≡ true
  letter : letter_of name ≡ first
  operands : operand_count name ≡ count

name_known : (letter operands : ℕ) → operands < 100 → takes_operands letter operands ≡ true → SaysOf (letter ∷ decimal operands) letter operands
name_known letter operands few takes =
    let small : operands < 2 ^ 64 = omega arith in
    let short = length-decimal-le 2 operands (omega arith) (omega arith) small in
    let named = not_alone letter (decimal operands) (decimal_nonempty operands small) in
    record {
      known = rw (named, is_decimal-decimal operands small, decimal_value-decimal operands small, lt-ltb (length (decimal operands)) 4 (omega (arith, short)), takes) refl;
      letter = rw named refl;
      operands = rw named (decimal_value-decimal operands small);
    }

-- ---- the operands

front_of : {A : Type 0} (xs ys : List A) (n : ℕ) → length xs ≡ n → take n (xs ++ ys) ≡ xs
front_of xs ys n e = take-append-le n xs ys (omega arith) ∙ take_all n xs (omega arith)

-- a name at the end of the operands
target_read : (names : List (List ℕ)) (controls line : ℕ) (operands : List Operand) (tail : List Lexeme) → AreNames names → line < length names
    → in_order (with_operand names controls) operands (plain (name_at names line) ∷ tail)
    ≡ in_order (with_operand names controls) (operands ++ record { line = line; is_negative = false } ∷ []) tail
target_read names controls line operands tail are lt = rw (bare_operand names line (nat_lt (length operands) controls) are lt) refl

-- a target alone
abbrev target : ℕ → Operand
target line = record { line = line; is_negative = false }

all_controls : (names : List (List ℕ)) (care want controls : ℕ) (targets : List (List ℕ)) → AreNames names → length (controls_from 0 names care want) ≡ controls
    → in_order (with_operand names controls) [] (map plain (controls_from 0 names care want ++ targets))
    ≡ in_order (with_operand names controls) (control_operands 0 names care want) (map plain targets)
all_controls names care want controls targets are count =
    ap (in_order (with_operand names controls) []) (map-append plain (controls_from 0 names care want) targets)
    ∙ controls_read names [] names controls care want 0 [] (map plain targets) are refl refl (omega arith)

pub few_controls : (line : ℕ) (names : List (List ℕ)) (care want : ℕ) → length (controls_from line names care want) ≤ length names
few_controls line [] care want = omega arith
few_controls line (name ∷ names) care want = let rest = few_controls (line + 1) names care want in grind (arith, rest, length-append)

with_room : (c : Cascade) (gate : Shape) → length c.gates < 1048576 → with_gate c gate ≡ Ok (record c { gates = c.gates ++ gate ∷ [] })
with_room c gate room = rw (lt-ltb (length c.gates) 1048576 room) refl

-- the circuit with a gate more
abbrev Added : Cascade → Shape → Result Cascade ℕ
Added c gate = Ok (record c { gates = c.gates ++ gate ∷ [] })

-- the line of a gate that was written
abbrev pub IsRead : Cascade → List (List ℕ) → Shape → Type 0
IsRead c [] gate = ⊥
IsRead c (name ∷ words) gate = (is_bare (plain name) (codes ".end") ≡ false) × (with_body_line c (plain name) (map plain words) ≡ Added c gate)

-- a known gate with its operands
gate_read : (c : Cascade) (gate : Shape) (letter n : ℕ) (words : List (List ℕ)) (operands : List Operand) → nat_eq letter 118 ≡ false → nat_eq letter 46 ≡ false → length words ≡ n → n < 100
    → takes_operands letter n ≡ true → AreOperands c letter n (map plain words) operands
    → has_repeated operands ≡ false → shape_of letter operands ≡ gate → length c.gates < 1048576
    → IsRead c (gate_line letter words) gate
unfolding named_gate
gate_read c gate letter n words operands no_root no_dot count few takes are once shape room = grind (arith, nat_eq, eq-eqb, length-plain, placed_gate, with_room, decimal, name_known)

-- ---- one gate

flip_back : (c : Cascade) (care want t : ℕ) → AreNames c.names → IsGate (Flip care want t) → FitsIn (Flip care want t) (length c.names) → length c.gates < 1048576
    → IsRead c (gate_words c.names (Flip care want t)) (Flip care want t)
flip_back c care want t are is fits room =
    let below : AreBelow care (length c.names) = λ line on. fits line (rw on refl) in
    let lt : t < length c.names = fits_flip (Flip care want t) care want t (length c.names) refl fits in
    let controls : List Operand = control_operands 0 c.names care want in
    let words : List (List ℕ) = controls_from 0 c.names care want in
    let few = few_controls 0 c.names care want in
    let n : ℕ = length words + 1 in
    let count : length controls ≡ n - 1 = control_operands-count 0 c.names care want ∙ omega arith in
    let read : AreOperands c 116 n (map plain (words ++ name_at c.names t ∷ [])) (controls ++ target t ∷ []) =
    all_controls c.names care want (n - 1) (name_at c.names t ∷ []) are (omega arith) ∙ target_read c.names (n - 1) t controls [] are lt in
    let once : has_repeated (controls ++ target t ∷ []) ≡ false = has_repeated-push controls (target t) ∙ rw (controls_once 0 c.names care want, named_exactly c.names care want t below) is.1 in
    let all : length (controls ++ target t ∷ []) - 1 ≡ n - 1 = omega (arith, length-append controls (target t ∷ []), count) in
    let shape : shape_of 116 (controls ++ target t ∷ []) ≡ Flip care want t =
    rw (all, front_of controls (target t ∷ []) (n - 1) count, lines_back c.names care want below, positive_back c.names care want below is.2)
    (ap (λ (o : Operand). Flip care want o.line) (get_or_at controls (target t) [] (target 0) (n - 1) count)) in
    let len : length (words ++ name_at c.names t ∷ []) ≡ n = length-append words (name_at c.names t ∷ []) in
    let kept = are.few in
    gate_read c (Flip care want t) 116 n (words ++ name_at c.names t ∷ []) (controls ++ target t ∷ []) refl refl len (omega arith) (rw (lt-ltb 0 n (omega arith)) refl) read once shape room

swap_back : (c : Cascade) (care want a b : ℕ) → AreNames c.names → IsGate (Swap care want a b) → FitsIn (Swap care want a b) (length c.names) → length c.gates < 1048576
    → IsRead c (gate_words c.names (Swap care want a b)) (Swap care want a b)
swap_back c care want a b are is fits room =
    let below : AreBelow care (length c.names) = λ line on. fits line (rw on refl) in
    let lt_a : a < length c.names = fits_swap_a (Swap care want a b) care want a b (length c.names) refl fits in
    let lt_b : b < length c.names = fits_swap_b (Swap care want a b) care want a b (length c.names) refl fits in
    let controls : List Operand = control_operands 0 c.names care want in
    let words : List (List ℕ) = controls_from 0 c.names care want in
    let few = few_controls 0 c.names care want in
    let n : ℕ = length words + 2 in
    let count : length controls ≡ n - 2 = control_operands-count 0 c.names care want ∙ omega arith in
    let targets : List (List ℕ) = name_at c.names a ∷ name_at c.names b ∷ [] in
    let operands : List Operand = (controls ++ target a ∷ []) ++ target b ∷ [] in
    let read : AreOperands c 102 n (map plain (words ++ targets)) operands =
    all_controls c.names care want (n - 2) targets are (omega arith) ∙ target_read c.names (n - 2) a controls (plain (name_at c.names b) ∷ []) are lt_a ∙ target_read c.names (n - 2) b (controls ++ target a ∷ []) [] are lt_b in
    let first : has_repeated (controls ++ target a ∷ []) ≡ false = has_repeated-push controls (target a) ∙ rw (controls_once 0 c.names care want, named_exactly c.names care want a below) is.3 in
    let last : names_line (controls ++ target a ∷ []) b ≡ false = names_line-push controls (target a) b ∙ rw (named_exactly c.names care want b below, is.4) (ne_eqb a b is.2) in
    let once : has_repeated operands ≡ false = has_repeated-push (controls ++ target a ∷ []) (target b) ∙ rw first last in
    let len_a : length (controls ++ target a ∷ []) ≡ n - 1 = omega (arith, length-append controls (target a ∷ []), count) in
    let split : operands ≡ controls ++ target a ∷ target b ∷ [] = append_assoc controls (target a ∷ []) (target b ∷ []) in
    let front : take (n - 2) operands ≡ controls = ap (take (n - 2)) split ∙ front_of controls (target a ∷ target b ∷ []) (n - 2) count in
    let at_a : line_at operands (n - 2) ≡ a = ap (λ (os : List Operand). line_at os (n - 2)) split ∙ ap (λ (o : Operand). o.line) (get_or_at controls (target a) (target b ∷ []) (target 0) (n - 2) count) in
    let at_b : line_at operands (n - 1) ≡ b = ap (λ (o : Operand). o.line) (get_or_at (controls ++ target a ∷ []) (target b) [] (target 0) (n - 1) len_a) in
    let all_but_two : length operands - 2 ≡ n - 2 = omega (arith, length-append (controls ++ target a ∷ []) (target b ∷ []), len_a) in
    let all_but_one : length operands - 1 ≡ n - 1 = omega (arith, length-append (controls ++ target a ∷ []) (target b ∷ []), len_a) in
    let shape : shape_of 102 operands ≡ Swap care want a b = rw (all_but_two, all_but_one, front, at_a, at_b, lines_back c.names care want below, positive_back c.names care want below is.5) refl in
    let len : length (words ++ targets) ≡ n = length-append words targets in
    let kept = are.few in
    gate_read c (Swap care want a b) 102 n (words ++ targets) operands refl refl len (omega arith) (rw (lt-ltb 1 n (omega arith)) refl) read once shape room

peres_back : (c : Cascade) (a b d : ℕ) → AreNames c.names → IsGate (Peres a b d) → FitsIn (Peres a b d) (length c.names) → length c.gates < 1048576
    → IsRead c (gate_words c.names (Peres a b d)) (Peres a b d)
peres_back c a b d are is fits room =
    let lt_a : a < length c.names = fits_peres_a (Peres a b d) a b d (length c.names) refl fits in
    let lt_b : b < length c.names = fits_peres_b (Peres a b d) a b d (length c.names) refl fits in
    let lt_d : d < length c.names = fits_peres_c (Peres a b d) a b d (length c.names) refl fits in
    let words : List (List ℕ) = name_at c.names a ∷ name_at c.names b ∷ name_at c.names d ∷ [] in
    let operands : List Operand = target a ∷ target b ∷ target d ∷ [] in
    let read : AreOperands c 112 3 (map plain words) operands =
    target_read c.names 0 a [] (plain (name_at c.names b) ∷ plain (name_at c.names d) ∷ []) are lt_a
    ∙ target_read c.names 0 b (target a ∷ []) (plain (name_at c.names d) ∷ []) are lt_b
    ∙ target_read c.names 0 d (target a ∷ target b ∷ []) [] are lt_d in
    let once : has_repeated operands ≡ false = rw (ne_eqb b a (λ e. is.3 (sym e)), ne_eqb d a (λ e. is.4 (sym e)), ne_eqb d b (λ e. is.5 (sym e))) refl in
    gate_read c (Peres a b d) 112 3 words operands refl refl refl (omega arith) refl read once refl room

pub gate_back : (c : Cascade) (gate : Shape) → AreNames c.names → IsGate gate → FitsIn gate (length c.names) → length c.gates < 1048576
    → IsRead c (gate_words c.names gate) gate
gate_back c (Flip care want t) are is fits room = flip_back c care want t are is fits room
gate_back c (Swap care want a b) are is fits room = swap_back c care want a b are is fits room
gate_back c (Peres a b d) are is fits room = peres_back c a b d are is fits room

-- ---- all gates

gate_line_back : (before : ℕ) (c : Cascade) (gate : Shape) (words : List (List ℕ)) (lines : List (List Lexeme)) → IsRead c words gate
    → body_of c before (map plain words ∷ lines) ≡ body_of (record c { gates = c.gates ++ gate ∷ [] }) (before + 1) lines
gate_line_back before c gate [] lines read = absurd read
gate_line_back before c gate (name ∷ words) lines read = one_gate before c _ (plain name) (map plain words) lines (closed_plain (name ∷ words)) read.0 read.1

pub gates_back : (before : ℕ) (c : Cascade) (done rest : List Shape) (tail : List (List Lexeme)) → AreNames c.names → All IsGate rest → All (λ gate. FitsIn gate (length c.names)) rest → length done + length rest ≤ 1048576
    → body_of (record c { gates = done }) before (map (λ gate. map plain (gate_words c.names gate)) rest ++ tail)
    ≡ body_of (record c { gates = done ++ rest }) (before + length rest) tail
gates_back before c done [] tail are is fits few =
    ap (λ (gates : List Shape). body_of (record c { gates = gates }) before tail) (sym (append-nil done))
    ∙ ap (λ k. body_of (record c { gates = done ++ [] }) k tail) (omega arith)
gates_back before c done (gate ∷ rest) tail are is fits few =
    let here = gate_back (record c { gates = done }) gate are (All-head IsGate gate rest is) (All-head (λ gate. FitsIn gate (length c.names)) gate rest fits) (omega (arith, few)) in
    let more = gates_back (before + 1) c (done ++ gate ∷ []) rest tail are (All-tail IsGate gate rest is) (All-tail (λ gate. FitsIn gate (length c.names)) gate rest fits) (omega (arith, few, length-append done (gate ∷ []))) in
    gate_line_back before (record c { gates = done }) gate (gate_words c.names gate) (map (λ gate. map plain (gate_words c.names gate)) rest ++ tail) here
    ∙ more
    ∙ ap (λ (gates : List Shape). body_of (record c { gates = gates }) (before + 1 + length rest) tail) (append_assoc done (gate ∷ []) rest)
    ∙ ap (λ k. body_of (record c { gates = done ++ gate ∷ rest }) k tail) (omega arith)
