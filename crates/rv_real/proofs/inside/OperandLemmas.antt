-- The operands of a gate, one after another.
use Rattle.std.proofs.Common.{◌≡◌, ℕ, ◌+◌, ◌-◌, ◌^◌, ◌<◌, ◌≤◌, Bool, true, false, List, [], ◌∷◌, ◌++◌, length, take, drop, nat_lt, nat_eq, refl, sym, ap, ◌∙◌, inl, inr, arith, Ok, Err, Option, Some, None}
use Rattle.std.specs.Prelude.{All, bit_or}
use Rattle.std.proofs.lemmas.Bool.{cases_Bool, ltb-true, ltb-false, eqb-true}
use Rattle.std.proofs.lemmas.List.{length-append, take_all, take-append-le, get_or_append_left, get_or_at}
use Rattle.std.proofs.lemmas.List.Elements.{All-push, All-take, All-get_or}
use Rattle.rv_text.specs.Tokens.{Lexeme, tokens_of}
use Rattle.rv_gate.specs.Word.{has}
use Rattle.rv_gate.specs.Gate.{IsGate, FitsIn}
use Rattle.rv_gate.specs.declared.gate.Shape.{Shape}
use Rattle.rv_gate.specs.declared.gate.Shape.TheVariants.{Flip, Swap, Peres}
use Rattle.std.specs.Option.{SomeIff}
use Rattle.rv_real.specs.declared.operands.Operands.{Operands}
use Rattle.rv_real.specs.Rules.{in_order}
use Rattle.rv_real.specs.declared.code.TheConstants as code
use Rattle.rv_real.specs.Body.{Operand, operand_on, operand_of, with_operand, has_repeated, names_line, line_set, wanting_one, line_at, shape_of}
use Rattle.rv_reader.specs.declared.stop.Stop.{Stop}
use Rattle.rv_reader.specs.declared.stop.Stop.TheVariants as stops
use Rattle.rv_reader.specs.Gives.{Fails}
use Rattle.rv_real.specs.inside.Operands.{Gathers, pushed}
use Rattle.rv_real.proofs.LineSets.{has-line_set, line_set-push, positive-push, has_repeated-push, subset, apart, differ, named_below}

-- a loop over the operands of a line, from a place on
pub record IsReadingOperands (names : List (List ℕ)) (controls : ℕ) (line : List ℕ) (from at : ℕ) (kept : Operands) : Type 0 where
  pub within : at ≤ length line
  pub count : kept.count ≤ at
  pub so_far : List Operand
  pub gathers : Gathers (length names) controls so_far kept
  pub rest : in_order (with_operand names controls) so_far (tokens_of true [] (drop at line)) ≡ in_order (with_operand names controls) [] (tokens_of true [] (drop from line))

abbrev none : Operand
none = record { line = 0; is_negative = false }

line_at-front : (operands : List Operand) (o : Operand) (k : ℕ) → k < length operands → line_at (operands ++ o ∷ []) k ≡ line_at operands k
line_at-front operands o k lt = ap (λ (x : Operand). x.line) (get_or_append_left operands (o ∷ []) none k lt)

line_at-last : (operands : List Operand) (o : Operand) (k : ℕ) → length operands ≡ k → line_at (operands ++ o ∷ []) k ≡ o.line
line_at-last operands o k e = ap (λ (x : Operand). x.line) (get_or_at operands o [] none k e)

-- the front of the operands that are controls grows by a control alone
take_control : (controls : ℕ) (operands : List Operand) (o : Operand) → nat_lt (length operands) controls ≡ true
    → take controls (operands ++ o ∷ []) ≡ take controls operands ++ o ∷ []
take_control controls operands o h = grind (arith, ltb-true, take_all, length-append)

take_target : (controls : ℕ) (operands : List Operand) (o : Operand) → nat_lt (length operands) controls ≡ false
    → take controls (operands ++ o ∷ []) ≡ take controls operands
take_target controls operands o h = grind (arith, ltb-false, take-append-le)

pub Gathers-push : (lines controls : ℕ) (operands : List Operand) (kept : Operands) (o : Operand) (is_control : Bool) → Gathers lines controls operands kept → o.line < lines
    → is_control ≡ nat_lt kept.count controls → Gathers lines controls (operands ++ o ∷ []) (pushed kept o is_control)
Gathers-push lines controls operands kept o is_control so_far below test =
    let longer : length (operands ++ o ∷ []) ≡ length operands + 1 = length-append operands (o ∷ []) in
    let control : is_control ≡ nat_lt (length operands) controls = test ∙ ap (λ n. nat_lt n controls) so_far.count in
    let held : has kept.lines o.line ≡ names_line operands o.line = ap (λ set. has set o.line) so_far.all ∙ has-line_set operands o.line in
    record {
      count = omega (arith, so_far.count);
      below = All-push (λ o. o.line < lines) operands o so_far.below below;
      all = ap (λ set. bit_or set (2 ^ o.line)) so_far.all ∙ sym (line_set-push operands o);
      is_repeated = rw (so_far.is_repeated, held) (sym (has_repeated-push operands o));
      care = elim (cases_Bool is_control) [
        | inl is ↦ rw (is, take_control controls operands o (sym control ∙ is), so_far.care) (sym (line_set-push (take controls operands) o))
        | inr not ↦ rw (not, take_target controls operands o (sym control ∙ not), so_far.care) refl
      ];
      want = elim (cases_Bool is_control) [
        | inl is ↦ rw (is, take_control controls operands o (sym control ∙ is), positive-push (take controls operands) o, so_far.want) refl
        | inr not ↦ rw (not, take_target controls operands o (sym control ∙ not), so_far.want) refl
      ];
      first = λ le. so_far.second (omega arith) ∙ sym (ap (line_at (operands ++ o ∷ [])) (omega arith) ∙ line_at-front operands o (length operands - 2) (omega arith));
      second = λ le. so_far.third (omega arith) ∙ sym (ap (line_at (operands ++ o ∷ [])) (omega arith) ∙ line_at-front operands o (length operands - 1) (omega arith));
      third = λ le. sym (line_at-last operands o (length (operands ++ o ∷ []) - 1) (omega arith));
    }

-- the rule for an operand
pub operand_ok : (names : List (List ℕ)) (controls : ℕ) (operands : List Operand) (w : Lexeme) (o : Operand) (is_control : Bool) → is_control ≡ nat_lt (length operands) controls
    → operand_of names is_control w ≡ Ok o → with_operand names controls operands w ≡ Ok (operands ++ o ∷ [])
operand_ok names controls operands w o is_control control ok =
    rw (← control, ok) refl

-- the gates of operands that are not repeated

control_free : (operands : List Operand) (m k : ℕ) → m ≤ k → k < length operands → has_repeated operands ≡ false
    → has (line_set (take m operands)) (line_at operands k) ≡ false
control_free operands m k le lt once =
    has-line_set (take m operands) (line_at operands k) ∙ apart operands m k le lt once

control_below : (lines : ℕ) (operands : List Operand) (m line : ℕ) → All (λ o. o.line < lines) operands
    → has (line_set (take m operands)) line ≡ true → line < lines
control_below lines operands m line below on =
    named_below lines (take m operands) line (All-take (λ o. o.line < lines) m operands below)
    (sym (has-line_set (take m operands) line) ∙ on)

target_below : (lines : ℕ) (operands : List Operand) (k : ℕ) → k < length operands → All (λ o. o.line < lines) operands → line_at operands k < lines
target_below lines operands k lt below = All-get_or (λ o. o.line < lines) operands k none lt below

abbrev Controls : (m : ℕ) → List Operand → ℕ
Controls m operands = line_set (take m operands)

abbrev Positive : (m : ℕ) → List Operand → ℕ
Positive m operands = line_set (wanting_one (take m operands))

wanted : (m : ℕ) (operands : List Operand) (line : ℕ) → has (Positive m operands) line ≡ true → has (Controls m operands) line ≡ true
wanted m operands line on = subset (take m operands) line on

pub flip_is : (lines n : ℕ) (operands : List Operand) → 1 ≤ n → length operands ≡ n → lines ≤ 64 → All (λ o. o.line < lines) operands → has_repeated operands ≡ false
    → IsGate (Flip (Controls (n - 1) operands) (Positive (n - 1) operands) (line_at operands (n - 1))) × FitsIn (Flip (Controls (n - 1) operands) (Positive (n - 1) operands) (line_at operands (n - 1))) lines
flip_is lines n operands some len few below once =
    let target = target_below lines operands (n - 1) (omega arith) below in (
      (omega arith, control_free operands (n - 1) (n - 1) (omega arith) (omega arith) once, wanted (n - 1) operands),
      λ line on. (elim (cases_Bool (has (Controls (n - 1) operands) line)) [
        | inl control ↦ control_below lines operands (n - 1) line below control
        | inr other ↦ (let at : line ≡ line_at operands (n - 1) = eqb-true _ _ (rw other at on) in omega arith)
      ]),
    )

pub swap_is : (lines n : ℕ) (operands : List Operand) → 2 ≤ n → length operands ≡ n → lines ≤ 64 → All (λ o. o.line < lines) operands → has_repeated operands ≡ false
    → IsGate (Swap (Controls (n - 2) operands) (Positive (n - 2) operands) (line_at operands (n - 2)) (line_at operands (n - 1)))
    × FitsIn (Swap (Controls (n - 2) operands) (Positive (n - 2) operands) (line_at operands (n - 2)) (line_at operands (n - 1))) lines
swap_is lines n operands some len few below once =
    let a = target_below lines operands (n - 2) (omega arith) below in
    let b = target_below lines operands (n - 1) (omega arith) below in (
      (
        omega arith,
        omega arith,
        differ operands (n - 2) (n - 1) (omega arith) (omega arith) once,
        control_free operands (n - 2) (n - 2) (omega arith) (omega arith) once,
        control_free operands (n - 2) (n - 1) (omega arith) (omega arith) once,
        wanted (n - 2) operands,
      ),
      λ line on. (elim (cases_Bool (has (Controls (n - 2) operands) line)) [
        | inl control ↦ control_below lines operands (n - 2) line below control
        | inr other ↦ (elim (cases_Bool (nat_eq line (line_at operands (n - 2)))) [
          | inl at_a ↦ (let at : line ≡ line_at operands (n - 2) = eqb-true _ _ at_a in omega arith)
          | inr not_a ↦ (let at : line ≡ line_at operands (n - 1) = eqb-true _ _ (rw (other, not_a) at on) in omega arith)
        ])
      ]),
    )

pub peres_is : (lines : ℕ) (operands : List Operand) → length operands ≡ 3 → lines ≤ 64 → All (λ o. o.line < lines) operands → has_repeated operands ≡ false
    → IsGate (Peres (line_at operands 0) (line_at operands 1) (line_at operands 2)) × FitsIn (Peres (line_at operands 0) (line_at operands 1) (line_at operands 2)) lines
peres_is lines operands len few below once = grind (arith, target_below, differ, nat_eq, eqb-true)

pub operand_fails : (names : List (List ℕ)) (controls : ℕ) (operands : List Operand) (w : Lexeme) (e : Stop) (is_control : Bool) → is_control ≡ nat_lt (length operands) controls
    → Fails e (operand_of names is_control w) → Fails e (with_operand names controls operands w)
operand_fails names controls operands w (stops.Fault code) is_control control fails = rw (← control, fails) refl
operand_fails names controls operands w stops.Mem is_control control fails = tt

pub sign_refused : (o : Option ℕ) (line : ℕ) (sign is_control : Bool) → o ≡ Some line → sign ≡ true → is_control ≡ false → operand_on o sign is_control ≡ Err code.SIGN_ON_TARGET
sign_refused o line sign is_control known signed target = rw (known, signed, target) refl

made_by : (made : Option Shape) (P : Type 0) (shape : Shape) → SomeIff made P shape → P → made ≡ Some shape
made_by None P shape is h = absurd (is h)
made_by (Some x) P shape is h = ap Some is.1

-- what is kept of the operands makes their gate
pub flip_kept : (lines : ℕ) (operands : List Operand) (kept : Operands) (made : Option Shape) → 1 ≤ length operands → lines ≤ 64 → Gathers lines (length operands - 1) operands kept → has_repeated operands ≡ false
    → SomeIff made (IsGate (Flip kept.care kept.want kept.third)) (Flip kept.care kept.want kept.third)
    → (made ≡ Some (shape_of 116 operands)) × FitsIn (shape_of 116 operands) lines
flip_kept lines operands kept made some few gathers once is =
    let good = flip_is lines (length operands) operands some refl few gathers.below once in
    (made_by made _ _ (rw (gathers.care, gathers.want, gathers.third some) at is) good.0, good.1)

pub swap_kept : (lines : ℕ) (operands : List Operand) (kept : Operands) (made : Option Shape) → 2 ≤ length operands → lines ≤ 64 → Gathers lines (length operands - 2) operands kept → has_repeated operands ≡ false
    → SomeIff made (IsGate (Swap kept.care kept.want kept.second kept.third)) (Swap kept.care kept.want kept.second kept.third)
    → (made ≡ Some (shape_of 102 operands)) × FitsIn (shape_of 102 operands) lines
swap_kept lines operands kept made some few gathers once is =
    let good = swap_is lines (length operands) operands some refl few gathers.below once in
    (made_by made _ _ (rw (gathers.care, gathers.want, gathers.second some, gathers.third (omega arith)) at is) good.0, good.1)

pub peres_kept : (lines : ℕ) (operands : List Operand) (kept : Operands) (made : Option Shape) → length operands ≡ 3 → lines ≤ 64 → Gathers lines 0 operands kept → has_repeated operands ≡ false
    → SomeIff made (IsGate (Peres kept.first kept.second kept.third)) (Peres kept.first kept.second kept.third)
    → (made ≡ Some (shape_of 112 operands)) × FitsIn (shape_of 112 operands) lines
peres_kept lines operands kept made three few gathers once is = grind (arith, peres_is, line_at, made_by)
