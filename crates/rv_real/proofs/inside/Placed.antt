-- The operands of a gate whose name is known.
use Rattle.std.proofs.lemmas.Grind.{common_steps}
use Rattle.std.proofs.Common.{◌≡◌, ◌≢◌, ◌≤◌, Option, Some, ne_eqb, eq-eqb, ℕ, ◌+◌, true, false, List, [], ◌∷◌, ◌++◌, length, Result, Ok, Err, nat_eq, nat_lt, refl, sym, subst, ◌∙◌, arith}
use Rattle.std.proofs.lemmas.List.{length-append}
use Rattle.rv_text.specs.Tokens.{Lexeme}
use Rattle.rv_gate.specs.Circuit.{Cascade}
use Rattle.rv_gate.specs.Gate.{FitsIn}
use Rattle.rv_gate.specs.declared.gate.Shape.{Shape}
use Rattle.rv_real.specs.declared.gate_name.Kind.{Kind}
use Rattle.rv_real.specs.declared.gate_name.GateName.{GateName}
use Rattle.rv_real.specs.declared.operands.Operands.{Operands}
use Rattle.rv_reader.specs.Rules.{◌>>=◌}
use Rattle.rv_real.specs.declared.code.TheConstants as code
use Rattle.rv_real.specs.Rules.{in_order}
use Rattle.rv_real.specs.Body.{Operand, operand_of, with_operand, has_repeated, control_count, shape_of}
use Rattle.rv_real.specs.inside.BodySteps.{with_gate, placed}
use Rattle.rv_real.specs.inside.Operands.{letter_in, TakesOperands, Gathers}

-- the operands of a gate of a letter, which has so many
abbrev pub AreOperands : Cascade → ℕ → ℕ → List Lexeme → List Operand → Type 0
AreOperands c letter count ws operands = in_order (with_operand c.names (control_count letter count)) [] ws ≡ Ok operands

-- there is an operand for each token
pub operand_count : (names : List (List ℕ)) (controls : ℕ) (so_far operands : List Operand) (ws : List Lexeme)
    → in_order (with_operand names controls) so_far ws ≡ Ok operands → length operands ≡ length so_far + length ws
operand_count names controls so_far operands [] h = let same : so_far ≡ operands = cc in rw (← same) (omega arith)
operand_count names controls so_far operands (w ∷ ws) h =
    step (operand_of names (nat_lt (length so_far) controls) w) (λ o e. operand_count names controls (so_far ++ o ∷ []) operands ws e) h
  where
    step : (r : Result Operand ℕ) → ((o : Operand) → in_order (with_operand names controls) (so_far ++ o ∷ []) ws ≡ Ok operands → length operands ≡ length (so_far ++ o ∷ []) + length ws)
        → ((r >>= λ o. Ok (so_far ++ o ∷ [])) >>= λ next. in_order (with_operand names controls) next ws) ≡ Ok operands
        → length operands ≡ length so_far + length (w ∷ ws)
    step (Ok o) rest e =
        let more = rest o e in
        omega (arith, more, length-append so_far (o ∷ []))
    step (Err e) rest h = absurd cc

-- as many tokens as operands were kept
pub as_many : (names : List (List ℕ)) (controls count wanted : ℕ) (operands : List Operand) (ws : List Lexeme)
    → in_order (with_operand names controls) [] ws ≡ Ok operands → count ≡ length operands → count ≡ wanted → length ws ≡ wanted
as_many names controls count wanted operands ws are kept same = omega (arith, operand_count names controls [] operands ws are, kept, same)

-- another number of operands than the gate has
pub wrong_count : (c : Cascade) (letter count kept : ℕ) (ws : List Lexeme) (operands : List Operand) → AreOperands c letter count ws operands
    → kept ≡ length operands → kept ≢ count → placed c letter count ws ≡ Err code.WRONG_OPERAND_COUNT
wrong_count c letter count kept ws operands are is other =
    grind (arith, common_steps, operand_count, control_count, ne_eqb)

-- a line that is named twice
pub repeated : (c : Cascade) (letter count : ℕ) (ws : List Lexeme) (operands : List Operand) → AreOperands c letter count ws operands
    → length ws ≡ count → has_repeated operands ≡ true → placed c letter count ws ≡ Err code.REPEATED_OPERAND
repeated c letter count ws operands are counted twice = rw (eq-eqb (length ws) count counted, are, twice) refl

pub placed_gate : (c : Cascade) (letter count : ℕ) (ws : List Lexeme) (operands : List Operand) → nat_eq (length ws) count ≡ true → AreOperands c letter count ws operands
    → has_repeated operands ≡ false → placed c letter count ws ≡ with_gate c (shape_of letter operands)
placed_gate c letter count ws operands counted are once = rw (counted, are, once) refl

-- the gate that is made of what is kept, and what adding it does
pub record IsMade (c : Cascade) (name : GateName) (ws : List Lexeme) (made : Option Shape) : Type 0 where
  pub shape : Shape
  pub is : made ≡ Some shape
  pub fits : FitsIn shape (length c.names)
  pub adds : placed c (letter_in name.kind) name.operands ws ≡ with_gate c shape

abbrev pub Makes : Kind → Operands → Option Shape → Type 0
Makes kind kept made = (lines : ℕ) (operands : List Operand) → TakesOperands kind (length operands) → lines ≤ 64
    → Gathers lines (control_count (letter_in kind) (length operands)) operands kept → has_repeated operands ≡ false
    → (made ≡ Some (shape_of (letter_in kind) operands)) × FitsIn (shape_of (letter_in kind) operands) lines

pub gate_made : (c : Cascade) (name : GateName) (ws : List Lexeme) (kept : Operands) (operands : List Operand) (made : Option Shape) → length ws ≡ name.operands → TakesOperands name.kind name.operands
    → length c.names ≤ 64 → AreOperands c (letter_in name.kind) name.operands ws operands → Gathers (length c.names) (control_count (letter_in name.kind) name.operands) operands kept → kept.is_repeated ≡ false
    → Makes name.kind kept made → IsMade c name ws made
gate_made c name ws kept operands made count takes few are gathers once makes =
    let all : name.operands ≡ length operands = omega (arith, operand_count c.names (control_count (letter_in name.kind) name.operands) [] operands ws are, count) in
    let apart : has_repeated operands ≡ false = sym gathers.is_repeated ∙ once in
    let gate = makes (length c.names) operands (subst (TakesOperands name.kind) all takes) few (subst (λ n. Gathers (length c.names) (control_count (letter_in name.kind) n) operands kept) all gathers) apart in
    record {
      shape = shape_of (letter_in name.kind) operands;
      is = gate.0;
      fits = gate.1;
      adds = placed_gate c (letter_in name.kind) name.operands ws operands (eq-eqb _ _ count) are apart;
    }
