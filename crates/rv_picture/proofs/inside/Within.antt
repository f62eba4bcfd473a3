-- The symbols of a gate, walked from the top.
use Rattle.std.proofs.Common.{◌≡◌, ◌∙◌, ℕ, ◌+◌, ◌-◌, ◌<◌, Bool, cond, not, ◌&&◌, sym, ap, arith, inl, inr, ne_eqb}
use Rattle.std.proofs.lemmas.Bool.{cases_lt, le-ltb, lt-ltb}
use Rattle.rv_draw.specs.declared.symbol.Symbol.{Symbol}
use Rattle.rv_draw.specs.declared.symbol.Symbol.TheVariants.{Wire}
use Rattle.rv_gate.proofs.Bits.{and_false}
use Rattle.rv_picture.specs.Latex.{is_joined_on, is_on}
use Rattle.rv_picture.specs.Svg.{mark_on, stroke}
use Rattle.rv_picture.specs.inside.Within.{symbol_within}

pub within_is : (f : ℕ → Symbol) (lines line : ℕ) → line < lines → symbol_within f lines line ≡ f line
within_is f lines line lt = ap (λ (t : Bool). cond t (f line) Wire) (lt-ltb line lines lt)

-- a vertical leads down exactly if both symbols are there
pub joined_is : (f : ℕ → Symbol) (lines line : ℕ) → line < lines
    → (is_on (symbol_within f lines line) && is_on (symbol_within f lines (line + 1))) ≡ is_joined_on f lines line
joined_is f lines line lt =
    ap (λ (s : Symbol). is_on s && is_on (symbol_within f lines (line + 1))) (within_is f lines line lt)
    ∙ elim (cases_lt (line + 1) lines) [
      | inl below ↦
          ap (λ (t : Bool). is_on (f line) && is_on (cond t (f (line + 1)) Wire)) (lt-ltb (line + 1) lines below)
          ∙ sym (ap (λ (t : Bool). t && (is_on (f line) && is_on (f (line + 1)))) (lt-ltb (line + 1) lines below))
      | inr last ↦
          ap (λ (t : Bool). is_on (f line) && is_on (cond t (f (line + 1)) Wire)) (le-ltb (line + 1) lines last) ∙ and_false (is_on (f line))
          ∙ sym (ap (λ (t : Bool). t && (is_on (f line) && is_on (f (line + 1)))) (le-ltb (line + 1) lines last))
    ]

-- what leads down from a line comes from above to the next one
pub above_is : (f : ℕ → Symbol) (lines line : ℕ) → (mark_on f lines (line + 1)).from_above ≡ is_joined_on f lines line
above_is f lines line =
    let back : line + 1 - 1 ≡ line = omega arith in
    ap (λ (t : Bool). not t && is_joined_on f lines (line + 1 - 1)) (ne_eqb (line + 1) 0 (λ e. omega (arith, e))) ∙ ap (is_joined_on f lines) back

-- the symbol on a line with its verticals
pub stroke_is : (f : ℕ → Symbol) (lines line : ℕ) (from_above : Bool) → line < lines → from_above ≡ (mark_on f lines line).from_above
    → stroke (symbol_within f lines line) from_above (is_on (symbol_within f lines line) && is_on (symbol_within f lines (line + 1))) ≡ mark_on f lines line
stroke_is f lines line from_above lt is =
    ap (λ (t : Bool). stroke (symbol_within f lines line) from_above t) (joined_is f lines line lt)
    ∙ ap (λ (s : Symbol). stroke s from_above (is_joined_on f lines line)) (within_is f lines line lt)
    ∙ ap (λ (t : Bool). stroke (f line) t (is_joined_on f lines line)) is
