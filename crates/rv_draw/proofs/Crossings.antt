-- On which lines `┼` stands.
use Rattle.std.proofs.Common.{◌≡◌, ◌↔◌, ℕ, ◌<◌, ◌^◌, Bool, true, false, ◌||◌, nat_eq, refl, sym, ap, ◌∙◌}
use Rattle.std.proofs.Common.{inl, inr, arith, true≢false}
use Rattle.std.proofs.lemmas.Bool.{cases_eq, false≢true}
use Rattle.rv_gate.specs.Word.{has}
use Rattle.rv_gate.specs.Gate.{touched, touches}
use Rattle.rv_gate.specs.declared.gate.Shape.{Shape}
use Rattle.rv_gate.specs.declared.gate.Shape.TheVariants.{Flip, Swap, Peres}
use Rattle.rv_gate.proofs.inside.GateLemmas.{has-touched}
use Rattle.rv_draw.specs.declared.symbol.Symbol.{Symbol}
use Rattle.rv_draw.specs.declared.symbol.Symbol.TheVariants.{Wire, Crossing, Positive, Negative, Target, Exchanged}
use Rattle.rv_draw.specs.declared.symbol.Symbol.TheVariants.{Middle, Zero, One, Wall}
use Rattle.rv_draw.specs.declared.symbol.Symbol.TheVariants as symbols
use Rattle.rv_draw.specs.Reading.{is_right, is_touched}
use Rattle.rv_draw.specs.Symbols.{IsCrossed, is_between, symbol_on}
use Rattle.rv_draw.proofs.Passing.{IsPassed, between_passed, passed_between}
use Rattle.rv_draw.proofs.SymbolKinds.{peres_right, peres_touched, right_kind, touched_kind}
use Rattle.rv_gate.proofs.Bits.{or_assoc, below_power}

-- the lines on which a gate draws more than a wire or a crossing are those that it touches
pub touched_drawn : (gate : Shape) (line : ℕ) → is_touched (symbol_on gate line) ≡ touches gate line
touched_drawn (Flip care want t) i =
    touched_kind Target refl (nat_eq i t) (has care i) (has want i) (is_between (touched (Flip care want t)) i)
touched_drawn (Swap care want a b) i =
    touched_kind Exchanged refl (nat_eq i a || nat_eq i b) (has care i) (has want i) (is_between (touched (Swap care want a b)) i)
    ∙ or_assoc (has care i) (nat_eq i a) (nat_eq i b)
touched_drawn (Peres a b c) i = peres_touched (nat_eq i a) (nat_eq i b) (nat_eq i c) (is_between (touched (Peres a b c)) i)

-- on the others it draws a crossing where it passes
pub right_drawn : (gate : Shape) (line : ℕ) → is_right (is_between (touched gate) line) (symbol_on gate line) ≡ true
right_drawn (Flip care want t) i =
    right_kind Target (λ b. refl) (nat_eq i t) (has care i) (has want i) (is_between (touched (Flip care want t)) i)
right_drawn (Swap care want a b) i =
    right_kind Exchanged (λ b. refl) (nat_eq i a || nat_eq i b) (has care i) (has want i) (is_between (touched (Swap care want a b)) i)
right_drawn (Peres a b c) i = peres_right (nat_eq i a) (nat_eq i b) (nat_eq i c) (is_between (touched (Peres a b c)) i)

crossing-by : (s : Symbol) (passed : Bool) → passed ≡ true → is_touched s ≡ false → is_right passed s ≡ true → s ≡ Crossing
crossing-by Crossing passed on untouched right = refl
crossing-by Wire true on untouched right = absurd (false≢true right)
crossing-by Wire false on untouched right = absurd (false≢true on)
crossing-by Positive passed on untouched right = absurd (true≢false untouched)
crossing-by Negative passed on untouched right = absurd (true≢false untouched)
crossing-by Target passed on untouched right = absurd (true≢false untouched)
crossing-by Exchanged passed on untouched right = absurd (true≢false untouched)
crossing-by Middle passed on untouched right = absurd (true≢false untouched)
crossing-by Zero passed on untouched right = absurd (true≢false untouched)
crossing-by One passed on untouched right = absurd (true≢false untouched)
crossing-by Wall passed on untouched right = absurd (true≢false untouched)
crossing-by symbols.H passed on untouched right = absurd (true≢false untouched)
crossing-by symbols.T passed on untouched right = absurd (true≢false untouched)
crossing-by symbols.Tdg passed on untouched right = absurd (true≢false untouched)
crossing-by symbols.S passed on untouched right = absurd (true≢false untouched)
crossing-by symbols.Sdg passed on untouched right = absurd (true≢false untouched)
crossing-by symbols.Z passed on untouched right = absurd (true≢false untouched)
crossing-by symbols.Y passed on untouched right = absurd (true≢false untouched)

crossed : (gate : Shape) (line : ℕ) → symbol_on gate line ≡ Crossing → IsCrossed gate line
crossed gate line is =
    let untouched : touches gate line ≡ false = sym (touched_drawn gate line) ∙ ap is_touched is in
    let over : is_between (touched gate) line ≡ true = ap (is_right (is_between (touched gate) line)) (sym is) ∙ right_drawn gate line in
    let passed : IsPassed (touched gate) line = between_passed (touched gate) line (touched gate) (below_power (touched gate)) over in
    record {
      untouched = untouched;
      above = passed.above;
      is_above = passed.is_above;
      touches_above = sym (has-touched gate passed.above) ∙ passed.has_above;
      below = passed.below;
      is_below = elim (cases_eq line passed.below) [
        | inl same ↦ absurd (true≢false (sym passed.has_below ∙ ap (has (touched gate)) (sym same) ∙ has-touched gate line ∙ untouched))
        | inr other ↦ let below = passed.is_below in omega arith
      ];
      touches_below = sym (has-touched gate passed.below) ∙ passed.has_below;
    }

crossing : (gate : Shape) (line : ℕ) → IsCrossed gate line → symbol_on gate line ≡ Crossing
crossing gate line is =
    let passed : IsPassed (touched gate) line = record {
      above = is.above;
      is_above = is.is_above;
      has_above = has-touched gate is.above ∙ is.touches_above;
      below = is.below;
      is_below = let lt = is.is_below in omega arith;
      has_below = has-touched gate is.below ∙ is.touches_below;
    } in
    crossing-by (symbol_on gate line) (is_between (touched gate) line) (passed_between (touched gate) line passed)
    (touched_drawn gate line ∙ is.untouched) (right_drawn gate line)

pub crossing_iff : (gate : Shape) (line : ℕ) → (symbol_on gate line ≡ Crossing) ↔ IsCrossed gate line
crossing_iff gate line = (crossed gate line, crossing gate line)
