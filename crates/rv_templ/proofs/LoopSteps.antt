-- Steps of the loops over gates and lines.
use Rattle.std.proofs.Common.{arith}
use Rattle.std.proofs.lemmas.Grind.{common_steps}
use Rattle.std.proofs.Common.{◌≡◌, ℕ, ◌+◌, ◌*◌, ◌%◌, ◌^◌, ◌<◌, ◌≤◌, true, false, cond, ◌||◌, List, length, get_or, ◌∙◌, ap}
use Rattle.std.specs.Prelude.{bit_or, count_ones}
use Rattle.std.proofs.lemmas.Nat.{one_shl, ones-le}
use Rattle.std.proofs.lemmas.List.{get_or_read}
use Rattle.rv_gate.specs.declared.word.TheConstants.{MOST_LINES}
use Rattle.rv_gate.proofs.LineSets.{has-none, has-or, same_lines}
use Rattle.rv_templ.specs.Gates.{gate_in}
use Rattle.rv_gate.specs.Gate.{touched}
use Rattle.rv_gate.specs.Word.{has}
use Rattle.rv_gate.specs.declared.gate.Shape.{Shape}
use Rattle.rv_gate.specs.declared.gate.Shape.TheVariants.{Peres}
use Rattle.std.proofs.lemmas.Bool.{cond-true, cond-false}
use Rattle.rv_templ.specs.Folds.{union_below}
use Rattle.rv_templ.specs.Images.{new_line}
use Rattle.rv_templ.proofs.inside.FoldLemmas.{union_more}
use Rattle.rv_gate.proofs.Bits.{or_false}

pub gate_read : (gates : List Shape) (j : ℕ) (g : Shape) → j < length gates → g ≡ get_or gates j g → g ≡ gate_in gates j
gate_read gates j g h e = get_or_read gates j g h e (Peres 0 0 0)

pub span_more : (gates : List Shape) (set j lines : ℕ) (g : Shape) → set ≡ union_below (λ k. touched (gate_in gates k)) j → j < length gates → g ≡ get_or gates j g
    → lines ≡ touched g → bit_or set lines ≡ union_below (λ k. touched (gate_in gates k)) (j + 1)
span_more gates set j lines g e h r l = grind (arith, bit_or, union_below, gate_in, gate_read, union_more)

pub size_small : (n : ℕ) → n < 2 ^ 64 → count_ones n ≤ 64
size_small n h = ones-le 64 n h

abbrev pub place : List ℕ → ℕ → ℕ → ℕ
place to set i = cond (has set i) (2 ^ new_line to i) 0

pub renamed_on : (to : List ℕ) (set lines i : ℕ) → lines ≡ union_below (place to set) i → has set i ≡ true → new_line to i < MOST_LINES
    → bit_or lines (1 * 2 ^ new_line to i % 2 ^ 64) ≡ union_below (place to set) (i + 1)
renamed_on to set lines i e held h =
    grind (arith, common_steps, bit_or, one_shl, new_line, union_below, cond-true, union_more)

or_zero : (n : ℕ) → bit_or n 0 ≡ n
or_zero n = same_lines (bit_or n 0) n (λ line. has-or n 0 line ∙ ap (λ b. has n line || b) (has-none line) ∙ or_false (has n line))

pub renamed_off : (to : List ℕ) (set lines i : ℕ) → lines ≡ union_below (place to set) i → has set i ≡ false → lines ≡ union_below (place to set) (i + 1)
renamed_off to set lines i e off = grind (arith, or_zero, union_below, bit_or, cond-false, new_line, union_more)
