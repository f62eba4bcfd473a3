-- One gate more, and its lines; one line more of a set.
use Rattle.std.proofs.Common.{◌≡◌, ℕ, ◌+◌, ◌<◌, List, [], ◌∷◌, ◌++◌, length, take, get_or, refl, ap, sym, ◌∙◌, arith, true, false, cond, add-one, inl, inr, true≢false}
use Rattle.std.specs.Prelude.{bit_or}
use Rattle.std.proofs.lemmas.Bool.{cases_eq, cond-true, cond-false}
use Rattle.std.proofs.lemmas.Nat.{or_comm}
use Rattle.std.proofs.lemmas.List.{take_more}
use Rattle.std.proofs.lemmas.List.Elements.{All-nil, All-push, Contains-append_left, Contains-push}
use Rattle.rv_gate.specs.declared.gate.Shape.{Shape}
use Rattle.rv_gate.specs.Word.{has}
use Rattle.rv_gate.specs.Gate.{touched}
use Rattle.rv_gate.proofs.LineSets.{bit_or-assoc}
use Rattle.rv_mct.specs.Blocks.{count}
use Rattle.rv_mct.proofs.Rising.{count-suc}
use Rattle.rv_search.specs.Lines.{ListsTo, span}

-- ---- the lines of gates

or_zero : (x : ℕ) → bit_or x 0 ≡ bit_or 0 x
or_zero x = or_comm x 0

span_push : (gates : List Shape) (g : Shape) → span (gates ++ g ∷ []) ≡ bit_or (span gates) (touched g)
unfolding span
span_push [] g = or_zero (touched g)
span_push (h ∷ rest) g = ap (bit_or (touched h)) (span_push rest g) ∙ bit_or-assoc (touched h) (span rest) (touched g)

pub span_none : (gates : List Shape) → 0 ≡ span (take 0 gates)
unfolding span
span_none gates = refl

-- one gate more, and its lines
pub span_more : (gates : List Shape) (k : ℕ) (g : Shape) (set more : ℕ) → k < length gates → g ≡ get_or gates k g
    → more ≡ touched g
    → set ≡ span (take k gates) → bit_or set more ≡ span (take (k + 1) gates)
span_more gates k g set more lt at is so_far =
    rw (so_far, is) (sym (span_push (take k gates) g) ∙ ap (λ h. span (take k gates ++ h ∷ [])) at ∙ ap span (sym
    (take_more gates k g lt)))

-- ---- how many lines a set has

-- how many lines of a set are below one
pub count_on : (set line n : ℕ) → has set line ≡ true → n ≡ count (has set) line → n + 1 ≡ count (has set) (line + 1)
count_on set line n on is =
    let one : cond {A = ℕ} (has set line) 1 0 ≡ 1 = cond-true (has set line) 1 0 on in
    omega (arith, ap (count (has set)) (add-one line), count-suc (has set) line)

pub count_off : (set line n : ℕ) → has set line ≡ false → n ≡ count (has set) line → n ≡ count (has set) (line + 1)
count_off set line n off is =
    let none : cond {A = ℕ} (has set line) 1 0 ≡ 0 = cond-false (has set line) 1 0 off in
    omega (arith, ap (count (has set)) (add-one line), count-suc (has set) line)

-- ---- lines in a list

pub lists_none : (set : ℕ) (lines : List ℕ) → ListsTo set 0 (take 0 lines)
lists_none set lines = record { each = λ line lt on. absurd (omega arith); below = All-nil (λ line. line < 64) }

pub lists_more : (set end : ℕ) (lines : List ℕ) → end < 64 → ListsTo set end lines
    → ListsTo set (end + 1) (lines ++ end ∷ [])
lists_more set end lines lt h = record {
  each = λ line below on.
      elim (cases_eq line end) [
        | inl e ↦ rw e (Contains-push lines end)
        | inr ne ↦ Contains-append_left lines (end ∷ []) line (h.each line (omega arith) on)
      ];
  below = All-push (λ line. line < 64) lines end h.below lt;
}

pub lists_same : (set end : ℕ) (lines : List ℕ) → has set end ≡ false → ListsTo set end lines
    → ListsTo set (end + 1) lines
lists_same set end lines off h = record {
  each = λ line below on.
      elim (cases_eq line end) [
        | inl e ↦ absurd (true≢false (sym on ∙ ap (has set) e ∙ off))
        | inr ne ↦ h.each line (omega arith) on
      ];
  below = h.below;
}
