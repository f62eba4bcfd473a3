-- The flips of a turning are those that are due, one after the other, and no others.
use Rattle.std.proofs.Common.{◌≡◌, ◌≢◌, ℕ, zero, suc, ◌+◌, ◌<◌, Bool, true, false, not, List, [], ◌∷◌, length, refl, ap, inl, inr, arith}
use Rattle.std.specs.Prelude.{◌↔◌}
use Rattle.std.proofs.lemmas.Bool.{cases_eq, cases_Bool}
use Rattle.rv_gate.specs.Word.{bit_of}
use Rattle.rv_gate.specs.Gate.{flip, run}
use Rattle.rv_gate.specs.declared.gate.Shape.{Shape}
use Rattle.rv_gate.specs.declared.gate.Shape.TheVariants.{Flip}
use Rattle.rv_gate.proofs.inside.GateLemmas.{length-run}
use Rattle.rv_tbs.specs.Synthesis.{due_flips, is_set_due, set_controls, is_clear_due, clear_controls, set_flips, clear_flips, turning}
use Rattle.rv_tbs.specs.Turned.{IsNextDue, AreDueFlips, AreTurning}
use Rattle.rv_tbs.proofs.Ones.{bit_of-flip_same, bit_of-flip_other, length-flip}

-- a line that was flipped is due no longer
abbrev IsDueOnce : (ℕ → Bool → Bool) → Type 0
IsDueOnce due = (line : ℕ) (bit : Bool) → due line bit ≡ true → due line (not bit) ≡ false

-- no line below this one is due
abbrev NoneBelow : (ℕ → Bool → Bool) → ℕ → List Bool → Type 0
NoneBelow due line word = (other : ℕ) → other < line → due other (bit_of word other) ≡ false

none_below_more : (due : ℕ → Bool → Bool) (line : ℕ) (word : List Bool) → NoneBelow due line word → due line (bit_of word line) ≡ false → NoneBelow due (line + 1) word
none_below_more due line word none off other lt = elim (cases_eq other line) [
  | inl at ↦ rw at off
  | inr ne ↦ none other (omega arith)
]

none_below_flip : (due : ℕ → Bool → Bool) (line : ℕ) (word : List Bool) → IsDueOnce due → line < length word → NoneBelow due line word → due line (bit_of word line) ≡ true
    → NoneBelow due (line + 1) (flip word line)
none_below_flip due line word once within none on = none_below_more due line (flip word line)
    (λ other lt. (let ne : other ≢ line = omega arith in rw (bit_of-flip_other word line other ne) (none other lt)))
    (rw (bit_of-flip_same word line within) (once line (bit_of word line) on))

are_due : (due : ℕ → Bool → Bool) (controls : List Bool → ℕ → ℕ) → IsDueOnce due → (m line : ℕ) (word : List Bool) → line + m ≡ length word → NoneBelow due line word
    → AreDueFlips due controls word (due_flips due controls line m word)
unfolding due_flips
are_due due controls once zero line word len none = λ other lt. none other (omega arith)
are_due due controls once (suc m) line word len none = elim (cases_Bool (due line (bit_of word line))) [
  | inl on ↦ rw on (
    line,
    record { within = omega arith; asked = on; first = none },
    refl,
    are_due due controls once m (line + 1) (flip word line) (omega (arith, length-flip word line)) (none_below_flip due line word once (omega arith) none on),
  )
  | inr off ↦ rw off (are_due due controls once m (line + 1) word (omega arith) (none_below_more due line word none off))
]

-- the lowest line that is due, where none below this one is
next_is : (due : ℕ → Bool → Bool) (word : List Bool) (line at : ℕ) → NoneBelow due line word → due line (bit_of word line) ≡ true → IsNextDue due word at → at ≡ line
next_is due word line at none on next = grind arith

due_alone : (due : ℕ → Bool → Bool) (controls : List Bool → ℕ → ℕ) → IsDueOnce due → (m line : ℕ) (word : List Bool) → line + m ≡ length word → NoneBelow due line word
    → (gates : List Shape) → AreDueFlips due controls word gates → gates ≡ due_flips due controls line m word
unfolding due_flips
due_alone due controls once zero line word len none [] h = refl
due_alone due controls once zero line word len none (gate ∷ gates) h =
    let next = h.1 in absurd (let off = none h.0 (omega (arith, next.within)) in let on = next.asked in cc)
due_alone due controls once (suc m) line word len none [] h =
    let off = h line (omega arith) in rw off (due_alone due controls once m (line + 1) word (omega arith) (none_below_more due line word none off) [] h)
due_alone due controls once (suc m) line word len none (gate ∷ gates) h = elim (cases_Bool (due line (bit_of word line))) [
  | inl on ↦ (let at : h.0 ≡ line = next_is due word line h.0 none on h.1 in
      rw (on, h.2, at) (ap (λ (gs : List Shape). Flip (controls word line) (controls word line) line ∷ gs)
      (due_alone due controls once m (line + 1) (flip word line) (omega (arith, length-flip word line)) (none_below_flip due line word once (omega arith) none on) gates (rw at at h.3))))
  | inr off ↦ rw off (due_alone due controls once m (line + 1) word (omega arith) (none_below_more due line word none off) (gate ∷ gates) h)
]

set_once : (goal : List Bool) → IsDueOnce (is_set_due goal)
set_once goal line bit h = grind arith

clear_once : (goal : List Bool) → IsDueOnce (is_clear_due goal)
clear_once goal line bit h = grind arith

none_below_first : (due : ℕ → Bool → Bool) (word : List Bool) → NoneBelow due 0 word
none_below_first due word other lt = absurd (omega arith)

are_turning : (goal word : List Bool) → length word ≡ length goal → AreTurning goal word (turning goal word)
unfolding turning set_flips clear_flips
are_turning goal word len = record {
  sets = set_flips goal word;
  clears = clear_flips goal (run (set_flips goal word) word);
  gates_are = refl;
  set = are_due (is_set_due goal) set_controls (set_once goal) (length goal) 0 word (omega arith) (none_below_first (is_set_due goal) word);
  cleared = are_due (is_clear_due goal) (clear_controls goal) (clear_once goal) (length goal) 0 (run (set_flips goal word) word)
      (omega (arith, length-run (set_flips goal word) word)) (none_below_first (is_clear_due goal) (run (set_flips goal word) word));
}

turning_alone : (goal word : List Bool) → length word ≡ length goal → (gates : List Shape) → AreTurning goal word gates → gates ≡ turning goal word
unfolding turning set_flips clear_flips
turning_alone goal word len gates h =
    grind (
      arith,
      set_flips,
      due_alone,
      is_set_due,
      set_controls,
      set_once,
      none_below_first,
      clear_flips,
      is_clear_due,
      clear_controls,
      clear_once,
      length-run,
    )

pub AreTurning-turning : (goal word : List Bool) (gates : List Shape) → length word ≡ length goal → AreTurning goal word gates ↔ (gates ≡ turning goal word)
AreTurning-turning goal word gates len = (turning_alone goal word len gates, λ e. rw e (are_turning goal word len))
