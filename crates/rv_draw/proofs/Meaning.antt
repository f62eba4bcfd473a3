-- The gates that a drawing shows do what the circuit's gates do.
use Rattle.std.proofs.Common.{◌≡◌, Bool, List, [], ◌∷◌, map, nat_lt, refl, sym, ap, ◌∙◌, inl, inr}
use Rattle.std.specs.Prelude.{All}
use Rattle.std.proofs.lemmas.Bool.{cases_Bool}
use Rattle.std.proofs.lemmas.List.{set_comm}
use Rattle.std.proofs.lemmas.List.Elements.{All-head, All-tail}
use Rattle.rv_gate.specs.Word.{bit_of}
use Rattle.rv_gate.specs.Gate.{IsGate, act, exchanged, run}
use Rattle.rv_gate.specs.declared.gate.Shape.{Shape}
use Rattle.rv_gate.specs.declared.gate.Shape.TheVariants.{Flip, Swap, Peres}
use Rattle.rv_draw.specs.Reading.{from_top}

-- the order of a swap's targets doesn't matter
same_gate : (gate : Shape) (word : List Bool) → IsGate gate → act (from_top gate) word ≡ act gate word
same_gate (Flip care want target) word is = refl
same_gate (Peres a b c) word is = refl
same_gate (Swap care want a b) word is =
    let swapped : exchanged word b a ≡ exchanged word a b = set_comm word b a (bit_of word a) (bit_of word b) (λ e. is.2 (sym e)) in
    elim (cases_Bool (nat_lt a b)) [
      | inl less ↦ rw less refl
      | inr more ↦ rw (more, swapped) refl
    ]

pub same_run : (gates : List Shape) (word : List Bool) → All IsGate gates → run (map from_top gates) word ≡ run gates word
same_run [] word are = refl
same_run (gate ∷ gates) word are =
    ap (run (map from_top gates)) (same_gate gate word (All-head IsGate gate gates are)) ∙ same_run gates (act gate word) (All-tail IsGate gate gates are)
