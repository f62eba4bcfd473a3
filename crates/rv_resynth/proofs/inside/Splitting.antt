-- Gates that are brought together, and others in their place.
use Rattle.std.proofs.Common.{◌≡◌, ℕ, ◌≤◌, ◌+◌, ◌-◌, List, [], ◌∷◌, ◌++◌, length, take, drop, refl, sym, ◌∙◌, ap, append_assoc, arith}
use Rattle.std.specs.Prelude.{All}
use Rattle.std.proofs.Math.Seq.{take-append_seam, take-append-add, drop-append_seam, drop-append-add}
use Rattle.std.proofs.lemmas.List.{take-append-drop, length-append, length-drop, length-take-le}
use Rattle.std.proofs.lemmas.List.Elements.{All-head, All-tail, All-append, All-push, All-take, All-drop}
use Rattle.rv_gate.specs.declared.gate.Shape.{Shape}
use Rattle.rv_gate.specs.declared.circuit.TheConstants.{MOST_GATES}
use Rattle.rv_gate.specs.Gate.{act, run, IsGate, FitsIn, AllFit}
use Rattle.rv_gate.specs.Commuting.{Commutes}
use Rattle.rv_gate.proofs.inside.GateLemmas.{length-act, length-run, run-append}
use Rattle.rv_resynth.specs.Same.{Same}
use Rattle.rv_resynth.specs.inside.Windows.{AreGates, Splits, CanReplace, Replaces}

-- ---- lists of gates that do the same

pub same_refl : (n : ℕ) (gates : List Shape) → Same n gates gates
same_refl n gates word len = refl

pub same_trans : (n : ℕ) (a b d : List Shape) → Same n a b → Same n b d → Same n a d
same_trans n a b d h k word len = h word len ∙ k word len

pub same_equal : (n : ℕ) (a b : List Shape) → a ≡ b → Same n a b
same_equal n a b e word len = ap (λ gates. run gates word) e

pub same_append : (n : ℕ) (a a2 b b2 : List Shape) → Same n a a2 → Same n b b2 → Same n (a ++ b) (a2 ++ b2)
same_append n a a2 b b2 h k word len =
    run-append a b word ∙ ap (run b) (h word len) ∙ k (run a2 word) (length-run a2 word ∙ len)
    ∙ sym (run-append a2 b2 word)

-- ---- lists of gates

pub gates_append : (n : ℕ) (a b : List Shape) → AreGates n a → AreGates n b → AreGates n (a ++ b)
gates_append n a b h k =
    record {
      valid = All-append IsGate a b h.valid k.valid;
      fitting = All-append
          (λ gate. FitsIn gate n) a b h.fitting k.fitting;
    }

pub gates_push : (n : ℕ) (gates : List Shape) (g : Shape) → AreGates n gates → IsGate g → FitsIn g n
    → AreGates n (gates ++ g ∷ [])
gates_push n gates g h valid fits =
    record {
      valid = All-push IsGate gates g h.valid valid;
      fitting = All-push
          (λ gate. FitsIn gate n) gates g h.fitting fits;
    }

pub gates_take : (n k : ℕ) (gates : List Shape) → AreGates n gates → AreGates n (take k gates)
gates_take n k gates h =
    record { valid = All-take IsGate k gates h.valid; fitting = All-take (λ gate. FitsIn gate n) k gates h.fitting }

pub gates_drop : (n k : ℕ) (gates : List Shape) → AreGates n gates → AreGates n (drop k gates)
gates_drop n k gates h =
    record { valid = All-drop IsGate k gates h.valid; fitting = All-drop (λ gate. FitsIn gate n) k gates h.fitting }

-- ---- a gate that is brought before others

-- it commutes with each of them
pub past : (n : ℕ) (g : Shape) (passed : List Shape) → FitsIn g n → AllFit n passed
    → All (λ other. Commutes other g) passed → Same n (passed ++ g ∷ []) (g ∷ passed)
past n g [] fits fitting h word len = refl
past n g (p ∷ rest) fits fitting h word len =
    past n g rest fits (All-tail (λ gate. FitsIn gate n) p rest fitting) (All-tail
    (λ other. Commutes other g) p rest h) (act p word) (length-act p word ∙ len)
    ∙ ap (run rest) (All-head (λ other. Commutes other g) p rest h word (rw len (All-head
    (λ gate. FitsIn gate n) p rest fitting)) (rw len fits))

-- a gate more is passed over
pub splits_pass : (n : ℕ) (gates window passed : List Shape) (g : Shape) → IsGate g → FitsIn g n
    → Splits n gates window passed → Splits n (gates ++ g ∷ []) window (passed ++ g ∷ [])
splits_pass n gates window passed g valid fits s = record {
  same = same_trans n (gates ++ g ∷ []) ((window ++ passed) ++ g ∷ []) (window ++ (passed ++ g ∷ []))
      (same_append n gates (window ++ passed) (g ∷ []) (g ∷ []) s.same (same_refl n (g ∷ [])))
      (same_equal n _ _ (append_assoc window passed (g ∷ [])));
  window_gates = s.window_gates;
  passed_gates = gates_push n passed g s.passed_gates valid fits;
}

-- a gate more is taken, past all that were passed over
pub splits_take : (n : ℕ) (gates window passed : List Shape) (g : Shape) → IsGate g → FitsIn g n
    → All (λ other. Commutes other g) passed → Splits n gates window passed
    → Splits n (gates ++ g ∷ []) (window ++ g ∷ []) passed
splits_take n gates window passed g valid fits commute s = record {
  same =
      same_trans n (gates ++ g ∷ []) ((window ++ passed) ++ g ∷ []) ((window ++ g ∷ []) ++ passed)
      (same_append n gates (window ++ passed) (g ∷ []) (g ∷ []) s.same (same_refl n (g ∷ [])))
      (same_trans n ((window ++ passed) ++ g ∷ []) (window ++ (passed ++ g ∷ [])) ((window ++ g ∷ []) ++ passed)
      (same_equal n _ _ (append_assoc window passed (g ∷ [])))
      (same_trans n (window ++ (passed ++ g ∷ [])) (window ++ (g ∷ passed)) ((window ++ g ∷ []) ++ passed)
      (same_append n window window (passed ++ g ∷ []) (g ∷ passed) (same_refl n window)
      (past n g passed fits s.passed_gates.fitting commute))
      (same_equal n _ _ (sym (append_assoc window (g ∷ []) passed)))));
  window_gates = gates_push n window g s.window_gates valid fits;
  passed_gates = s.passed_gates;
}

-- ---- others in the place of a window

-- a list in three parts
parts : (gates : List Shape) (from count : ℕ)
    → gates ≡ take from gates ++ (take count (drop from gates) ++ drop count (drop from gates))
parts gates from count =
    sym (ap (λ rest. take from gates ++ rest) (take-append-drop count (drop from gates)) ∙ take-append-drop from gates)

pub replaced_by : (n : ℕ) (gates : List Shape) (from count : ℕ) (window passed new : List Shape) → AreGates n gates
    → Splits n (take count (drop from gates)) window passed → CanReplace n window new
    → length (take from gates ++ (new ++ (passed ++ drop count (drop from gates)))) ≤ MOST_GATES
    → Replaces n gates (take from gates ++ (new ++ (passed ++ drop count (drop from gates))))
replaced_by n gates from count window passed new are s r few =
    let before : List Shape = take from gates in
    let part : List Shape = take count (drop from gates) in
    let after : List Shape = drop count (drop from gates) in
    let result : List Shape = before ++ (new ++ (passed ++ after)) in
    let turned : Same n part (new ++ passed) =
    same_trans n part (window ++ passed) (new ++ passed) s.same (same_append n window new passed passed
    (r.same n s.window_gates.fitting r.gates.fitting) (same_refl n passed)) in
    let all : Same n (before ++ (part ++ after)) (before ++ ((new ++ passed) ++ after)) =
    same_append n before before (part ++ after) ((new ++ passed) ++ after) (same_refl n before) (same_append n part
    (new ++ passed) after after turned (same_refl n after)) in
    record {
      gates = gates_append n before _ (gates_take n from gates are) (gates_append n new _ r.gates
          (gates_append n passed after s.passed_gates (gates_drop n count (drop from gates)
          (gates_drop n from gates are))));
      same = same_trans n gates (before ++ (part ++ after)) result (same_equal n gates (before ++ (part ++ after))
          (parts gates from count))
          (same_trans n (before ++ (part ++ after)) (before ++ ((new ++ passed) ++ after)) result all
          (same_equal n (before ++ ((new ++ passed) ++ after)) result (ap (λ rest. before ++ rest)
          (append_assoc new passed after))));
      few = few;
    }

-- the same where there is room
pub replaced_in_room : (n : ℕ) (gates : List Shape) (from count : ℕ) (window passed new : List Shape) → AreGates n gates
    → from ≤ length gates → count ≤ length (drop from gates) → Splits n (take count (drop from gates)) window passed
    → CanReplace n window new → length gates + length new + length passed ≤ MOST_GATES + count
    → Replaces n gates (take from gates ++ (new ++ (passed ++ drop count (drop from gates))))
replaced_in_room n gates from count window passed new are within fits s r room =
    let before : List Shape = take from gates in
    let after : List Shape = drop count (drop from gates) in
    replaced_by n gates from count window passed new are s r (omega
    (arith, length-append before (new ++ (passed ++ after)), length-append new (passed ++ after), length-append passed after, length-take-le from gates within, length-drop count (drop from gates), length-drop from gates))

-- ---- all gates at once

pub replaces_whole : (n : ℕ) (gates new : List Shape) → AreGates n gates → CanReplace n gates new
    → length new ≤ MOST_GATES → Replaces n gates new
replaces_whole n gates new are r few =
    record { gates = r.gates; same = r.same n are.fitting r.gates.fitting; few = few }

pub replaces_more : (n : ℕ) (a b d : List Shape) → Replaces n a b → Replaces n b d → Replaces n a d
replaces_more n a b d h k = record { gates = k.gates; same = same_trans n a b d h.same k.same; few = k.few }

pub replaces_self : (n : ℕ) (gates : List Shape) → AreGates n gates → length gates ≤ MOST_GATES
    → Replaces n gates gates
replaces_self n gates are few = record { gates = are; same = same_refl n gates; few = few }

-- ---- a window that is turned to the end of a list, and goes

turned_end : (before window after : List Shape)
    → drop (length before + length window) (before ++ (window ++ after)) ≡ after
turned_end before window after =
    drop-append-add before (window ++ after) (length window) ∙ drop-append_seam window after

turned_start : (before window after : List Shape)
    → take (length before + length window) (before ++ (window ++ after)) ≡ before ++ window
turned_start before window after =
    take-append-add before (window ++ after) (length window) ∙ ap (λ l. before ++ l) (take-append_seam window after)

left_over : (before window after : List Shape)
    → take (length after + length before) (after ++ (before ++ window)) ≡ after ++ before
left_over before window after =
    take-append-add after (before ++ window) (length before) ∙ ap (λ l. after ++ l) (take-append_seam before window)

put_back : (before after new passed : List Shape)
    → drop (length after) (((after ++ before) ++ new) ++ passed)
    ++ take (length after) (((after ++ before) ++ new) ++ passed) ≡ before ++ (new ++ (passed ++ after))
put_back before after new passed =
    let rest : List Shape = before ++ (new ++ passed) in
    let e : ((after ++ before) ++ new) ++ passed ≡ after ++ rest =
    ap (λ l. l ++ passed) (append_assoc after before new) ∙ append_assoc after (before ++ new) passed
    ∙ ap (λ l. after ++ l) (append_assoc before new passed) in
    ap (λ l. drop (length after) l ++ take (length after) l) e
    ∙ ap (λ l. l ++ take (length after) (after ++ rest)) (drop-append_seam after rest)
    ∙ ap (λ l. rest ++ l) (take-append_seam after rest)
    ∙ append_assoc before (new ++ passed) after ∙ ap (λ l. before ++ l) (append_assoc new passed after)

-- and others in its place
pub in_place : (gates new passed : List Shape) (from count end rest : ℕ) → from ≤ length gates
    → count ≤ length (drop from gates) → end ≡ from + count → rest ≡ length gates - end
    → drop rest ((take (rest + from) (drop end gates ++ take end gates) ++ new) ++ passed)
    ++ take rest ((take (rest + from) (drop end gates ++ take end gates) ++ new) ++ passed)
    ≡ take from gates ++ (new ++ (passed ++ drop count (drop from gates)))
in_place gates new passed from count end rest within fits is_end is_rest =
    let before : List Shape = take from gates in
    let window : List Shape = take count (drop from gates) in
    let after : List Shape = drop count (drop from gates) in
    let whole : gates ≡ before ++ (window ++ after) = parts gates from count in
    let long_before : length before ≡ from = length-take-le from gates within in
    let long_window : length window ≡ count = length-take-le count (drop from gates) fits in
    let long_after : length after ≡ rest = omega
    (arith, length-drop count (drop from gates), length-drop from gates) in
    let to_end : end ≡ length before + length window = omega arith in
    let to_rest : rest + from ≡ length after + length before = omega arith in
    let ended : drop end gates ≡ after =
    ap (drop end) whole ∙ ap (λ k. drop k (before ++ (window ++ after))) to_end ∙ turned_end before window after in
    let started : take end gates ≡ before ++ window =
    ap (take end) whole ∙ ap (λ k. take k (before ++ (window ++ after))) to_end ∙ turned_start before window after in
    let left : take (rest + from) (drop end gates ++ take end gates) ≡ after ++ before =
    ap (λ l. take (rest + from) (l ++ take end gates)) ended ∙ ap (λ l. take (rest + from) (after ++ l)) started
    ∙ ap (λ k. take k (after ++ (before ++ window))) to_rest ∙ left_over before window after in
    ap (λ l. drop rest ((l ++ new) ++ passed) ++ take rest ((l ++ new) ++ passed)) left
    ∙ ap (λ k. drop k (((after ++ before) ++ new) ++ passed) ++ take k (((after ++ before) ++ new) ++ passed))
    (sym long_after) ∙ put_back before after new passed
