-- The column that a gate draws shows the gate.
use Rattle.std.proofs.Common.{◌≡◌, ◌≢◌, ℕ, zero, suc, ◌+◌, ◌<◌, ◌≤◌, Bool, if◌then◌else◌, true, false, ◌||◌, List, [], ◌∷◌, map, nat_eq, Some, refl}
use Rattle.std.proofs.Common.{sym, ap, ◌∙◌, inl, inr, arith, ne_eqb, true≢false}
use Rattle.std.specs.List.{list_all, range_with_len}
use Rattle.std.proofs.lemmas.Bool.{cases_Bool, cases_lt, eqb-true, le-ltb, lt-ltb, or_left}
use Rattle.rv_gate.specs.Word.{has}
use Rattle.rv_gate.specs.Gate.{FitsIn, IsGate, touched}
use Rattle.rv_gate.specs.declared.gate.Shape.{Shape}
use Rattle.rv_gate.specs.declared.gate.Shape.TheVariants.{Flip, Swap, Peres}
use Rattle.rv_gate.proofs.inside.GateLemmas.{has-touched, fits_flip, fits_swap_a, fits_swap_b, fits_peres_a}
use Rattle.rv_gate.proofs.inside.GateLemmas.{fits_peres_b, fits_peres_c}
use Rattle.rv_draw.specs.declared.symbol.Symbol.{Symbol}
use Rattle.rv_draw.specs.declared.symbol.Symbol.TheVariants.{Wire, Crossing, Positive, Negative, Target, Exchanged, Middle}
use Rattle.rv_draw.specs.Symbols.{is_between, symbol_on}
use Rattle.rv_draw.specs.Reading.{gate_with, gate_of, from_top, peres_from, places, lines_with, is_control, is_positive}
use Rattle.rv_draw.specs.Reading.{is_target, is_exchanged, is_middle, is_of_gate, is_touched, are_right}
use Rattle.rv_draw.proofs.SymbolKinds.{own_kind, other_kind, control_kind, positive_kind, peres_control, peres_positive}
use Rattle.rv_draw.proofs.SymbolKinds.{peres_exchanged, peres_middle, peres_target}
use Rattle.rv_draw.proofs.Crossings.{right_drawn, touched_drawn}
use Rattle.rv_draw.proofs.Places.{places_none, places_one, places_two, lines_with_back, all_right}
use Rattle.rv_gate.proofs.Bits.{or_comm}

-- what a gate draws on so many lines
abbrev pub column_of : ℕ → Shape → List Symbol
column_of n gate = map (symbol_on gate) (range_with_len 0 n)

-- a line that is not in a set is another line
apart_from : (set a line : ℕ) → has set a ≡ false → nat_eq line a ≡ true → has set line ≡ false
apart_from set a line free is = ap (has set) (eqb-true line a is) ∙ free

-- ---- a gate draws no symbol of another kind

of_gate-kind : (own : Symbol) → is_of_gate own ≡ true → (here asked wanted between : Bool)
    → is_of_gate (if here then own else (if asked then (if wanted then Positive else Negative) else (if between then Crossing else Wire))) ≡ true
of_gate-kind own is true asked wanted between = is
of_gate-kind own is false true true between = refl
of_gate-kind own is false true false between = refl
of_gate-kind own is false false wanted true = refl
of_gate-kind own is false false wanted false = refl

of_gate-peres : (a b c between : Bool)
    → is_of_gate (if a then Positive else (if b then Middle else (if c then Target else (if between then Crossing else Wire)))) ≡ true
of_gate-peres true b c between = refl
of_gate-peres false true c between = refl
of_gate-peres false false true between = refl
of_gate-peres false false false true = refl
of_gate-peres false false false false = refl

of_gate : (gate : Shape) (line : ℕ) → is_of_gate (symbol_on gate line) ≡ true
of_gate (Flip care want t) line =
    of_gate-kind Target refl (nat_eq line t) (has care line) (has want line) (is_between (touched (Flip care want t)) line)
of_gate (Swap care want a b) line =
    of_gate-kind Exchanged refl (nat_eq line a || nat_eq line b) (has care line) (has want line) (is_between (touched (Swap care want a b)) line)
of_gate (Peres a b c) line = of_gate-peres (nat_eq line a) (nat_eq line b) (nat_eq line c) (is_between (touched (Peres a b c)) line)

all_of_gate : (gate : Shape) (line n : ℕ) → list_all is_of_gate (map (symbol_on gate) (range_with_len line n)) ≡ true
all_of_gate gate line zero = refl
all_of_gate gate line (suc n) = rw (of_gate gate line, all_of_gate gate (line + 1) n) refl

-- from the places and the sets to the gate
gate_from : (column : List Symbol) (targets exchanged middles : List ℕ) → list_all is_of_gate column ≡ true → are_right (lines_with is_touched column) 0 column ≡ true
    → places is_target 0 column ≡ targets → places is_exchanged 0 column ≡ exchanged → places is_middle 0 column ≡ middles
    → gate_of column ≡ gate_with column targets exchanged middles
gate_from column targets exchanged middles k r t e m = rw (k, r, t, e, m) refl

-- a column in which the touched lines are those of the gate, and `┼` stands on the lines that it passes
right_from : (gate : Shape) (n : ℕ) → FitsIn gate n → are_right (lines_with is_touched (column_of n gate)) 0 (column_of n gate) ≡ true
right_from gate n fits =
    let above : (i : ℕ) → n ≤ i → has (touched gate) i ≡ false =
    λ i le. (elim (cases_Bool (has (touched gate) i)) [
      | inl held ↦ absurd (let within = fits i (sym (has-touched gate i) ∙ held) in omega (arith, within))
      | inr none ↦ none
    ]) in
    ap (λ (set : ℕ). are_right set 0 (column_of n gate)) (lines_with_back is_touched (symbol_on gate) (touched gate) n (λ i. touched_drawn gate i ∙ sym (has-touched gate i)) above)
    ∙ all_right (touched gate) (symbol_on gate) 0 n (right_drawn gate)

flip_back : (care want t n : ℕ) → IsGate (Flip care want t) → FitsIn (Flip care want t) n → gate_of (column_of n (Flip care want t)) ≡ Some (Flip care want t)
flip_back care want t n is fits =
    let f : ℕ → Symbol = symbol_on (Flip care want t) in
    let lt : t < n = fits_flip (Flip care want t) care want t n refl fits in
    let on : ℕ → Bool = λ i. nat_eq i t in
    let over : ℕ → Bool = λ i. is_between (touched (Flip care want t)) i in
    let above : (i : ℕ) → n ≤ i → has care i ≡ false =
    λ i le. (elim (cases_Bool (has care i)) [ inl held ↦ absurd (let within = fits i (or_left (has care i) (nat_eq i t) held) in omega arith) | inr none ↦ none ]) in
    let above_want : (i : ℕ) → n ≤ i → has want i ≡ false =
    λ i le. (elim (cases_Bool (has want i)) [ inl held ↦ absurd (true≢false (sym (is.2 i held) ∙ above i le)) | inr none ↦ none ]) in
    let targets = places_one is_target f t 0 n (λ i. own_kind is_target Target refl refl refl refl refl (on i) (has care i) (has want i) (over i)) (omega arith) (omega (arith, lt)) in
    let exchanged = places_none is_exchanged f 0 n (λ i le. other_kind is_exchanged Target refl refl refl refl refl (on i) (has care i) (has want i) (over i)) in
    let middles = places_none is_middle f 0 n (λ i le. other_kind is_middle Target refl refl refl refl refl (on i) (has care i) (has want i) (over i)) in
    let cares = lines_with_back is_control f care n (λ i. control_kind Target refl (on i) (has care i) (has want i) (over i) (apart_from care t i is.1)) above in
    let wants = lines_with_back is_positive f want n (λ i. positive_kind Target refl (on i) (has care i) (has want i) (over i) (apart_from care t i is.1) (is.2 i)) above_want in
    let right = right_from (Flip care want t) n fits in
    gate_from (column_of n (Flip care want t)) (t ∷ []) [] [] (all_of_gate (Flip care want t) 0 n) right targets exchanged middles
    ∙ ap (λ (set : ℕ). Some (Flip set (lines_with is_positive (column_of n (Flip care want t))) t)) cares
    ∙ ap (λ (set : ℕ). Some (Flip care set t)) wants

-- a line that is one of two is not in a set that has neither
apart_from_two : (set a b line : ℕ) → has set a ≡ false → has set b ≡ false → (nat_eq line a || nat_eq line b) ≡ true → has set line ≡ false
apart_from_two set a b line free_a free_b is =
    elim (cases_Bool (nat_eq line a)) [
      | inl here ↦ apart_from set a line free_a here
      | inr other ↦ apart_from set b line free_b (rw other at is)
    ]

swap_back : (care want a b n : ℕ) → IsGate (Swap care want a b) → FitsIn (Swap care want a b) n → gate_of (column_of n (Swap care want a b)) ≡ Some (from_top (Swap care want a b))
swap_back care want a b n is fits =
    let f : ℕ → Symbol = symbol_on (Swap care want a b) in
    let lt_a : a < n = fits_swap_a (Swap care want a b) care want a b n refl fits in
    let lt_b : b < n = fits_swap_b (Swap care want a b) care want a b n refl fits in
    let on : ℕ → Bool = λ i. nat_eq i a || nat_eq i b in
    let over : ℕ → Bool = λ i. is_between (touched (Swap care want a b)) i in
    let above : (i : ℕ) → n ≤ i → has care i ≡ false =
    λ i le. (elim (cases_Bool (has care i)) [ inl held ↦ absurd (let within = fits i (or_left (has care i || nat_eq i a) (nat_eq i b) (or_left (has care i) (nat_eq i a) held)) in omega arith) | inr none ↦ none ]) in
    let above_want : (i : ℕ) → n ≤ i → has want i ≡ false =
    λ i le. (elim (cases_Bool (has want i)) [ inl held ↦ absurd (true≢false (sym (is.5 i held) ∙ above i le)) | inr none ↦ none ]) in
    let has_pair : (i : ℕ) → is_exchanged (f i) ≡ on i = λ i. own_kind is_exchanged Exchanged refl refl refl refl refl (on i) (has care i) (has want i) (over i) in
    let targets = places_none is_target f 0 n (λ i le. other_kind is_target Exchanged refl refl refl refl refl (on i) (has care i) (has want i) (over i)) in
    let middles = places_none is_middle f 0 n (λ i le. other_kind is_middle Exchanged refl refl refl refl refl (on i) (has care i) (has want i) (over i)) in
    let cares = lines_with_back is_control f care n (λ i. control_kind Exchanged refl (on i) (has care i) (has want i) (over i) (apart_from_two care a b i is.3 is.4)) above in
    let wants = lines_with_back is_positive f want n (λ i. positive_kind Exchanged refl (on i) (has care i) (has want i) (over i) (apart_from_two care a b i is.3 is.4) (is.5 i)) above_want in
    let column : List Symbol = column_of n (Swap care want a b) in
    let right = right_from (Swap care want a b) n fits in
    let sets : (x y : ℕ) → Some (Swap (lines_with is_control column) (lines_with is_positive column) x y) ≡ Some (Swap care want x y) =
    λ x y. ap (λ (set : ℕ). Some (Swap set (lines_with is_positive column) x y)) cares ∙ ap (λ (set : ℕ). Some (Swap care set x y)) wants in
    elim (cases_lt a b) [
      | inl less ↦
          gate_from column [] (a ∷ b ∷ []) [] (all_of_gate (Swap care want a b) 0 n) right targets (places_two is_exchanged f a b 0 n has_pair (omega arith) less (omega (arith, lt_b))) middles
          ∙ sets a b ∙ rw (lt-ltb a b less) refl
      | inr ge ↦
          (let more : b < a = (let differ = is.2 in omega arith) in
          gate_from column [] (b ∷ a ∷ []) [] (all_of_gate (Swap care want a b) 0 n) right targets (places_two is_exchanged f b a 0 n (λ i. has_pair i ∙ or_comm (nat_eq i a) (nat_eq i b)) (omega arith) more (omega (arith, lt_a))) middles
          ∙ sets b a ∙ rw (le-ltb a b ge) refl)
    ]

other_line : (a b line : ℕ) → a ≢ b → nat_eq line a ≡ true → nat_eq line b ≡ false
other_line a b line apart is = ne_eqb line b (λ e. apart (sym (eqb-true line a is) ∙ e))

peres_back : (a b c n : ℕ) → IsGate (Peres a b c) → FitsIn (Peres a b c) n → gate_of (column_of n (Peres a b c)) ≡ Some (Peres a b c)
peres_back a b c n is fits =
    let f : ℕ → Symbol = symbol_on (Peres a b c) in
    let column : List Symbol = column_of n (Peres a b c) in
    let lt_a : a < n = fits_peres_a (Peres a b c) a b c n refl fits in
    let lt_b : b < n = fits_peres_b (Peres a b c) a b c n refl fits in
    let lt_c : c < n = fits_peres_c (Peres a b c) a b c n refl fits in
    let over : ℕ → Bool = λ i. is_between (touched (Peres a b c)) i in
    let targets = places_one is_target f c 0 n (λ i. peres_target (nat_eq i a) (nat_eq i b) (nat_eq i c) (over i) (other_line a c i is.4) (other_line b c i is.5)) (omega arith) (omega (arith, lt_c)) in
    let exchanged = places_none is_exchanged f 0 n (λ i le. peres_exchanged (nat_eq i a) (nat_eq i b) (nat_eq i c) (over i)) in
    let middles = places_one is_middle f b 0 n (λ i. peres_middle (nat_eq i a) (nat_eq i b) (nat_eq i c) (over i) (other_line a b i is.3)) (omega arith) (omega (arith, lt_b)) in
    let positives = places_one is_positive f a 0 n (λ i. peres_positive (nat_eq i a) (nat_eq i b) (nat_eq i c) (over i)) (omega arith) (omega (arith, lt_a)) in
    let controls = places_one is_control f a 0 n (λ i. peres_control (nat_eq i a) (nat_eq i b) (nat_eq i c) (over i)) (omega arith) (omega (arith, lt_a)) in
    let right = right_from (Peres a b c) n fits in
    gate_from column (c ∷ []) [] (b ∷ []) (all_of_gate (Peres a b c) 0 n) right targets exchanged middles
    ∙ ap (λ (lines : List ℕ). peres_from lines (places is_control 0 column) b c) positives
    ∙ ap (λ (lines : List ℕ). peres_from (a ∷ []) lines b c) controls

pub gate_back : (gate : Shape) (n : ℕ) → IsGate gate → FitsIn gate n → gate_of (column_of n gate) ≡ Some (from_top gate)
gate_back (Flip care want t) n is fits = flip_back care want t n is fits
gate_back (Swap care want a b) n is fits = swap_back care want a b n is fits
gate_back (Peres a b c) n is fits = peres_back a b c n is fits
