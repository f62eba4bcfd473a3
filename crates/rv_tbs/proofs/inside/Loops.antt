-- The loops of the synthesis against its definitions.
use Rattle.std.proofs.Common.{◌≡◌, ℕ, zero, suc, ◌+◌, ◌-◌, ◌*◌, ◌^◌, ◌<◌, ◌≤◌, Bool, true, false, not, cond, eqb, List, [], ◌∷◌, ◌++◌, length, map, get_or, set, take, drop, sym, ◌∙◌, ap, arith, append_assoc}
use Rattle.std.proofs.lemmas.Bool.{cases_lt, cond-true, and_parts, not-true}
use Rattle.std.proofs.lemmas.List.{append-nil, length-set, drop_more}
use Rattle.std.proofs.lemmas.Nat.{pow_below}
use Rattle.std.proofs.Math.Nat.{mul-le-mul}
use Rattle.std.proofs.Math.Seq.{drop-append_seam}
use Rattle.rv_gate.proofs.Lists.{take_rest}
use Rattle.rv_gate.specs.Word.{has, bit_of, number_of, word_of, ones_of}
use Rattle.rv_gate.specs.declared.word.TheConstants.{MOST_LINES}
use Rattle.rv_gate.specs.Gate.{holds, flip, run, act_on_number, run_on_number, FitsIn, IsFlip, IsGate}
use Rattle.rv_gate.specs.declared.gate.Shape.{Shape}
use Rattle.rv_gate.specs.declared.gate.Shape.TheVariants.{Flip}
use Rattle.rv_tbs.specs.Synthesis.{due_flips, is_set_due, set_controls, is_clear_due, clear_controls, turning}
use Rattle.rv_gate.proofs.inside.Ones.{has-ones_of}
use Rattle.rv_tbs.proofs.Turning.{Flips, holds_within, clear_held}
use Rattle.rv_tbs.proofs.inside.OutGates.{map_run_cons, step_flips}

-- ---- a row of flips, one line on

steps_on : (due : ℕ → Bool → Bool) (care : List Bool → ℕ → ℕ) (n line : ℕ) (w : List Bool) → line < n → due line (bit_of w line) ≡ true
    → due_flips due care line (n - line) w ≡ Flip (care w line) (care w line) line ∷ due_flips due care (line + 1) (n - (line + 1)) (flip w line)
unfolding due_flips
steps_on due care n line w lt on = grind arith

steps_off : (due : ℕ → Bool → Bool) (care : List Bool → ℕ → ℕ) (n line : ℕ) (w : List Bool) → line < n → due line (bit_of w line) ≡ false
    → due_flips due care line (n - line) w ≡ due_flips due care (line + 1) (n - (line + 1)) w
unfolding due_flips
steps_off due care n line w lt off = grind arith

steps_done : (due : ℕ → Bool → Bool) (care : List Bool → ℕ → ℕ) (n line : ℕ) (w : List Bool) → n ≤ line → due_flips due care line (n - line) w ≡ []
unfolding due_flips
steps_done due care n line w past = let e : n - line ≡ 0 = omega arith in ap (λ m. due_flips due care line m w) e

-- what the loop over the lines keeps: the gates and those to come, and the word that these lead to
pub record Row (due : ℕ → Bool → Bool) (care : List Bool → ℕ → ℕ) (n line : ℕ) (w : List Bool) (gates all : List Shape) (last : List Bool) : Type 0 where
  pub len : length w ≡ n
  pub gates_are : gates ++ due_flips due care line (n - line) w ≡ all
  pub word_is : run (due_flips due care line (n - line) w) w ≡ last

pub row_on : {due : ℕ → Bool → Bool} {care : List Bool → ℕ → ℕ} {n line : ℕ} {w : List Bool} {gates all : List Shape} {last : List Bool} (c : ℕ) (v : List Bool)
    → line < n → due line (bit_of w line) ≡ true → c ≡ care w line → v ≡ flip w line → holds c c w ≡ true
    → Row due care n line w gates all last → Row due care n (line + 1) v (gates ++ Flip c c line ∷ []) all last
row_on {due = due} {care = care} {n = n} {line = line} {w = w} {gates = gates} c v lt on ce ve held r =
    let e = steps_on due care n line w lt on in
    let g : Shape = Flip (care w line) (care w line) line in
    let rest : List Shape = due_flips due care (line + 1) (n - (line + 1)) (flip w line) in
    rw (ce, ve)
    (record {
      len = length-set w line _ ∙ r.len;
      gates_are = append_assoc gates (g ∷ []) rest ∙ ap (λ l. gates ++ l) (sym e) ∙ r.gates_are;
      word_is =
          ap (run rest) (sym (cond-true (holds (care w line) (care w line) w) _ _ (rw ce at held)))
          ∙ ap (λ l. run l w) (sym e) ∙ r.word_is;
    })

pub row_off : {due : ℕ → Bool → Bool} {care : List Bool → ℕ → ℕ} {n line : ℕ} {w : List Bool} {gates all : List Shape} {last : List Bool}
    → line < n → due line (bit_of w line) ≡ false
    → Row due care n line w gates all last → Row due care n (line + 1) w gates all last
row_off {due = due} {care = care} {n = n} {line = line} {w = w} {gates = gates} lt off r =
    let e = steps_off due care n line w lt off in
    record {
      len = r.len;
      gates_are = ap (λ l. gates ++ l) (sym e) ∙ r.gates_are;
      word_is = ap (λ l. run l w) (sym e) ∙ r.word_is;
    }

pub row_none : (due : ℕ → Bool → Bool) (care : List Bool → ℕ → ℕ) (n : ℕ) (w : List Bool) (gates : List Shape) → length w ≡ n
    → Row due care n 0 w gates (gates ++ due_flips due care 0 n w) (run (due_flips due care 0 n w) w)
row_none due care n w gates len =
    let e : n - 0 ≡ n = omega arith in
    record { len = len; gates_are = ap (λ m. gates ++ due_flips due care 0 m w) e; word_is = ap (λ m. run (due_flips due care 0 m w) w) e }

pub row_all : {due : ℕ → Bool → Bool} {care : List Bool → ℕ → ℕ} {n line : ℕ} {w : List Bool} {gates all : List Shape} {last : List Bool}
    → n ≤ line → Row due care n line w gates all last → (gates ≡ all) × (w ≡ last)
row_all {due = due} {care = care} {n = n} {line = line} {w = w} {gates = gates} past r =
    let e = steps_done due care n line w past in
    (sym (append-nil gates) ∙ ap (λ l. gates ++ l) (sym e) ∙ r.gates_are, ap (λ l. run l w) (sym e) ∙ r.word_is)

-- ---- gates on all images, one gate on

pub apply_more : (gates : List Shape) (i : ℕ) (g : Shape) (n n' : ℕ) (images images' : List ℕ) (all : List ℕ)
    → i < length gates → g ≡ get_or gates i g → n' ≡ n → images' ≡ map (act_on_number g n) images
    → map (run_on_number (drop i gates) n) images ≡ all
    → map (run_on_number (drop (i + 1) gates) n') images' ≡ all
apply_more gates i g n n' images images' all within read lines acted h =
    grind (arith, drop_more, map_run_cons, run_on_number)

-- ---- the two rows

pub set_row_on : (goal w : List Bool) (line c : ℕ) (v : List Bool) (gates gates' all : List Shape) (last : List Bool) (g : Shape)
    → line < length goal → true ≡ is_set_due goal line (bit_of w line) → c ≡ ones_of w → v ≡ set w line true
    → g ≡ Flip c c line → gates' ≡ gates ++ g ∷ []
    → Row (is_set_due goal) set_controls (length goal) line w gates all last → Row (is_set_due goal) set_controls (length goal) (line + 1) v gates' all last
set_row_on goal w line c v gates gates' all last g lt due ce ve ge pushed r =
    let off : bit_of w line ≡ false = not-true _ (and_parts (bit_of goal line) _ (sym due)).1 in
    rw (pushed, ge)
    (row_on c v lt (sym due) ce (ve ∙ ap (set w line) (ap not (sym off))) (rw ce (holds_within w w (λ i on. on))) r)

pub clear_row_on : (goal w : List Bool) (line c : ℕ) (v : List Bool) (gates gates' all : List Shape) (last : List Bool) (g : Shape)
    → line < length goal → true ≡ is_clear_due goal line (bit_of w line) → v ≡ set w line false → c ≡ cond (eqb (number_of goal) 0) 0 (ones_of v)
    → g ≡ Flip c c line → gates' ≡ gates ++ g ∷ []
    → Row (is_clear_due goal) (clear_controls goal) (length goal) line w gates all last → Row (is_clear_due goal) (clear_controls goal) (length goal) (line + 1) v gates' all last
clear_row_on goal w line c v gates gates' all last g lt due ve ce ge pushed r =
    let on : bit_of w line ≡ true = (and_parts (bit_of w line) _ (sym due)).0 in
    let flipped : v ≡ flip w line = ve ∙ ap (set w line) (ap not (sym on)) in
    let care : c ≡ clear_controls goal w line = ce ∙ ap (λ u. cond (eqb (number_of goal) 0) 0 (ones_of u)) flipped in
    rw (pushed, ge)
    (row_on c v lt (sym due) care flipped (rw care (clear_held goal w line (omega (arith, r.len)) on)) r)

-- the controls of a set or clear flip are free of its line
pub set_free : (goal w : List Bool) (line c : ℕ) → true ≡ is_set_due goal line (bit_of w line) → c ≡ ones_of w → has c line ≡ false
set_free goal w line c due ce = rw ce (has-ones_of w line ∙ not-true _ (and_parts (bit_of goal line) _ (sym due)).1)

-- ---- flips that fit

-- each gate of the list is a flip that fits
pub flips_at : (n : ℕ) (gates : List Shape) → Flips n gates → (k : ℕ) (d : Shape) → k < length gates → IsFlip (get_or gates k d) × FitsIn (get_or gates k d) n
flips_at n [] f k d h = absurd (omega arith)
flips_at n (g ∷ gates) f zero d h = (f.0.0, f.0.2)
flips_at n (g ∷ gates) f (suc k) d h = flips_at n gates f.1 k d (omega arith)

pub gates_at : (n : ℕ) (gates : List Shape) → Flips n gates → (k : ℕ) (d : Shape) → k < length gates → IsGate (get_or gates k d)
gates_at n [] f k d h = absurd (omega arith)
gates_at n (g ∷ gates) f zero d h = f.0.1
gates_at n (g ∷ gates) f (suc k) d h = gates_at n gates f.1 k d (omega arith)

-- n * 2 ^ n is at most 2 ^ 20
pub gates_bound : (n : ℕ) → n ≤ 16 → n * 2 ^ n ≤ 2 ^ 20
gates_bound n h = grind (arith, cases_lt, pow_below, mul-le-mul)

-- the gates that turn a word into the goal, as the code makes them
pub turned_all : (n k x : ℕ) (gates : List Shape) (goal w : List Bool) → n ≤ MOST_LINES → goal ≡ word_of n k → w ≡ word_of n x → gates ≡ turning goal w → Flips n gates
turned_all n k x gates goal w small ge we are = rw (are, ge, we) (step_flips n k x small)

-- the gates that were added
pub added : (old new found shown : List Shape) (start : ℕ) → start ≡ length old → new ≡ old ++ found → shown ≡ new → take (length shown - start) (drop start shown) ≡ found
added old new found shown start at is same =
    take_rest shown start ∙ ap (drop start) (same ∙ is) ∙ ap (λ n. drop n (old ++ found)) at ∙ drop-append_seam old found
