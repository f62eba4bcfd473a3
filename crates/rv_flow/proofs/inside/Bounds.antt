-- How many helper lines, gates and operations come of a circuit of a few lines.
use Rattle.std.proofs.Common.{◌≡◌, ℕ, zero, suc, ◌+◌, ◌-◌, ◌*◌, ◌/◌, ◌<◌, ◌≤◌, Bool, true, false, cond, not, ◌&&◌, eqb, nat_lt, List, [], ◌∷◌, length, All, refl, arith}
use Rattle.std.specs.List.{sum_by}
use Rattle.std.proofs.Math.Nat.{max-le}
use Rattle.std.proofs.lemmas.Bool.{false≢true, or_left}
use Rattle.std.proofs.lemmas.List.Elements.{All-head, All-tail}
use Rattle.std.proofs.lemmas.List.Sums.{sum_by-cons}
use Rattle.rv_gate.specs.Gate.{FitsIn, IsFlip, IsGate, Within, IsFlipOn}
use Rattle.rv_gate.specs.Word.{has}
use Rattle.rv_gate.specs.declared.gate.Shape.{Shape}
use Rattle.rv_gate.specs.declared.gate.Shape.TheVariants.{Flip, Swap, Peres}
use Rattle.rv_gate.specs.declared.word.TheConstants.{MOST_LINES}
use Rattle.rv_gate.proofs.inside.GateLemmas.{fits_flip}
use Rattle.rv_mct.proofs.Rising.{count_zero, count-suc}
use Rattle.rv_gate.specs.Greatest.{greatest}
use Rattle.rv_mct.specs.Blocks.{added, borrowed_ladder_cost, cost_of, count, count_lines, flip_cost, flip_wish, flips_of, gate_cost, is_free, long_cost, wish}
use Rattle.rv_mct.specs.Extends.{IsPlain}
use Rattle.rv_mct.specs.declared.aux.Aux.{Aux}
use Rattle.rv_mct.specs.declared.aux.Aux.TheVariants.{Borrowed, Clean}
use Rattle.rv_gate.specs.Every.{Every}
use Rattle.rv_mct.specs.inside.Long.{IsLong}
use Rattle.rv_mct.proofs.inside.Gates.{flips_own}
use Rattle.rv_mct.proofs.inside.Splits.{free_count}
use Rattle.rv_net.specs.Network.{gate_op_count, operation_count}
use Rattle.rv_templ.specs.Gates.{AreGates, Flips}

-- ---- helper lines

-- a flip on n lines has fewer controls
few_controls : (n care want target : ℕ) → n ≤ MOST_LINES → IsFlipOn n (Flip care want target) → count_lines care + 1 ≤ n
few_controls n care want target most own =
    let long : IsLong n care target =
    record {
      few = most;
      within = λ line on. own.2 line (or_left (has care line) (eqb line target) on);
      aimed = fits_flip (Flip care want target) care want target n refl own.2;
      free = own.1.1;
    } in
    omega (arith, free_count n care target long)

one_or_none : (few free : Bool) → cond few 0 (cond free 1 0) ≤ 1
one_or_none true free = omega arith
one_or_none false true = omega arith
one_or_none false false = omega arith

-- no flip on n lines wants more helper lines
module _ (aux : Aux) (n most : ℕ) (few : (g : Shape) → IsFlipOn n g → flip_wish aux n g ≤ most) where
  of_flips : (flips : List Shape) → Every (IsFlipOn n) flips → greatest (flip_wish aux n) flips ≤ most
  unfolding greatest
  of_flips [] own = omega arith
  of_flips (g ∷ rest) own = max-le (few g own.0) (of_flips rest own.1)

  pub wanted-few : (gates : List Shape) → n ≤ MOST_LINES → AreGates n gates → added aux n gates ≤ most
  unfolding greatest
  wanted-few [] lines good = omega arith
  wanted-few (g ∷ rest) lines good = max-le (of_flips (flips_of g) (flips_own g n lines good.0 good.1)) (wanted-few rest lines good.2)

of_clean : (n : ℕ) → n ≤ 16 → (g : Shape) → IsFlipOn n g → flip_wish Clean n g ≤ 13
of_clean n few (Flip care want target) own = omega (arith, few_controls n care want target (omega arith) own)
of_clean n few (Swap care want a b) own = omega arith
of_clean n few (Peres a b c) own = omega arith

of_borrowed : (n : ℕ) (g : Shape) → IsFlipOn n g → flip_wish Borrowed n g ≤ 1
of_borrowed n (Flip care want target) own = one_or_none (nat_lt (count_lines care) 3) (eqb (count (is_free care target) n) 0)
of_borrowed n (Swap care want a b) own = omega arith
of_borrowed n (Peres a b c) own = omega arith

pub borrowed-few : (n : ℕ) (gates : List Shape) → n ≤ MOST_LINES → AreGates n gates → added Borrowed n gates ≤ 1
borrowed-few n gates lines good = wanted-few Borrowed n 1 (of_borrowed n) gates lines good

pub helpers-few : (aux : Aux) (n : ℕ) (gates : List Shape) → n ≤ 16 → AreGates n gates → added aux n gates ≤ 13
helpers-few Clean n gates few good = wanted-few Clean n 13 (of_clean n few) gates (omega arith) good
helpers-few Borrowed n gates few good = let x = borrowed-few n gates (omega arith) good in omega arith

-- ---- gates

-- of a ladder under at most so many controls
ladder_few : (controls most : ℕ) → controls ≤ most → 3 ≤ most → borrowed_ladder_cost controls ≤ 4 * (most - 2)
ladder_few controls most few some = by_test (nat_lt controls 3)
  where
    by_test : (short : Bool) → cond short 1 (4 * (controls - 2)) ≤ 4 * (most - 2)
    by_test true = omega arith
    by_test false = omega arith

-- a flip with at most seven controls
long_few : (free controls : ℕ) → controls ≤ 7 → long_cost Borrowed free controls ≤ 32
long_few free controls few = by_test (nat_lt (free + 2) controls)
  where
    by_test : (split : Bool) → cond split (2 * borrowed_ladder_cost ((controls + 1) / 2) + 2 * borrowed_ladder_cost (controls / 2 + 1)) (borrowed_ladder_cost controls) ≤ 32
    by_test true =
        let half : borrowed_ladder_cost ((controls + 1) / 2) ≤ 4 * (4 - 2) = ladder_few ((controls + 1) / 2) 4 (omega arith) (omega arith) in
        let other : borrowed_ladder_cost (controls / 2 + 1) ≤ 4 * (4 - 2) = ladder_few (controls / 2 + 1) 4 (omega arith) (omega arith) in
        omega arith
    by_test false = let whole : borrowed_ladder_cost controls ≤ 4 * (7 - 2) = ladder_few controls 7 few (omega arith) in omega arith

flip_few : (lines care want target : ℕ) → count_lines care ≤ 7 → flip_cost Borrowed lines (Flip care want target) ≤ 32
flip_few lines care want target few = by_test (nat_lt (count_lines care) 3)
  where
    by_test : (short : Bool) → cond short 1 (long_cost Borrowed (count (is_free care target) lines) (count_lines care)) ≤ 32
    by_test true = omega arith
    by_test false = long_few (count (is_free care target) lines) (count_lines care) few

gate_few : (n lines : ℕ) (g : Shape) → n ≤ 8 → IsFlip g → IsGate g → FitsIn g n → gate_cost Borrowed lines g ≤ 32
gate_few n lines (Flip care want target) few flip is fits =
    let controls : count_lines care + 1 ≤ n = few_controls n care want target (omega arith) (flip, is, fits) in
    let one : flip_cost Borrowed lines (Flip care want target) ≤ 32 = flip_few lines care want target (omega arith) in
    omega (arith, sum_by-cons (flip_cost Borrowed lines) (Flip care want target) [])
gate_few n lines (Swap care want a b) few flip is fits = absurd (false≢true flip)
gate_few n lines (Peres a b c) few flip is fits = absurd (false≢true flip)

-- flips on at most eight lines
pub cost-few : (n lines : ℕ) (gates : List Shape) → n ≤ 8 → Flips gates → AreGates n gates → cost_of Borrowed lines gates ≤ 32 * length gates
cost-few n lines [] few flips good = omega arith
cost-few n lines (g ∷ rest) few flips good =
    omega (arith, sum_by-cons (gate_cost Borrowed lines) g rest, gate_few n lines g few flips.0 good.0 good.1, cost-few n lines rest few flips.1 good.2)

-- ---- operations

some_pass : (p q : ℕ → Bool) (n : ℕ) → count (λ x. p x && q x) n ≤ count p n
some_pass p q zero = omega (arith, count_zero (λ x. p x && q x))
some_pass p q (suc n) = omega (arith, count-suc p n, count-suc (λ x. p x && q x) n, some_pass p q n, by_test (p n) (q n))
  where
    by_test : (a b : Bool) → cond {A = ℕ} (a && b) 1 0 ≤ cond a 1 0
    by_test true true = omega arith
    by_test true false = omega arith
    by_test false b = omega arith

one_few : (g : Shape) → IsPlain g → gate_op_count g ≤ 19
one_few (Flip care want target) plain =
    omega (arith, plain, some_pass (has care) (λ line. not (has want line)) MOST_LINES, by_test (eqb (count_lines care) 2))
  where
    by_test : (two : Bool) → cond {A = ℕ} two 15 1 ≤ 15
    by_test true = omega arith
    by_test false = omega arith
one_few (Swap care want a b) plain = absurd plain
one_few (Peres a b c) plain = absurd plain

pub operations-few : (gates : List Shape) → All IsPlain gates → operation_count gates ≤ 19 * length gates
unfolding operation_count
operations-few [] plain = omega arith
operations-few (g ∷ rest) plain = omega (arith, one_few g (All-head IsPlain g rest plain), operations-few rest (All-tail IsPlain g rest plain))
