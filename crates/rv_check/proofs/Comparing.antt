-- A circuit compared with a network word by word.
use Rattle.std.proofs.Common.{◌≡◌, ℕ, zero, suc, ◌+◌, ◌^◌, ◌<◌, Bool, cond, List, sym, ap, ◌∙◌, arith}
use Rattle.std.specs.Option.{option_or}
use Rattle.std.specs.Prelude.{Option, None, Some, Ok, Err}
use Rattle.rv_gate.proofs.FirstAnswer.{none_first}
use Rattle.rv_gate.specs.FirstAnswer.{first}
use Rattle.rv_gate.specs.Gate.{run}
use Rattle.rv_gate.specs.Word.{word_of}
use Rattle.rv_gate.specs.declared.gate.Shape.{Shape}
use Rattle.rv_net.specs.Op.{Network}
use Rattle.rv_check.specs.Check.{agrees, compared, difference_at, first_difference, first_large, large_at, verdict_of}
use Rattle.rv_check.specs.declared.checking.CheckFault.{CheckFault}
use Rattle.rv_check.proofs.inside.Places.{first_answer}

or_assoc : {A : Type 0} (o p q : Option A) → option_or o (option_or p q) ≡ option_or (option_or o p) q
or_assoc o p q = grind arith

or_none : {A : Type 0} (o : Option A) → option_or o None ≡ o
or_none o = grind arith

-- one more number
first_last : {A : Type 0} (f : ℕ → Option A) (k m : ℕ) → first f k (m + 1) ≡ option_or (first f k m) (f (k + m))
unfolding first
first_last f k zero = let e : k + 0 ≡ k = omega arith in let z : 0 + 1 ≡ suc 0 = omega arith in ap (first f k) z ∙ or_none (f k) ∙ ap f (sym e)
first_last f k (suc m) = let i0 = first_last f (k + 1) m in grind (arith, i0, or_assoc)

pub difference_more : (gates : List Shape) (net : Network) (number : ℕ) (before : Option ℕ) (agreed : Bool) → before ≡ first (difference_at gates net) 0 number
    → agreed ≡ agrees net.ops (word_of net.lines number) (run gates (word_of net.lines number))
    → option_or before (cond agreed None (Some number)) ≡ first (difference_at gates net) 0 (number + 1)
difference_more gates net number before agreed is same = grind (arith, option_or, difference_at, first_last)

pub none_more : (net : Network) (number : ℕ) → ((k : ℕ) → k < number → large_at net k ≡ None) → large_at net number ≡ None → (k : ℕ) → k < number + 1 → large_at net k ≡ None
none_more net number before here k lt = grind arith

pub compared_large : (gates : List Shape) (net : Network) (number : ℕ) (fault : CheckFault) → number < 2 ^ net.lines → ((k : ℕ) → k < number → large_at net k ≡ None)
    → large_at net number ≡ Some fault → compared (first_large net) (first_difference gates net) ≡ Err fault
unfolding first_large
compared_large gates net number fault lt before here =
    ap (λ o. compared o (first_difference gates net))
    (first_answer (large_at net) 0 (2 ^ net.lines) number fault (omega arith) (omega arith) (λ p g h. before p h) here)

pub compared_done : (gates : List Shape) (net : Network) (end : ℕ) (difference : Option ℕ) → end ≡ 2 ^ net.lines → ((k : ℕ) → k < end → large_at net k ≡ None)
    → difference ≡ first (difference_at gates net) 0 end → compared (first_large net) (first_difference gates net) ≡ Ok (verdict_of difference)
unfolding first_large first_difference
compared_done gates net end difference whole before is =
    grind (arith, first_difference, none_first, large_at, verdict_of, difference_at)
