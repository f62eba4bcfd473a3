use Rattle.std.proofs.Common.{arith, true, false, get_or, ◌≡◌, ◌-◌, Bool, List, take, set, length, sym, ◌∙◌, ap}
use Rattle.rv_terms.specs.Products.{odd}
use Rattle.rv_net.specs.Cyclotomic.{doubled}
use Rattle.rv_terms.specs.declared.sum.Sum.{Sum}
use Rattle.rv_ends.specs.Ends.{amount, word_at, over_all, path_value}
use Rattle.std.proofs.Common.{subst, drop}
use Rattle.std.specs.Prelude.{Option, IfSome}
use Rattle.rv_net.proofs.Cyclotomic.{doubled-none}
use Rattle.rv_net.specs.Amplitude.{sum_over_words}
use Rattle.rv_terms.proofs.Products.{value-always}
use Rattle.rv_ends.specs.declared.amount.Amount.{Amount}
use Rattle.rv_ends.proofs.Ends.{both_halves, put_sum, weaker, rest_length}
use Rattle.rv_ends.proofs.end.+ends.Goals as goal

pub end_sum-returns-then-paths-eq0 : goal.end_sum-returns-then-paths-eq0
end_sum-returns-then-paths-eq0 t c =
    let sums = c.args.sums.now in
    let phases = c.args.phases.now in
    let z = c.args.z.now in
    weaker c.in_ok-sum.sum (λ (e : Amount). (x : List Bool) → over_all sums phases x z ≡ doubled 64 (amount e))
    (λ (e : Amount). (x : List Bool) → doubled (length c.args.paths.now) (over_all sums phases x z) ≡ doubled 64 (amount e))
    (λ e h x. ap (λ k. doubled k (over_all sums phases x z)) c.if-paths-eq0.true ∙ doubled-none (over_all sums phases x z) ∙ h x)
    c.in_ok-sum.ensures

pub end_sum-returns : goal.end_sum-returns
end_sum-returns t c x =
    let sums = c.args.sums.now in
    let phases = c.args.phases.now in
    let z = c.args.z.now in
    let path = get_or c.args.paths.now 0 0 in
    let rest = take (length c.args.paths.now - 1) (drop 1 c.args.paths.now) in
    let low = subst (λ (o : Option Amount). IfSome o (λ (e : Amount). (y : List Bool) (bit : Bool) → ((v : List Bool) → odd c.new-zero.result y v ≡ bit)
    → doubled (length rest) (sum_over_words 64 (λ v. path_value sums phases y z (set v path bit))) ≡ doubled 64 (amount e))) c.in-Some.is c.in_ok-low.ensures in
    let high = subst (λ (o : Option Amount). IfSome o (λ (e : Amount). (y : List Bool) (bit : Bool) → ((v : List Bool) → odd c.in_ok-one.one y v ≡ bit)
    → doubled (length rest) (sum_over_words 64 (λ v. path_value sums phases y z (set v path bit))) ≡ doubled 64 (amount e))) c.in-Some-2.is c.in_ok-high.ensures in
    ap (λ k. doubled k (over_all sums phases x z)) (sym (rest_length c.args.paths.now c.if-paths-eq0.false))
    ∙ both_halves (length rest) path (path_value sums phases x z) (amount c.in-Some.low) (amount c.in-Some-2.high) (amount c.in-Some-plus.whole)
    (omega arith) (low x false (λ v. c.new-zero.ensures x v)) (high x true (λ v. c.in_ok-one.ensures x v ∙ value-always x v))
    c.in-Some-plus.ensures

pub half-returns : goal.half-returns
half-returns t c =
    let sums = c.args.sums.now in
    let phases = c.args.phases.now in
    let z = c.args.z.now in
    let path = c.args.path in
    let rest = c.args.paths.now in
    weaker c.in_ok-sum.sum
    (λ (e : Amount). (x : List Bool) → doubled (length rest) (over_all c.deref.result.now c.in_ok-phases.phases x z) ≡ doubled 64 (amount e))
    (λ (e : Amount). (y : List Bool) (bit : Bool) → ((v : List Bool) → odd c.args.with.now y v ≡ bit)
    → doubled (length rest) (sum_over_words 64 (λ v. path_value sums phases y z (set v path bit))) ≡ doubled 64 (amount e)) (λ e h x bit is.
    ap (doubled (length rest))
    (sym (put_sum sums c.deref.result.now phases c.in_ok-phases.phases x z path bit (odd c.args.with.now x) c.requires is
    (λ v lt. ap (λ (l : List Sum). word_at l x v) c.deref.ensures.value ∙ c.in_ok-sums.ensures x v lt)
    (λ v lt. c.in_ok-phases.ensures x v lt)))
    ∙ h x) c.in_ok-sum.ensures
