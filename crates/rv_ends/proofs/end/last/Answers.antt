use Rattle.std.proofs.Common.{cond, ◌≡◌, ◌<◌, ℕ, Bool, List, sym, ◌∙◌, ap}
use Rattle.rv_terms.specs.Phases.{power}
use Rattle.rv_net.specs.Cyclotomic.{nought, unity, times_w_power}
use Rattle.rv_ends.specs.Ends.{amount, word_at}
use Rattle.std.proofs.Common.{subst, Vec, Global}
use Rattle.std.specs.Prelude.{Option, IfSome}
use Rattle.rv_ends.proofs.Ends.{constant_sum, turned_nought}
use Rattle.rv_ends.proofs.end.last.Goals as goal

pub returns-then-are_same : goal.returns-then-are_same
returns-then-are_same c x =
    let turns : (c.in-Some.turns < 8) × ((y v : List Bool) → power c.args.phases.now y v ≡ c.in-Some.turns) =
    subst (λ (o : Option ℕ). IfSome o (λ t. (t < 8) × ((y v : List Bool) → power c.args.phases.now y v ≡ t))) c.in-Some.is c.in_ok-turns.ensures in
    let ends : (y v : List Bool) → word_at c.args.sums.now y v ≡ c.in-Some-2.word.items =
    subst (λ (o : Option (Vec Bool Global)). IfSome o (λ w. (y v : List Bool) → word_at c.args.sums.now y v ≡ w.items)) c.in-Some-2.is c.in_ok-word.ensures in
    let word = c.deref.result.now in
    let t = c.in-Some.turns in
    constant_sum c.args.sums.now c.args.phases.now x c.args.z.now word t (amount c.turn_of.result)
    (λ v. ends x v ∙ sym c.deref.ensures.value) (λ v. turns.1 x v)
    (ap (λ b. times_w_power t (cond b unity nought)) (sym c.are_same.ensures ∙ c.if-are_same.true) ∙ sym c.turn_of.ensures)

pub returns : goal.returns
returns c x =
    let turns : (c.in-Some.turns < 8) × ((y v : List Bool) → power c.args.phases.now y v ≡ c.in-Some.turns) =
    subst (λ (o : Option ℕ). IfSome o (λ t. (t < 8) × ((y v : List Bool) → power c.args.phases.now y v ≡ t))) c.in-Some.is c.in_ok-turns.ensures in
    let ends : (y v : List Bool) → word_at c.args.sums.now y v ≡ c.in-Some-2.word.items =
    subst (λ (o : Option (Vec Bool Global)). IfSome o (λ w. (y v : List Bool) → word_at c.args.sums.now y v ≡ w.items)) c.in-Some-2.is c.in_ok-word.ensures in
    let word = c.deref.result.now in
    let t = c.in-Some.turns in
    constant_sum c.args.sums.now c.args.phases.now x c.args.z.now word t _
    (λ v. ends x v ∙ sym c.deref.ensures.value) (λ v. turns.1 x v)
    (ap (λ b. times_w_power t (cond b unity nought)) (sym c.are_same.ensures ∙ c.if-are_same.false) ∙ turned_nought t)
