use Rattle.std.proofs.Common.{◌≡◌, ◌-◌, ◌++◌, suc, ℕ, List, ap, subst, ◌∙◌, arith}
use Rattle.std.proofs.lemmas.Result.{on_ok_weaker}
use Rattle.rv_perm.specs.Perm.{Table}
use Rattle.rv_dbs.specs.Walk.{left, right}
use Rattle.rv_dbs.specs.Singles.{between, KeepsAbove, singles_from}
use Rattle.rv_dbs.proofs.Between.{changed_free}
use Rattle.rv_dbs.proofs.Loops.{values_free, flips_single, three_joined, keeps_rest}
use Rattle.rv_dbs.proofs.singles.+push_singles.Goals as goal

abbrev table : ℕ → List ℕ → Table
table n images = record { lines = n; images = images }

pub push_flips-requires-clause-free : goal.push_flips-requires-clause-free
push_flips-requires-clause-free t c =
    let K : ℕ → Type 0 = λ j. KeepsAbove c.args.perm.now.lines j c.args.perm.now.images in
    values_free _ _ 0 _ _ (omega (arith, c.requires.line)) (changed_free _ c.args.perm.now.images c.lines-lines.ensures.valid (subst K c.if-k-eq0.true c.requires.kept))
    c.lines-lines.ensures.value (c.deref.ensures.value ∙ c.in_ok-changes.ensures)

pub push_singles-requires : goal.push_singles-requires
push_singles-requires t c =
    let j : c.args.k ≡ suc (c.args.k - 1) = omega arith in
    let is : c.in_ok-rest.rest ≡ table (c.args.perm.now.lines) (between c.args.perm.now.lines c.args.k c.args.perm.now.images) =
    c.in_ok-rest.ensures ∙ ap (λ m. table m c.deref-6.result.now) c.lines-lines.ensures.value
    ∙ ap (table c.args.perm.now.lines) (c.deref-6.ensures.value ∙ c.in_ok-images.ensures) in
    let r = keeps_rest c.args.perm.now.lines c.args.k (c.args.k - 1) c.args.perm.now.images c.in_ok-rest.rest c.lines-lines.ensures.valid c.requires.line j c.requires.kept is in
    (omega arith, r)

pub returns : goal.returns
returns t c =
    let n : ℕ = c.args.perm.now.lines in
    let j : c.args.k ≡ suc (c.args.k - 1) = omega arith in
    let is : c.in_ok-rest.rest ≡ table (c.args.perm.now.lines) (between c.args.perm.now.lines c.args.k c.args.perm.now.images) =
    c.in_ok-rest.ensures ∙ ap (λ m. table m c.deref-6.result.now) c.lines-lines.ensures.value
    ∙ ap (table c.args.perm.now.lines) (c.deref-6.ensures.value ∙ c.in_ok-images.ensures) in
    on_ok_weaker c.push_flips-3.result
    (λ h.
    three_joined c.args.perm.now.lines c.args.k (c.args.k - 1) c.args.perm.now.images c.args.gates.now.items c.push_flips-2.new.gates.items c.push_singles.new.gates.items c.push_flips-3.new.gates.items j
    (c.in_ok-push_flips.ensures
    ∙ ap (λ g. c.args.gates.now.items ++ g)
    (flips_single c.args.perm.now.lines c.lines-lines.result c.args.k (left c.args.perm.now.lines c.args.k c.args.perm.now.images) _ c.lines-lines.ensures.value (c.deref-7.ensures.value ∙ c.in_ok-left.ensures)))
    (c.in_ok-push_singles.ensures ∙ ap (λ (v : Table). c.push_flips-2.new.gates.items ++ singles_from v.lines (c.args.k - 1) v.images) is)
    (h
    ∙ ap (λ g. c.push_singles.new.gates.items ++ g)
    (flips_single c.args.perm.now.lines c.lines-lines.result c.args.k (right c.args.perm.now.lines c.args.k c.args.perm.now.images) _ c.lines-lines.ensures.value (c.deref-8.ensures.value ∙ c.in_ok-right.ensures))))
    c.push_flips-3.ensures
