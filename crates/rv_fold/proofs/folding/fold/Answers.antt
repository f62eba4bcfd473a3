use Rattle.std.proofs.Common.{◌≡◌, ◌∙◌, ◌++◌, ◌<◌, List, arith, sym, ap, ap₂, subst, length, get_or}
use Rattle.std.proofs.lemmas.Grind.{get_or_default_zero}
use Rattle.rv_net.specs.Op.{Network}
use Rattle.rv_net.specs.declared.op.Op.{Op}
use Rattle.rv_net.specs.declared.op.Op.TheVariants.{X}
use Rattle.rv_fold.specs.Folded.{folded_network, IsFoldingOf}
use Rattle.rv_fold.specs.inside.Standing.{sent, sum_at}
use Rattle.rv_fold.proofs.Laws.{folding_of, folded-length, restarts_are_least}
use Rattle.rv_fold.proofs.Joining.{joinable_equivalence}
use Rattle.rv_fold.proofs.inside.Steps.{read_at}
use Rattle.rv_fold.proofs.inside.Sums.{parts_none, sent_next, sent_within, folded_all}
use Rattle.rv_fold.proofs.folding.fold.Goals as goal
use Rattle.rv_net.proofs.Networks.{same_network}

pub loop-place-init : goal.loop-place-init
loop-place-init c = c.new-folded.ensures ∙ same_network _ _ _ _ c.lines.ensures.value (parts_none _ _)

pub push_part-requires-clause-room : goal.push_part-requires-clause-room
push_part-requires-clause-room c =
    let net = c.args.net.now in
    let place = c.loop-place.place in
    let op = get_or c.ops-op-items.result.now place (X 0) in
    let within : place < length net.ops = omega (arith, c.loop-place-test.true, ap length c.ops-op-items.ensures) in
    let sums = c.in_ok-sums.ensures in
    let read : c.index.result.now ≡ sum_at net.lines net.ops (length net.ops) place =
    c.index.ensures ∙ get_or_default_zero c.in_ok-sums.sums.items place c.index.result.now (omega (arith, sums.count)) ∙ sums.each place within in
    let at = read_at net.ops c.ops-op-items.result.now place c.ops-op-items.ensures within in
    omega (arith, ap (λ (l : Network). length l.ops) c.loop-place.invariant, ap (λ e. length (sent op e)) read, sent_within net.lines net.ops place op at, folded-length net.lines net.ops, c.lines.ensures.valid.bounded)

pub loop-place-preserved : goal.loop-place-preserved
loop-place-preserved c =
    let net = c.args.net.now in
    let place = c.loop-place.place in
    let op = get_or c.ops-op-items.result.now place (X 0) in
    let within : place < length net.ops = omega (arith, c.loop-place-test.true, ap length c.ops-op-items.ensures) in
    let sums = c.in_ok-sums.ensures in
    let read : c.index.result.now ≡ sum_at net.lines net.ops (length net.ops) place =
    c.index.ensures ∙ get_or_default_zero c.in_ok-sums.sums.items place c.index.result.now (omega (arith, sums.count)) ∙ sums.each place within in
    c.in_ok-push_part.ensures
    ∙ same_network _ _ _ _ (ap (λ (n : Network). n.lines) c.loop-place.invariant)
    (ap₂ (λ (a b : List Op). a ++ b) (ap (λ (n : Network). n.ops) c.loop-place.invariant) (ap (sent op) read)
    ∙ sent_next net.lines net.ops place op (read_at net.ops c.ops-op-items.result.now place c.ops-op-items.ensures within))

result_is : (c : goal.After-drop-sums-2) → c.loop-place.folded ≡ folded_network c.args.net.now
result_is c =
    c.loop-place.invariant
    ∙ ap (λ (l : List Op). record { lines = c.args.net.now.lines; ops = l })
    (folded_all c.args.net.now.lines c.args.net.now.ops c.loop-place.place (omega (arith, c.loop-place-test.false, ap length c.ops-op-items.ensures)))

pub returns-clause-restarts : goal.returns-clause-restarts
returns-clause-restarts c = restarts_are_least c.args.net.now.lines c.args.net.now.ops

pub returns-clause-classes : goal.returns-clause-classes
returns-clause-classes c = joinable_equivalence c.args.net.now.lines c.args.net.now.ops

pub returns-clause-folded : goal.returns-clause-folded
returns-clause-folded c = subst (IsFoldingOf c.args.net.now) (sym (result_is c)) (folding_of c.args.net.now c.lines.ensures.valid)
