use Rattle.std.proofs.Common.{◌≡◌, ◌∙◌, ◌+◌, ◌%◌, ◌∷◌, [], ◌<◌, ℕ, List, arith, refl, sym, ap, ap₂, cond, length, get_or, set, length-append}
use Rattle.std.proofs.lemmas.Grind.{get_or_default_zero}
use Rattle.rv_gate.specs.Word.{has}
use Rattle.rv_net.specs.declared.op.Op.TheVariants.{X}
use Rattle.rv_fold.specs.Parities.{parities_after, direct, restart_set}
use Rattle.rv_fold.specs.inside.Shown.{parities_of}
use Rattle.rv_fold.specs.inside.Standing.{StartsAt}
use Rattle.rv_fold.proofs.inside.Steps.{read_at, parity_there, past_phase, past_other}
use Rattle.rv_fold.proofs.walk.Walk.step.Goals as goal

pub index-requires : goal.index-requires
index-requires c =
    let net = c.args.net.now in
    let at = read_at net.ops c.ops.result.now c.args.place c.ops.ensures c.requires.within in
    let here = parity_there net c.args.place _ at c.args.self.now c.requires.stands c.in-Some.phase c.parity-parity.result (sym c.in-Some.ensures) c.parity-parity.ensures in
    let starts = (c.in_ok-first-in-Some.ensures net.lines net.ops c.recall_invariant.ensures.fitting c.requires.stands.classes here).0 in
    omega (arith, starts.early, c.requires.stands.sums.count, c.in_ok-push.ensures.len)

pub index_mut-requires : goal.index_mut-requires
index_mut-requires c =
    let net = c.args.net.now in
    let at = read_at net.ops c.ops.result.now c.args.place c.ops.ensures c.requires.within in
    let here = parity_there net c.args.place _ at c.args.self.now c.requires.stands c.in-Some.phase c.parity-parity.result (sym c.in-Some.ensures) c.parity-parity.ensures in
    let starts = (c.in_ok-first-in-Some.ensures net.lines net.ops c.recall_invariant.ensures.fitting c.requires.stands.classes here).0 in
    omega (arith, starts.early, c.requires.stands.sums.count, c.in_ok-push.ensures.len)

pub returns-in_ok-first-in-Some : goal.returns-in_ok-first-in-Some
returns-in_ok-first-in-Some c =
    let net = c.args.net.now in
    let at = read_at net.ops c.ops.result.now c.args.place c.ops.ensures c.requires.within in
    let here = parity_there net c.args.place _ at c.args.self.now c.requires.stands c.in-Some.phase c.parity-parity.result (sym c.in-Some.ensures) c.parity-parity.ensures in
    let first = c.in_ok-first-in-Some.first in
    let starts : StartsAt net.lines net.ops c.args.place c.parity-parity.result first = (c.in_ok-first-in-Some.ensures net.lines net.ops c.recall_invariant.ensures.fitting c.requires.stands.classes here).0 in
    let pushed = c.in_ok-push.ensures.items in
    let within : first < length c.push.new.self.items = omega (arith, starts.early, c.requires.stands.sums.count, ap length pushed, length-append c.args.self.now.sums.items (0 ∷ [])) in
    let read : c.index.result.now ≡ get_or c.push.new.self.items first 0 = c.index.ensures ∙ get_or_default_zero c.push.new.self.items first c.index.result.now within in
    past_phase net c.args.place _ at c.args.self.now c.requires.stands c.in-Some.phase c.parity-parity.result first _ (sym c.in-Some.ensures) c.parity-parity.ensures starts
    refl
    (c.in_ok-first-in-Some.ensures net.lines net.ops c.recall_invariant.ensures.fitting c.requires.stands.classes here).1
    (ap₂ (λ (l : List ℕ) (s : ℕ). set l first s) pushed (c.joined.ensures ∙ ap (λ s. (s + c.in-Some.phase.exponent) % 8) (read ∙ ap (λ (l : List ℕ). get_or l first 0) pushed)))

pub returns-in-None : goal.returns-in-None
returns-in-None c =
    let net = c.args.net.now in
    let walk = c.args.self.now in
    let op = get_or c.ops.result.now c.args.place (X 0) in
    let at = read_at net.ops c.ops.result.now c.args.place c.ops.ensures c.requires.within in
    past_other net c.args.place op at walk c.requires.stands _ (sym c.in-None.ensures)
    (c.pass-restarted.ensures.parities ∙ ap (λ n. parities_after n op (parities_of walk.parities.parities.items)) c.requires.stands.count)
    c.pass-restarted.ensures.count
    c.restart.ensures.firsts
    c.restart.ensures.count
    (λ line lt.
    c.restart.ensures.sinces line lt
    ∙ ap (λ s. cond (has s line) (c.args.place + 1) (get_or walk.classes.sinces.items line 0)) (c.pass-restarted.ensures.set ∙ ap (λ n. restart_set n (parities_of walk.parities.parities.items) (direct op)) c.requires.stands.count))
    c.in_ok-push.ensures.items
