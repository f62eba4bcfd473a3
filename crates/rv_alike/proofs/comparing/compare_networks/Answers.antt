use Rattle.rv_alike.proofs.Told.{alike_by_sums, told_by_left}
use Rattle.rv_alike.proofs.comparing.compare_networks.Goals as goal

pub returns-then-branch : goal.returns-then-branch
returns-then-branch c =
    alike_by_sums c.args.first.now c.args.second.now c.in_ok-mine.mine c.in_ok-others.others c.in_ok-mine.ensures.keeps c.in_ok-others.ensures.keeps
    c.requires.lines c.lines-lines.result c.ops.result.now c.ops-2.result.now c.lines-lines.ensures.value c.ops.ensures c.ops-2.ensures
    (c.in_ok-have_same_sums.ensures c.if-branch.true)

pub returns : goal.returns
returns c =
    told_by_left c.args.first.now c.args.second.now c.in_ok-mine.mine c.in_ok-others.others c.in_ok-mine.ensures.keeps c.in_ok-others.ensures.keeps
    c.requires.lines c.in_ok-both.both c.in_ok-left.left c.in_ok-circuit.circuit c.in_ok-both.ensures c.in_ok-left.ensures.keeps
    c.in_ok-circuit.ensures.gates c.in_ok-finding.finding c.in_ok-finding.ensures
