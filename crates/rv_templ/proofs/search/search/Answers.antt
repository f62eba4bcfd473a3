use Rattle.std.proofs.Common.{◌≡◌, sym, ◌∙◌, ap, arith}
use Rattle.rv_templ.specs.inside.Library.{templates_in}
use Rattle.rv_templ.specs.Choices.{at_most}
use Rattle.rv_templ.proofs.inside.ChoiceLemmas.{most_found, most_none}
use Rattle.rv_templ.proofs.search.search.Goals as goal

pub returns-in-Some : goal.returns-in-Some
returns-in-Some c =
    sym (most_found c.args.gates.now (templates_in c.args.templates.now) c.loop-count.count _ c.loop-count-test.true c.in-Some.ensures)
    ∙ c.loop-count.invariant.rest

pub loop-count-preserved : goal.loop-count-preserved
loop-count-preserved c = record {
  rest =
      sym (most_found c.args.gates.now (templates_in c.args.templates.now) c.loop-count.count _ c.loop-count-test.true c.in_default.ensures)
      ∙ c.loop-count.invariant.rest;
  within = omega (arith, c.loop-count.invariant.within);
}

pub returns : goal.returns
returns c =
    let z : c.loop-count.count ≡ 0 = omega (arith, c.loop-count-test.false) in
    sym (most_none c.args.gates.now (templates_in c.args.templates.now)) ∙ ap (at_most c.args.gates.now (templates_in c.args.templates.now)) (sym z) ∙ c.loop-count.invariant.rest
