use Rattle.std.proofs.lemmas.Bool.{false≢true}
use Rattle.std.proofs.Common.{rules, Vec, Global, ◌≡◌, ◌+◌, ℕ, List, length, ap, sym, subst, ◌∙◌}
use Rattle.std.specs.Prelude.{Option, is_some}
use Rattle.rv_gate.specs.declared.gate.Gate.{Gate}
use Rattle.rv_blif.specs.Logic.{Node}
use Rattle.rv_compute.specs.declared.place.Place.{Place}
use Rattle.rv_compute.specs.Bounds.{line_bound}
use Rattle.rv_compute.specs.inside.Places.{AreBeside, AreThere}
use Rattle.rv_compute.specs.inside.Blocks.{Adds, AreFew}
use Rattle.rv_compute.specs.inside.Own.{own_places}
use Rattle.rv_compute.proofs.inside.Owning.{own_there, own_beside, if_some}
use Rattle.rv_compute.proofs.own.put.Goals as goal

pub block_of-requires-clause-beside : goal.block_of-requires-clause-beside
block_of-requires-clause-beside c =
    let logic = c.args.logic.now in
    let lines : c.input_count.result + c.output_count.result + length c.nodes.result.now ≡ line_bound logic =
    ap (λ k. k + c.output_count.result + length c.nodes.result.now) c.input_count.ensures.value
    ∙ ap (λ k. length logic.inputs + k + length c.nodes.result.now) c.output_count.ensures.value
    ∙ ap (λ (l : List Node). length logic.inputs + length logic.outputs + length l) c.nodes.ensures.value in
    let places : c.deref.result.now ≡ own_places logic c.args.signals.now =
    c.deref.ensures.value ∙ c.in_ok-places.ensures in
    subst (λ (n : ℕ). AreBeside n c.args.line c.deref.result.now) (sym lines)
    (subst (λ (l : List (Option Place)). AreBeside (line_bound logic) c.args.line l) (sym places)
    (own_beside logic c.args.signals.now c.args.line c.requires.there c.requires.apart))

pub unreachable-requires : goal.unreachable-requires
unreachable-requires c =
    let logic = c.args.logic.now in
    let places : c.deref.result.now ≡ own_places logic c.args.signals.now =
    c.deref.ensures.value ∙ c.in_ok-places.ensures in
    false≢true
    (sym (ap is_some c.in_default.is)
    ∙ c.in_ok-block.ensures.there
    (subst (λ (l : List (Option Place)). AreThere l) (sym places) (own_there logic c.args.signals.now)))

pub returns : goal.returns
returns c =
    let logic = c.args.logic.now in
    let line = c.args.line in
    let products = c.args.products.now in
    let told = c.input_count.result + c.output_count.result + length c.nodes.result.now in
    let lines : told ≡ line_bound logic =
    ap (λ k. k + c.output_count.result + length c.nodes.result.now) c.input_count.ensures.value
    ∙ ap (λ k. length logic.inputs + k + length c.nodes.result.now) c.output_count.ensures.value
    ∙ ap (λ (l : List Node). length logic.inputs + length logic.outputs + length l) c.nodes.ensures.value in
    let places : c.deref.result.now ≡ own_places logic c.args.signals.now =
    c.deref.ensures.value ∙ c.in_ok-places.ensures in
    let there = subst (λ (l : List (Option Place)). AreThere l) (sym places) (own_there logic c.args.signals.now) in
    let block = c.in-Some.block.items in
    record {
      block = block;
      adds =
          subst (λ (l : List (Option Place)). Adds (line_bound logic) l line products block) places
          (subst (λ (n : ℕ). Adds n c.deref.result.now line products block) lines
          (if_some (λ (gates : Vec Gate Global). Adds told c.deref.result.now line products gates.items)
          c.in_ok-block.field-0 c.in-Some.block c.in-Some.is c.in_ok-block.ensures.adds));
      few =
          subst (λ (n : ℕ). AreFew n (length products) block) lines
          (if_some (λ (gates : Vec Gate Global). AreFew told (length products) gates.items)
          c.in_ok-block.field-0 c.in-Some.block c.in-Some.is (c.in_ok-block.ensures.few there));
      gates_are = search rules;
    }
