use Rattle.std.proofs.Common.{◌≡◌, ◌∙◌, ap, sym, arith, take, length, map}
use Rattle.std.proofs.lemmas.List.{take-map}
use Rattle.rv_gate.specs.Word.{bit_of}
use Rattle.rv_many.specs.Column.{column, row_bit}
use Rattle.rv_blif.specs.Logic.{outputs_of, values}
use Rattle.rv_blif.proofs.NodeLaws.{written_back}
use Rattle.rv_blif.proofs.logic.Logic.output_rows.Goals as goal

pub returns : goal.returns
unfolding outputs_of
returns c = λ j lt.
    let n = length c.args.self.now.inputs in
    let new = c.set_nodes.new.rows in
    let rows = c.in_ok-rows.rows.items in
    let same_rows : c.deref.result.now ≡ new = c.deref.ensures.value ∙ written_back rows new _ (omega (arith, c.set_nodes.ensures.lines, c.deref_mut.ensures.len)) in
    let inputs : take n (column rows j) ≡ column c.args.inputs.now j =
    take-map (λ r. row_bit r j) n rows ∙ ap (λ l. column l j) (ap (λ m. take m rows) (sym c.requires) ∙ c.in_ok-rows.ensures.inputs) in
    let bits : column c.deref.result.now j ≡ values c.args.self.now (column c.args.inputs.now j) =
    ap (λ l. column l j) same_rows ∙ c.set_nodes.ensures.words j lt ∙ ap (λ l. values c.args.self.now (take n (column l j))) c.deref_mut.ensures.value
    ∙ ap (values c.args.self.now) inputs in
    c.in_ok-picked.ensures j
    ∙ ap (λ word. map (λ o. bit_of word o.signal) c.outputs-outputs.result.now) bits
    ∙ ap (map (λ o. bit_of (values c.args.self.now (column c.args.inputs.now j)) o.signal)) c.outputs-outputs.ensures.value
