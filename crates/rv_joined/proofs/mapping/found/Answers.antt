use Rattle.std.proofs.Common.{◌≡◌, ℕ, ◌-◌, ◌≤◌, List, length, sym, subst, ap, ◌∙◌, arith}
use Rattle.std.specs.List.{flat_map}
use Rattle.std.specs.Prelude.{count_by}
use Rattle.rv_gate.specs.Every.{Every}
use Rattle.rv_gate.specs.Gate.{IsFlipOn}
use Rattle.rv_gate.specs.Greatest.{greatest}
use Rattle.rv_mct.specs.Blocks.{added, flip_wish, flips_of}
use Rattle.rv_net.specs.Op.{Network, is_t}
use Rattle.rv_joined.specs.Joined.{MapsJoined}
use Rattle.rv_joined.specs.inside.Brings.{RunsAs}
use Rattle.rv_joined.specs.inside.Shorter.{AreFlips}
use Rattle.rv_joined.proofs.inside.Joins.{got}
use Rattle.rv_joined.proofs.inside.Whole.{flips_on, maps_at, wishes}
use Rattle.rv_joined.proofs.mapping.found.Goals as goal

pub best-requires-clause-flips : goal.best-requires-clause-flips
best-requires-clause-flips c =
    let circuit = c.args.circuit.now in
    let n : ℕ = c.line_count-lines.result in
    let rest : ℕ = c.lines-all.result - n in
    let value = c.line_count-lines.ensures.value in
    let given = c.recall_invariant.ensures in
    let few : length circuit.names ≤ 64 = omega (arith, value, c.line_count-lines.ensures.few) in
    let lines = ap (λ (m : Network). m.lines) c.requires.is in
    let le : added c.args.aux (length circuit.names) circuit.gates ≤ rest =
    omega (arith, lines, c.lines-all.ensures.value, value) in
    let e : c.deref.result.now ≡ flat_map flips_of circuit.gates =
    c.deref.ensures.value ∙ c.in_ok-flips.ensures ∙ ap (flat_map flips_of) c.gates.ensures in
    subst (AreFlips (record { aux = c.args.aux; lines = n; extra = rest })) (sym e) (record {
      own =
          subst (λ (m : ℕ). Every (IsFlipOn m) (flat_map flips_of circuit.gates)) (sym value)
          (flips_on (length circuit.names) circuit.gates few given.valid given.fitting);
      enough =
          subst (λ (m : ℕ). greatest (flip_wish c.args.aux m) (flat_map flips_of circuit.gates) ≤ rest) (sym value)
          (wishes c.args.aux (length circuit.names) rest circuit.gates le);
    })

pub of_ops-requires : goal.of_ops-requires
of_ops-requires c =
    (maps_at c.args.aux c.args.circuit.now c.args.net.now c.line_count-lines.result c.lines-all.result c.in-Some.ops.items
    c.deref.result.now c.recall_invariant.ensures c.requires c.line_count-lines.ensures.value c.lines-all.ensures.value
    (omega (arith, c.if-all-lines.false))
    (c.deref.ensures.value ∙ c.in_ok-flips.ensures ∙ ap (flat_map flips_of) c.gates.ensures)
    (got (λ ops. RunsAs (record { aux = c.args.aux; lines = c.line_count-lines.result; extra = c.lines-all.result - c.line_count-lines.result }) ops.items c.deref.result.now)
    c.in_ok-ops.field-0 c.in-Some.ops c.in-Some.is c.in_ok-ops.ensures)
    (omega (arith, c.if-len-gt-MOST_OPS.false, c.len.ensures))
    (let a : count_by is_t c.in-Some.ops.items ≡ c.t_count.result =
    ap (count_by is_t) (sym c.deref-else-len-gt-MOST_OPS.ensures.value) ∙ sym c.t_count.ensures in
    let b : c.t_count-else-len-gt-MOST_OPS.result ≡ count_by is_t c.args.net.now.ops =
    c.t_count-else-len-gt-MOST_OPS.ensures ∙ ap (count_by is_t) c.ops.ensures in
    omega (arith, a, b, c.if-t_count.false))).valid

pub returns : goal.returns
returns c =
    subst (MapsJoined c.args.aux c.args.circuit.now) (sym c.of_ops.ensures)
    (maps_at c.args.aux c.args.circuit.now c.args.net.now c.line_count-lines.result c.lines-all.result c.in-Some.ops.items
    c.deref.result.now c.recall_invariant.ensures c.requires c.line_count-lines.ensures.value c.lines-all.ensures.value
    (omega (arith, c.if-all-lines.false))
    (c.deref.ensures.value ∙ c.in_ok-flips.ensures ∙ ap (flat_map flips_of) c.gates.ensures)
    (got (λ ops. RunsAs (record { aux = c.args.aux; lines = c.line_count-lines.result; extra = c.lines-all.result - c.line_count-lines.result }) ops.items c.deref.result.now)
    c.in_ok-ops.field-0 c.in-Some.ops c.in-Some.is c.in_ok-ops.ensures)
    (omega (arith, c.if-len-gt-MOST_OPS.false, c.len.ensures))
    (let a : count_by is_t c.in-Some.ops.items ≡ c.t_count.result =
    ap (count_by is_t) (sym c.deref-else-len-gt-MOST_OPS.ensures.value) ∙ sym c.t_count.ensures in
    let b : c.t_count-else-len-gt-MOST_OPS.result ≡ count_by is_t c.args.net.now.ops =
    c.t_count-else-len-gt-MOST_OPS.ensures ∙ ap (count_by is_t) c.ops.ensures in
    omega (arith, a, b, c.if-t_count.false)))
