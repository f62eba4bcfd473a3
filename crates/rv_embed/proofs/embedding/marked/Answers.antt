use Rattle.std.proofs.Common.{◌≡◌, ◌-◌, ◌++◌, ℕ, List, Bool, true, false, set, replicate, refl, sym, ◌∙◌, ap, arith}
use Rattle.rv_gate.specs.declared.circuit.Mark.{Mark}
use Rattle.rv_gate.specs.declared.circuit.Mark.TheVariants.{Input, Zero}
use Rattle.rv_perm.specs.Marked.{Marked}
use Rattle.rv_perm.specs.Perm.{Table}
use Rattle.rv_embed.proofs.TableLemmas.{in_turn_none, in_turn_step, in_turn_all}
use Rattle.rv_embed.proofs.embedding.marked.Goals as goal

pub loop-line-init : goal.loop-line-init
loop-line-init c =
    let lines : ℕ = c.lines-lines.result in
    record {
      table = refl;
      constants =
          ap (λ (m : Marked). m.constants) c.new-spec.ensures
          ∙ ap (λ n. replicate n Input) (sym c.lines-lines.ensures.value)
          ∙ in_turn_none c.args.inputs lines Input Zero (omega (arith, c.lines-lines.ensures.value));
      garbage = refl;
    }

pub loop-line-preserved : goal.loop-line-preserved
loop-line-preserved c =
    rw c.set_constant.ensures (record {
      table = c.loop-line.invariant.table;
      constants =
          ap (λ (l : List Mark). set l c.loop-line.line Zero) c.loop-line.invariant.constants
          ∙ in_turn_step c.args.inputs c.lines-lines.result c.loop-line.line Input Zero Input (omega arith) (omega arith);
      garbage = c.loop-line.invariant.garbage;
    })

pub loop-line-2-init : goal.loop-line-2-init
loop-line-2-init c = record {
  table = refl;
  constants = refl;
  garbage =
      c.loop-line.invariant.garbage
      ∙ ap (λ (m : Marked). m.garbage) c.new-spec.ensures
      ∙ ap (λ n. replicate n false) (sym c.lines-lines.ensures.value)
      ∙ in_turn_none c.args.outs c.lines-lines.result false true (omega (arith, c.lines-lines.ensures.value));
}

pub loop-line-2-preserved : goal.loop-line-2-preserved
loop-line-2-preserved c =
    rw c.set_garbage.ensures (record {
      table = c.loop-line-2.invariant.table;
      constants = c.loop-line-2.invariant.constants;
      garbage =
          ap (λ (l : List Bool). set l c.loop-line-2.line true) c.loop-line-2.invariant.garbage
          ∙ in_turn_step c.args.outs c.lines-lines.result c.loop-line-2.line false true false (omega arith) (omega arith);
    })

-- a permutation with its marks, from its parts
from_parts : (m : Marked) (table : Table) (constants : List Mark) (garbage : List Bool) → m.table ≡ table → m.constants ≡ constants → m.garbage ≡ garbage
    → m ≡ record { table = table; constants = constants; garbage = garbage }
from_parts m table constants garbage t c g =
    ap (λ (x : Table). record m { table = x }) t
    ∙ ap (λ (x : List Mark). record m { table = table; constants = x }) c
    ∙ ap (λ (x : List Bool). record m { table = table; constants = constants; garbage = x }) g

pub returns : goal.returns
returns c =
    let lines : c.lines-lines.result ≡ c.args.perm.lines = c.lines-lines.ensures.value in
    from_parts c.loop-line-2.spec c.args.perm _ _
    (c.loop-line-2.invariant.table ∙ c.loop-line.invariant.table ∙ ap (λ (m : Marked). m.table) c.new-spec.ensures)
    (c.loop-line-2.invariant.constants
    ∙ c.loop-line.invariant.constants
    ∙ in_turn_all c.args.inputs c.lines-lines.result c.loop-line.line Input Zero Input (omega (arith, lines))
    ∙ ap (λ n. replicate c.args.inputs Input ++ replicate (n - c.args.inputs) Zero) lines)
    (c.loop-line-2.invariant.garbage
    ∙ in_turn_all c.args.outs c.lines-lines.result c.loop-line-2.line false true false (omega (arith, lines))
    ∙ ap (λ n. replicate c.args.outs false ++ replicate (n - c.args.outs) true) lines)
