use Rattle.std.proofs.Common.{◌≡◌, ◌++◌, ℕ, List, length, take, drop, sym, ap, ◌∙◌, arith, replicate}
use Rattle.std.proofs.Math.Seq.{take-append_seam}
use Rattle.std.proofs.lemmas.Nat.{one_shl}
use Rattle.rv_pla.specs.Pla.{is_esop, Term}
use Rattle.rv_pla.specs.inside.Table.{part}
use Rattle.rv_pla.proofs.inside.Gathering.{gathered_none, gathered_more, gathered_all}
use Rattle.rv_pla.proofs.table.gathered.Goals as goal

pub loop-term-init : goal.loop-term-init
loop-term-init c =
    let e = one_shl c.args.inputs 64 (omega arith) in
    let len = c.in_ok-table.ensures.len in
    let z = c.in_ok-table.ensures.items_if_clones_equal in
    gathered_none (is_esop c.args.kind) (part c.args.kind c.args.second) c.args.inputs c.in_ok-table.table.items (z (λ y h. h) ∙ ap (λ n. replicate n 0) e) (omega arith)

-- what a slice of the whole list became
written_back : (n : ℕ) (new old : List ℕ) → length new ≡ n → take n (new ++ drop (length new) old) ≡ new
written_back n new old len = ap (λ k. take k (new ++ drop (length new) old)) (sym len) ∙ take-append_seam new (drop (length new) old)

pub loop-term-preserved : goal.loop-term-preserved
loop-term-preserved c =
    let terms = c.args.terms.now in
    let i : ℕ = c.loop-term.term-index in
    let term : Term = c.term-item.result in
    let same = c.deref_mut.ensures.value in
    let cube = ap (λ (t : Term). t.cube) c.term.view_is in
    rw (written_back c.loop-term.table.len c.join.new.table c.loop-term.table.items (omega arith))
    (gathered_more (is_esop c.args.kind) (part c.args.kind c.args.second) c.args.inputs i terms term term c.part.result c.loop-term.table.items c.join.new.table
    c.loop-term.invariant c.loop-term-test.true c.term-item.is c.part.ensures (omega arith)
    (λ x h. rw (same, c.is_esop.ensures, cube) at c.join.ensures x (omega arith)))

pub returns : goal.returns
returns c = gathered_all (is_esop c.args.kind) (part c.args.kind c.args.second) c.args.inputs c.loop-term.term-index c.args.terms.now c.loop-term.table.items c.loop-term-test.false c.loop-term.invariant
