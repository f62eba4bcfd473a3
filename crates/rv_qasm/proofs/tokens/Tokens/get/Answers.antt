use Rattle.std.proofs.Common.{◌≡◌, length, slice_get, refl, sym, ap, ◌∙◌, arith, rules, vec_len}
use Rattle.rv_qasm.proofs.inside.Flat.{length-cut_at, Ascend-get, got_order, got_next, got_last}
use Rattle.rv_qasm.proofs.tokens.Tokens.get.Goals as goal

pub index-requires : goal.index-requires
index-requires c =
    let is : vec_len c.self.inside.starts ≡ length c.self.inside.starts.items = search rules in
    omega (arith, is, length-cut_at c.self.inside.starts.items c.self.inside.bytes.items, ap length c.self.view_is, c.requires)

pub overflow_add-after : goal.overflow_add-after
overflow_add-after c =
    let is : vec_len c.self.inside.starts ≡ length c.self.inside.starts.items = search rules in
    omega (arith, is, length-cut_at c.self.inside.starts.items c.self.inside.bytes.items, ap length c.self.view_is, c.requires, c.len-count.ensures, c.len-count.type_inv)

pub part-requires-clause-order : goal.part-requires-clause-order
part-requires-clause-order c =
    let is : vec_len c.self.inside.starts ≡ length c.self.inside.starts.items = search rules in
    (got_order c.self.inside.starts.items (length c.self.inside.bytes.items) c.args.index c.index.result.now c.index-then-after-count.result.now c.self.invariant (omega (arith, is, c.len-count.ensures, c.if-after-count.true)) c.index.ensures c.index-then-after-count.ensures).0

pub part-requires-clause-end : goal.part-requires-clause-end
part-requires-clause-end c =
    let is : vec_len c.self.inside.starts ≡ length c.self.inside.starts.items = search rules in
    rw c.deref.ensures.value
    ((got_order c.self.inside.starts.items (length c.self.inside.bytes.items) c.args.index c.index.result.now c.index-then-after-count.result.now c.self.invariant (omega (arith, is, c.len-count.ensures, c.if-after-count.true)) c.index.ensures c.index-then-after-count.ensures).1)

pub part-requires-else-after-count-clause-order : goal.part-requires-else-after-count-clause-order
part-requires-else-after-count-clause-order c =
    let is : vec_len c.self.inside.bytes ≡ length c.self.inside.bytes.items = search rules in
    omega (arith, is, c.len.ensures, c.index.ensures, Ascend-get (length c.self.inside.bytes.items) c.self.inside.starts.items c.args.index c.index.result.now c.self.invariant (rw (← length-cut_at c.self.inside.starts.items c.self.inside.bytes.items, c.self.view_is) c.requires))

pub returns-then-after-count : goal.returns-then-after-count
returns-then-after-count c =
    let is : vec_len c.self.inside.starts ≡ length c.self.inside.starts.items = search rules in
    ap (λ lists. slice_get lists c.args.index) (sym c.self.view_is)
    ∙ got_next c.self.inside.starts.items c.self.inside.bytes.items c.args.index c.index.result.now c.index-then-after-count.result.now (omega (arith, is, c.len-count.ensures, c.if-after-count.true)) c.index.ensures c.index-then-after-count.ensures
    ∙ rw (c.part.ensures, c.deref.ensures.value) refl

pub returns-else-after-count : goal.returns-else-after-count
returns-else-after-count c =
    let is : vec_len c.self.inside.starts ≡ length c.self.inside.starts.items = search rules in
    let bytes : vec_len c.self.inside.bytes ≡ length c.self.inside.bytes.items = search rules in
    ap (λ lists. slice_get lists c.args.index) (sym c.self.view_is)
    ∙ got_last c.self.inside.starts.items c.self.inside.bytes.items c.args.index c.index.result.now (rw (← length-cut_at c.self.inside.starts.items c.self.inside.bytes.items, c.self.view_is) c.requires) (omega (arith, is, c.len-count.ensures, c.if-after-count.false)) c.index.ensures
    ∙ rw (c.part-else-after-count.ensures, c.deref-else-after-count.ensures.value, c.len.ensures, bytes) refl
