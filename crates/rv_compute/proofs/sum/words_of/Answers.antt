use Rattle.std.proofs.Common.{◌≡◌, ◌^◌, ◌*◌, ◌%◌, ◌+◌, ◌-◌, List, Vec, Global, length, ap, refl, sym, subst, ◌∙◌, arith}
use Rattle.std.proofs.Math.Bool.{beq}
use Rattle.std.proofs.lemmas.Nat.{one_shl}
use Rattle.rv_gate.specs.Word.{word_with}
use Rattle.rv_gate.specs.Gate.{same}
use Rattle.rv_blif.specs.Logic.{any_holds}
use Rattle.rv_compute.specs.inside.Sums.{cover_value}
use Rattle.rv_blif.specs.declared.product.Product.{Product}
use Rattle.rv_compute.proofs.inside.AllAsked.{HaveWords, words_none, words_more, words_skip, words_all, beq-same}
use Rattle.rv_compute.proofs.sum.words_of.Goals as goal
use Rattle.rv_compute.proofs.sum.words_of.Goals.{then-any_holds_at-on+in_ok-push, else-any_holds_at-on}

pub loop-set-init : goal.loop-set-init
loop-set-init c =
    subst (λ (l : List Product). HaveWords c.args.node.now (length c.operands.result.now) 0 l)
    (sym c.new-products.ensures.items) (words_none c.args.node.now (length c.operands.result.now))

pub loop-set-preserved : goal.loop-set-preserved
loop-set-preserved c =
    let few = c.operands.ensures.valid.few in
    let node = c.args.node.now in
    let count = length c.operands.result.now in
    let set = c.loop-set.set in
    let size : count ≡ length node.operands = ap length c.operands.ensures.value in
    let one : 1 * 2 ^ count % 2 ^ 32 ≡ 2 ^ count = one_shl count 32 (omega arith) in
    let below = c.loop-set-test.true in
    let word = word_with count set in
    let value : cover_value node word ≡ beq c.any_holds_at.result c.on.result =
    ap (λ (ps : List Product). same (any_holds ps word) node.on) (sym c.products.ensures.value)
    ∙ ap (λ b. same b node.on) (sym c.any_holds_at.ensures)
    ∙ ap (same c.any_holds_at.result) (sym c.on.ensures)
    ∙ sym (beq-same c.any_holds_at.result c.on.result) in
    let P : List Product → Type 0 = λ l. HaveWords node count (set + 1) l in
    let V : Vec Product Global → List Product = λ v. v.items in
    let product : Product = record { care = 1 * 2 ^ count % 2 ^ 32 - 1; want = set } in
    elim c.if-any_holds_at-on.branch [
      | then-any_holds_at-on+in_ok-push w ↦
          subst P (sym (ap V w.products-is ∙ w.in_ok-push.ensures.items))
          (words_more node count set c.loop-set.products.items product (omega arith) (ap (λ n. n - 1) one) refl
          (value ∙ w.if-any_holds_at-on.true) c.loop-set.invariant)
      | else-any_holds_at-on w ↦
          subst P (sym (ap V w.products-is))
          (words_skip node count set c.loop-set.products.items (omega arith) (value ∙ w.if-any_holds_at-on.false)
          c.loop-set.invariant)
    ]

pub returns-clause-sum : goal.returns-clause-sum
returns-clause-sum c =
    let few = c.operands.ensures.valid.few in
    let count = length c.operands.result.now in
    let size : count ≡ length c.args.node.now.operands = ap length c.operands.ensures.value in
    let one : 1 * 2 ^ count % 2 ^ 32 ≡ 2 ^ count = one_shl count 32 (omega arith) in
    words_all c.args.node.now count c.loop-set.set c.loop-set.products.items size (omega arith) c.loop-set.invariant
