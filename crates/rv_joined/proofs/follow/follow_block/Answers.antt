use Rattle.std.proofs.Common.{ℕ, List, [], ◌∷◌, subst}
use Rattle.rv_forms.specs.declared.form.Form.{Form}
use Rattle.rv_forms.specs.inside.Held.{Leads}
use Rattle.rv_joined.specs.inside.Brings.{IsLiteral, IsOnLine}
use Rattle.rv_joined.proofs.inside.Joins.{got, grows_block}
use Rattle.rv_joined.proofs.follow.follow_block.Goals as goal

pub returns : goal.returns
returns c on =
    let two = c.in-Some.toffoli in
    let old = c.args.state.now in
    let terms = c.args.terms.now in
    let a = c.in-Some-2.a in
    let b = c.in-Some-3.c in
    let before = c.in-Some-4.before in
    let after = c.in-Some-5.after in
    grows_block c.args.setup terms old
    (record { ops = c.add_block.new.ops; held = c.step.new.held; slots = c.add_parts.new.slots }) c.args.flip two
    c.args.block a b before after c.requires.few c.requires.own c.in-Some.ensures
    (subst (λ (f : ℕ). Leads terms f old.held.items (c.args.flip ∷ []) c.step.new.held.items) c.from-first.ensures
    (c.in_ok-step.ensures c.if-not-branch.false))
    (subst (λ (h : List Form). IsLiteral h two.a a) c.deref.ensures.value
    (got (IsLiteral c.deref.result.now two.a) c.in_ok-a.field-0 a c.in-Some-2.is c.in_ok-a.ensures))
    (subst (λ (h : List Form). IsLiteral h two.c b) c.deref-2.ensures.value
    (got (IsLiteral c.deref-2.result.now two.c) c.in_ok-c.field-0 b c.in-Some-3.is c.in_ok-c.ensures))
    (subst (λ (h : List Form). IsOnLine h two.target before) c.deref-3.ensures.value
    (got (IsOnLine c.deref-3.result.now two.target) c.in_ok-before.field-0 before c.in-Some-4.is c.in_ok-before.ensures))
    (subst (λ (h : List Form). IsOnLine h two.target after) c.deref-4.ensures.value
    (got (IsOnLine c.deref-4.result.now two.target) c.in_ok-after.field-0 after c.in-Some-5.is c.in_ok-after.ensures))
    c.in_ok-add_parts.ensures c.in_ok-add_block.ensures
