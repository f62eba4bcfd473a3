use Rattle.std.proofs.Common.{ℕ, [], ◌∷◌, refl, subst}
use Rattle.rv_forms.specs.inside.Held.{Leads}
use Rattle.rv_joined.proofs.inside.Joins.{grows_exact}
use Rattle.rv_joined.proofs.follow.follow_flip.Goals as goal

pub returns-in_default : goal.returns-in_default
returns-in_default c on =
    let old = c.args.state.now in
    let terms = c.args.terms.now in
    grows_exact c.args.setup terms old
    (record { ops = c.add_flip_net.new.ops; held = c.step.new.held; slots = old.slots }) c.args.flip c.requires.few
    c.requires.own c.requires.enough
    (subst (λ (f : ℕ). Leads terms f old.held.items (c.args.flip ∷ []) c.step.new.held.items) c.from-first.ensures
    (c.in_ok-followed.ensures on))
    refl c.in_ok-add_flip_net.ensures
