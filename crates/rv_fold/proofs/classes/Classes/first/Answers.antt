use Rattle.std.proofs.Common.{◌∙◌, sym, inl, inr}
use Rattle.std.proofs.lemmas.Bool.{false≢true}
use Rattle.rv_fold.specs.inside.Slots.{found}
use Rattle.rv_fold.proofs.inside.Beginnings.{begins_with_old, begins_with_new, since_phase}
use Rattle.rv_fold.proofs.classes.Classes.first.Goals as goal
use Rattle.rv_fold.proofs.classes.Classes.first.Goals.{in-Some+else-is_kept, in_default}

pub returns-then-is_kept : goal.returns-then-is_kept
returns-then-is_kept c n ops fit old here =
    let b = begins_with_old n ops c.args.place c.args.parity here fit (found c.args.self.now.firsts) c.args.self.now.sinces.items c.in-Some.first
    old.sinces old.firsts (sym c.in-Some.ensures) (c.is_kept.ensures.0 c.if-is_kept.true) in
    (b.0, record { sinces = since_phase n ops c.args.place c.args.parity here fit c.args.self.now.sinces.items old.sinces; firsts = b.1 })

pub returns : goal.returns
returns c n ops fit old here =
    let b = begins_with_new n ops c.args.place c.args.parity here fit (found c.args.self.now.firsts) (found c.note.new.self) c.args.self.now.sinces.items
    old.sinces old.firsts
    (elim c.match-look_up.branch [
      | in-Some+else-is_kept w ↦ inr (w.in-Some.first, sym w.in-Some.ensures, λ all. false≢true (sym w.if-is_kept.false ∙ w.is_kept.ensures.1 all))
      | in_default w ↦ inl (sym c.look_up.ensures ∙ w.in_default.is)
    ]) c.in_ok-note.ensures in
    (b.0, record { sinces = since_phase n ops c.args.place c.args.parity here fit c.args.self.now.sinces.items old.sinces; firsts = b.1 })
