use Rattle.std.proofs.Common.{◌≡◌, [], ◌∷◌, List, ap, sym, ◌∙◌, subst}
use Rattle.std.proofs.lemmas.Option.{same_Some}
use Rattle.rv_gate.specs.declared.gate.Shape.{Shape}
use Rattle.rv_templ.specs.inside.Joins.{option_of}
use Rattle.rv_templ.specs.inside.Notes.{Apart}
use Rattle.rv_templ.proofs.inside.NoteLaws.{apart_nothing}
use Rattle.rv_templ.proofs.notes.forget_made.Goals as goal

pub returns-in-Both-clause-apart : goal.returns-in-Both-clause-apart
returns-in-Both-clause-apart c gates n xs ys eo i s =
    let none : [] ≡ gates = same_Some [] gates (sym (ap option_of c.in-Both.is) ∙ eo) in
    subst (λ (l : List Shape). Apart c.args.linked.now.notes l xs) none (apart_nothing c.args.linked.now.notes xs)

pub returns-in-One-clause-apart : goal.returns-in-One-clause-apart
returns-in-One-clause-apart c gates n xs ys eo i s =
    let one : c.in-One.new ∷ [] ≡ gates = same_Some (c.in-One.new ∷ []) gates (sym (ap option_of c.in-One.is) ∙ eo) in
    subst (λ (l : List Shape). Apart c.forget_joined.new.linked.notes l xs) one (c.forget_joined.ensures.apart n xs ys i s)
