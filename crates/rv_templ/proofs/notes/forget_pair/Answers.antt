use Rattle.std.proofs.Common.{◌≤◌, ◌++◌, ◌∷◌, List, length, length-append, take, ap, ◌∙◌, inl, inr, arith, subst}
use Rattle.std.proofs.lemmas.Bool.{cases_eq}
use Rattle.std.proofs.lemmas.List.{take-take}
use Rattle.rv_links.specs.Nodes.{Node, live}
use Rattle.rv_templ.specs.inside.Notes.{AllNoted}
use Rattle.rv_templ.proofs.inside.ForgetWalks.{second_off}
use Rattle.rv_templ.proofs.inside.LinkedPairs.{place_is, before_second, second_live}
use Rattle.rv_templ.proofs.inside.NoteLaws.{known_first, known_others}
use Rattle.rv_templ.proofs.inside.NotesAfter.{settled, settled_free}
use Rattle.rv_templ.proofs.notes.forget_pair.Goals as goal

pub forget_made-gone-requires : goal.forget_made-gone-requires
forget_made-gone-requires c = ap (live c.args.pair.now.b) c.set_note.ensures.nodes ∙ second_live _ _ _ c.requires.spot.mate

pub set_note-requires : goal.set_note-requires
set_note-requires c = second_live _ _ _ c.requires.spot.mate

pub returns-then-gone-clause-right : goal.returns-then-gone-clause-right
returns-then-gone-clause-right c s =
    let m = s.mate in
    settled_free _ _ _ _ _ _ _ m c.set_note.ensures.here c.set_note.ensures.others c.forget_made-gone.ensures.fewer c.requires.right (c.are_free-free.ensures.first c.if-free.true m) (c.are_free-free.ensures.second c.if-free.true m)
    (c.forget_made-gone.ensures.apart m.gates m.second (m.before ++ (m.first ∷ m.between)) m.after (c.joined-made.ensures.value m) m.is_second (c.set_note.ensures.nodes ∙ before_second _ _ _ m))

pub returns-else-gone-clause-right : goal.returns-else-gone-clause-right
returns-else-gone-clause-right c s =
    let m = s.mate in
    settled_free _ _ _ _ _ _ _ m c.set_note.ensures.here c.set_note.ensures.others c.forget_made-gone.ensures.fewer c.requires.right (c.are_free-free.ensures.first c.if-free.true m) (c.are_free-free.ensures.second c.if-free.true m)
    (c.forget_made-gone.ensures.apart m.gates m.second (m.before ++ (m.first ∷ m.between)) m.after (c.joined-made.ensures.value m) m.is_second (c.set_note.ensures.nodes ∙ before_second _ _ _ m))

pub returns-else-gone-clause-known : goal.returns-else-gone-clause-known
returns-else-gone-clause-known c =
    let off = second_off _ c.args.here.place _ _ _ c.requires.spot c.recall_invariant.ensures.once (omega (arith, c.requires.place)) in
    rw (c.forget_made-gone.ensures.same c.if-gone.false) (known_others _ _ c.args.pair.now.b _ off c.set_note.ensures.others c.requires.known)

pub returns-clause-right : goal.returns-clause-right
returns-clause-right c s =
    let m = s.mate in
    let place = place_is _ _ _ _ s in
    let le : c.back-low.result.place ≤ length m.before = omega (arith, c.back-low.ensures.place, c.saturating_sub.ensures, c.requires.place, place) in
    settled _ _ _ _ _ _ _ c.back-low.result.place m c.set_note.ensures.here c.set_note.ensures.others c.forget_near.ensures.fewer c.requires.right le
    (elim (cases_eq c.back-low.result.place 0) [
      | inl z ↦ inl z
      | inr some ↦ inr (omega (arith, some, c.back-low.ensures.place, c.saturating_sub.ensures, c.requires.place, place))
    ])
    (c.forget_near.ensures.kept m.gates m.first m.second (m.before ++ (m.first ∷ m.between)) m.after (c.joined-made.ensures.value m) m.is_first m.is_second (omega (arith, le, length-append m.before (m.first ∷ m.between))) (c.set_note.ensures.nodes ∙ before_second _ _ _ m))

pub returns-clause-known : goal.returns-clause-known
returns-clause-known c =
    let nodes : List Node = c.args.linked.now.nodes in
    let low = c.back-low.result.place in
    let le : low ≤ c.args.here.place = omega (arith, c.back-low.ensures.place) in
    let off = second_off nodes low _ _ _ c.requires.spot c.recall_invariant.ensures.once (omega (arith, le, c.requires.place)) in
    let old : AllNoted c.args.linked.now.notes (take low nodes) = subst (λ (l : List Node). AllNoted c.args.linked.now.notes l) (take-take low c.args.here.place nodes le) (known_first c.args.linked.now.notes low (take c.args.here.place nodes) c.requires.known) in
    let before = rw c.set_note.ensures.nodes at c.forget_near.ensures.before in
    before (known_others _ _ c.args.pair.now.b (take low nodes) off c.set_note.ensures.others old)
