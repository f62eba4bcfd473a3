use Rattle.std.proofs.Common.{◌≡◌, ◌^◌, ◌∙◌, length, map, sym, ap, rules, subst, vec_len}
use Rattle.std.proofs.lemmas.List.{length-map}
use Rattle.std.proofs.lemmas.List.Elements.{All-same}
use Rattle.std.specs.List.{list_any}
use Rattle.rv_net.specs.Op.{OpFitsIn}
use Rattle.rv_check.specs.Reduced.{is_large}
use Rattle.rv_check.specs.inside.Kept.{kept_more, moved}
use Rattle.rv_check.specs.inside.Small.{AreSmall}
use Rattle.rv_check.specs.inside.View.{kept_of}
use Rattle.rv_net.specs.declared.op.Op.TheVariants.{H}
use Rattle.rv_check.proofs.InPlace.{written_whole}
use Rattle.rv_check.proofs.inside.Places.{fits_one, kept_more-moved, kept_more-turned, moved_small, small_enough, small_turn}
use Rattle.rv_check.proofs.following.KeptVector.step.Goals as goal

pub turn-requires-clause-small : goal.turn-requires-clause-small
turn-requires-clause-small c = small_turn c.args.self.now.members.items c.requires.small

pub turn-requires-clause-lines : goal.turn-requires-clause-lines
turn-requires-clause-lines c = let fits : OpFitsIn (H c.in-H.line) c.requires.lines.0 = subst (λ op. OpFitsIn op c.requires.lines.0) c.in-H.is c.requires.lines.1 in (c.requires.lines.0, fits, c.requires.lines.2)

pub move_all-requires-clause-fits : goal.move_all-requires-clause-fits
move_all-requires-clause-fits c =
    All-same (λ m. OpFitsIn c.args.op (length m.word)) _ _ c.deref_mut.ensures.value
    (fits_one c.args.op c.requires.lines.0 c.args.self.now.members.items c.requires.lines.1 c.requires.lines.2.each)

pub move_all-requires-clause-small : goal.move_all-requires-clause-small
move_all-requires-clause-small c =
    All-same (λ m. AreSmall (2 ^ 120) m.value) _ _ c.deref_mut.ensures.value (small_enough c.args.self.now.members.items c.requires.small)

pub returns-in_ok-turn-in-H-clause-kept : goal.returns-in_ok-turn-in-H-clause-kept
returns-in_ok-turn-in-H-clause-kept c =
    c.in_ok-turn-in-H.ensures.kept ∙ sym (kept_more-turned c.in-H.line (kept_of c.args.self.now)) ∙ ap (kept_more (kept_of c.args.self.now)) (sym c.in-H.is)

pub returns-in_default-clause-kept : goal.returns-in_default-clause-kept
returns-in_default-clause-kept c =
    let old = c.args.self.now.members in
    let len : vec_len old ≡ length old.items = search rules in
    let new : c.move_all.new.members ≡ map (moved c.args.op) old.items = c.move_all.ensures ∙ ap (map (moved c.args.op)) c.deref_mut.ensures.value in
    let whole = written_whole (vec_len old) old.items c.move_all.new.members len (ap length new ∙ length-map old.items (moved c.args.op)) in
    (λ i. record { members = (whole ∙ new) i; exponent = c.args.self.now.exponent }) ∙ sym (kept_more-moved c.args.op (kept_of c.args.self.now) c.in_default.not-H)

pub returns-in_default-clause-large : goal.returns-in_default-clause-large
returns-in_default-clause-large c =
    let old = c.args.self.now.members in
    let len : vec_len old ≡ length old.items = search rules in
    let new : c.move_all.new.members ≡ map (moved c.args.op) old.items = c.move_all.ensures ∙ ap (map (moved c.args.op)) c.deref_mut.ensures.value in
    let whole = written_whole (vec_len old) old.items c.move_all.new.members len (ap length new ∙ length-map old.items (moved c.args.op)) in
    sym (ap (list_any (λ m. is_large m.value)) (whole ∙ new) ∙ moved_small c.args.op old.items c.requires.small)
