use Rattle.std.proofs.Common.{ℕ, ◌^◌, Contains, IfSome, refl, ap, sym, subst, ◌∙◌, arith}
use Rattle.std.specs.List.{range_with_len}
use Rattle.std.proofs.lemmas.List.FromFn.{length-range_with_len}
use Rattle.rv_optimal.specs.inside.Alike.{least}
use Rattle.rv_optimal.specs.inside.Levels.{after, IsWhole}
use Rattle.rv_optimal.specs.declared.alike.Alike.TheVariants.{Equal}
use Rattle.rv_optimal.proofs.inside.After.{after-none}
use Rattle.rv_optimal.proofs.inside.Growing.{from_next, next_level, none_here}
use Rattle.rv_optimal.proofs.search.+meet.Goals as goal

pub returns-in-Some-clause-leads : goal.returns-in-Some-clause-leads
returns-in-Some-clause-leads t c =
    ap (λ l. after c.args.perm.now.lines l c.in-Some.key) c.new.ensures.items ∙ after-none c.args.perm.now.lines c.in-Some.key

pub returns-then-depths-eq0-clause-longer : goal.returns-then-depths-eq0-clause-longer
returns-then-depths-eq0-clause-longer t c =
    none_here c.args.library c.args.perm.now.lines c.args.alike c.args.depths.front c.args.depths.back _ c.args.perm.now.images _ _ c.recall_invariant.ensures
    c.requires.front c.requires.back (c.in_default.ensures.apart refl) (omega (arith, c.if-depths-eq0.true))

pub meet-requires : goal.meet-requires
meet-requires t c =
    let n : ℕ = c.args.perm.now.lines in (
      omega (arith, c.decreases, c.if-depths-eq0.false),
      (
        c.requires.few,
        (
          omega (arith, c.requires.short, c.if-depths-eq0.false),
          (
            c.requires.moves,
            (
              c.requires.suits,
              (
                next_level c.lines-lines.result n c.word_count.result c.args.alike c.args.moves.now c.args.front.now c.in_ok-next.next.items c.deref.result.now c.lines-lines.ensures.value c.word_count.ensures.value c.deref.ensures.value
                    c.in_ok-next.ensures.same c.args.library c.args.depths.front (range_with_len 0 (2 ^ n)) c.args.gates.now c.requires.few (length-range_with_len 0 (2 ^ n)) c.requires.moves c.requires.suits
                    c.in_ok-next.ensures.rising c.requires.front,
                (
                  c.requires.back,
                  none_here c.args.library n c.args.alike c.args.depths.front c.args.depths.back _ c.args.perm.now.images _ _ c.recall_invariant.ensures
                      c.requires.front c.requires.back (c.in_default.ensures.apart refl) (omega arith),
                ),
              ),
            ),
          ),
        ),
      ),
    )

pub meet-requires-else-front-back : goal.meet-requires-else-front-back
meet-requires-else-front-back t c =
    let n : ℕ = c.args.perm.now.lines in (
      omega (arith, c.decreases, c.if-depths-eq0.false),
      (
        c.requires.few,
        (
          omega (arith, c.requires.short, c.if-depths-eq0.false),
          (
            c.requires.moves,
            (
              c.requires.suits,
              (
                c.requires.front,
                (
                  next_level c.lines-lines.result n c.word_count-else-front-back.result Equal c.args.moves.now c.args.back.now c.in_ok-next-2.next.items c.deref-else-front-back.result.now c.lines-lines.ensures.value c.word_count-else-front-back.ensures.value c.deref-else-front-back.ensures.value
                      c.in_ok-next-2.ensures.same c.args.library c.args.depths.back c.args.perm.now.images c.args.gates.now c.requires.few c.recall_invariant.ensures.2 c.requires.moves tt
                      c.in_ok-next-2.ensures.rising c.requires.back,
                  none_here c.args.library n c.args.alike c.args.depths.front c.args.depths.back _ c.args.perm.now.images _ _ c.recall_invariant.ensures
                      c.requires.front c.requires.back (c.in_default.ensures.apart refl) (omega arith),
                ),
              ),
            ),
          ),
        ),
      ),
    )

pub begin_below-requires-clause-next : goal.begin_below-requires-clause-next
begin_below-requires-clause-next t c =
    from_next c.lines-lines.result c.args.perm.now.lines c.word_count.result c.args.alike c.args.moves.now c.args.front.now c.in_ok-next.next.items c.deref.result.now c.lines-lines.ensures.value c.word_count.ensures.value
    c.deref.ensures.value c.in_ok-next.ensures.same (least c.args.alike c.in-Some-2.way.from)
    (subst (λ o. IfSome o (λ way. Contains c.deref.result.now (least c.args.alike way.from))) c.in-Some-2.is c.in_ok-way.ensures.begins)

pub end_below-requires-clause-next : goal.end_below-requires-clause-next
end_below-requires-clause-next t c =
    from_next c.lines-lines.result c.args.perm.now.lines c.word_count-else-front-back.result Equal c.args.moves.now c.args.back.now c.in_ok-next-2.next.items c.deref-else-front-back.result.now c.lines-lines.ensures.value
    c.word_count-else-front-back.ensures.value c.deref-else-front-back.ensures.value c.in_ok-next-2.ensures.same c.in-Some-3.way.to
    (subst (λ o. IfSome o (λ way. Contains c.deref-else-front-back.result.now way.to)) c.in-Some-3.is c.in_ok-way-2.ensures.ends)

pub end_below-requires-clause-key : goal.end_below-requires-clause-key
end_below-requires-clause-key t c =
    let n : ℕ = c.args.perm.now.lines in
    let level = next_level c.lines-lines.result n c.word_count-else-front-back.result Equal c.args.moves.now c.args.back.now c.in_ok-next-2.next.items c.deref-else-front-back.result.now c.lines-lines.ensures.value
    c.word_count-else-front-back.ensures.value c.deref-else-front-back.ensures.value c.in_ok-next-2.ensures.same c.args.library c.args.depths.back c.args.perm.now.images c.args.gates.now c.requires.few
    c.recall_invariant.ensures.2 c.requires.moves tt c.in_ok-next-2.ensures.rising c.requires.back in
    subst (λ k. IsWhole k c.in-Some-3.way.to) (sym c.lines-lines.ensures.value)
    (level.whole c.in-Some-3.way.to (subst (λ o. IfSome o (λ way. Contains c.deref-else-front-back.result.now way.to)) c.in-Some-3.is c.in_ok-way-2.ensures.ends))

pub last_gate-requires-clause-apart : goal.last_gate-requires-clause-apart
last_gate-requires-clause-apart t c = c.in_default.ensures.apart refl
