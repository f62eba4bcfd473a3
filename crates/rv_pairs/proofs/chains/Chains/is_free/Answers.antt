use Rattle.std.proofs.Common.{◌≡◌, ◌∙◌, sym, ap, arith, inl, inr, subst, w64, false}
use Rattle.std.specs.Int.{trailing_zeros}
use Rattle.std.proofs.lemmas.Bool.{cases_eq, cases_lt, false≢true}
use Rattle.std.proofs.lemmas.Option.{slice_get_within}
use Rattle.rv_gate.specs.Word.{has}
use Rattle.rv_gate.proofs.LineSets.{has-above, has-none}
use Rattle.rv_gate.proofs.LowestLine.{lowest_line, still_there}
use Rattle.rv_pairs.proofs.chains.Chains.is_free.Goals as goal

pub returns-then-latest-place-clause-free : goal.returns-then-latest-place-clause-free
returns-then-latest-place-clause-free c = λ belongs are.
    let lowest = lowest_line c.loop-left.left (omega arith) (omega arith) in
    let line = trailing_zeros w64 c.loop-left.left in
    let latest = c.latest.ensures.latest belongs (c.loop-left.invariant.chains belongs are) in
    elim latest.some [
      | inl none ↦ absurd (omega (arith, none, c.if-latest-place.true))
      | inr is ↦ record {
        slot = line;
        later = is.0;
        op = is.1.0;
        on = c.loop-left.invariant.among line lowest.within lowest.there;
        after = omega (arith, is.1.1.0, c.if-latest-place.true);
        there = is.1.1.1;
        belonging = is.1.1.2;
      }
    ]

pub loop-left-smaller : goal.loop-left-smaller
loop-left-smaller c = (lowest_line c.loop-left.left (omega arith) (omega arith)).fewer

pub loop-left-preserved : goal.loop-left-preserved
loop-left-preserved c =
    let before = c.loop-left.invariant in
    let lowest = lowest_line c.loop-left.left (omega arith) (omega arith) in
    let line = trailing_zeros w64 c.loop-left.left in
    record {
      count = c.latest.ensures.count ∙ before.count;
      among = λ slot below on. before.among slot below (still_there _ _ _ lowest slot below on);
      chains = λ belongs are. c.latest.ensures.chains belongs (before.chains belongs are);
      done = λ belongs are slot k o below on off after there. elim (cases_eq slot line) [
        | inl here ↦
            (let latest = c.latest.ensures.latest belongs (before.chains belongs are) in
            subst (λ n. belongs n o ≡ false) (sym here) (latest.none k o (omega (arith, c.if-latest-place.false)) (slice_get_within c.args.cells.now k _ there) there))
        | inr other ↦ before.done belongs are slot k o below on (sym (lowest.same slot below other) ∙ off) after there
      ];
    }

pub returns-clause-free : goal.returns-clause-free
returns-clause-free c = λ belongs are slot k o on after there.
    elim (cases_lt slot 64) [
      | inl below ↦ c.loop-left.invariant.done belongs are slot k o below on (ap (λ n. has n slot) c.loop-left-test.false ∙ has-none slot) after there
      | inr above ↦ absurd (false≢true (sym (has-above c.args.set 64 slot (omega arith) above) ∙ on))
    ]
