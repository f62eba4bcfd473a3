-- What one step of the walk makes of its state.
use Rattle.std.proofs.Common.{◌≡◌, ℕ, suc, ◌+◌, ◌%◌, ◌<◌, cond, Some, None, List, [], ◌∷◌, ◌++◌, length, get_or, set, refl, sym, ap, ◌∙◌, arith, subst}
use Rattle.std.specs.Prelude.{slice_get}
use Rattle.std.proofs.lemmas.Option.{slice_get-get_or, none-some}
use Rattle.rv_gate.specs.Word.{has}
use Rattle.rv_net.specs.Op.{Network}
use Rattle.rv_net.specs.declared.op.Op.{Op}
use Rattle.rv_net.specs.declared.op.Op.TheVariants.{X}
use Rattle.rv_fold.specs.Parities.{Parities, parities_after, alone, direct, restart_set, Parity}
use Rattle.rv_fold.specs.Folded.{phase_gate, parity_at, parities_at, PhaseGate}
use Rattle.rv_fold.specs.inside.Shown.{parities_of}
use Rattle.rv_fold.specs.inside.Slots.{found}
use Rattle.rv_fold.specs.inside.Standing.{AreClasses, AreSums, Begins, StartsAt, Stands}
use Rattle.rv_fold.specs.declared.walk.Walk.{Walk}
use Rattle.rv_fold.proofs.Joining.{parities_next, restarted_here, some_parity_here, no_parity_here, phase_parities_next}
use Rattle.rv_fold.proofs.inside.Beginnings.{since_more, begins_other}
use Rattle.rv_fold.proofs.inside.Sums.{sums_phase, sums_other}

pub read_at : (ops shown : List Op) (place : ℕ) → shown ≡ ops → place < length ops → slice_get ops place ≡ Some (get_or shown place (X 0))
read_at ops shown place e lt = slice_get-get_or ops place (X 0) lt ∙ ap (λ l. Some (get_or l place (X 0))) (sym e)

module _ (net : Network) (place : ℕ) (o : Op) (at : slice_get net.ops place ≡ Some o) (walk : Walk) (stands : Stands net place walk) where
  one_on : suc place ≡ place + 1
  one_on = omega arith

  -- the parity of a phase's line
  pub parity_there : (p : PhaseGate) (parity : Parity) → phase_gate o ≡ Some p → parity ≡ parities_of walk.parities.parities.items p.line → parity_at net.lines net.ops place ≡ Some parity
  parity_there p parity e is = some_parity_here net.lines net.ops place o at p e ∙ ap Some (sym (is ∙ ap (λ (F : Parities). F p.line) stands.parities))

  pub past_phase : (p : PhaseGate) (parity : Parity) (first : ℕ) (new : Walk) → phase_gate o ≡ Some p → parity ≡ parities_of walk.parities.parities.items p.line
      → StartsAt net.lines net.ops place parity first → new.parities.parities.items ≡ walk.parities.parities.items → AreClasses net.lines net.ops (place + 1) new.classes
      → new.sums.items ≡ set (walk.sums.items ++ 0 ∷ []) first ((get_or (walk.sums.items ++ 0 ∷ []) first 0 + p.exponent) % 8) → Stands net (place + 1) new
  past_phase p parity first new e is starts parities classes sums = record {
    parities = ap parities_of parities ∙ stands.parities ∙ sym (phase_parities_next net.lines net.ops place o at p e) ∙ ap (parities_at net.lines net.ops) one_on;
    count = ap length parities ∙ stands.count;
    classes = classes;
    sums = subst (λ l. AreSums net.lines net.ops (place + 1) l) (sym sums) (sums_phase net.lines net.ops place o at walk.sums.items stands.sums p e first (subst (λ f. StartsAt net.lines net.ops place f first) (is ∙ ap (λ (F : Parities). F p.line) stands.parities) starts));
  }

  pub past_other : (new : Walk) → phase_gate o ≡ None → parities_of new.parities.parities.items ≡ parities_after net.lines o (parities_of walk.parities.parities.items) → length new.parities.parities.items ≡ length walk.parities.parities.items
      → new.classes.firsts ≡ walk.classes.firsts → length new.classes.sinces.items ≡ length walk.classes.sinces.items
      → ((line : ℕ) → line < length walk.classes.sinces.items → get_or new.classes.sinces.items line 0 ≡ cond (has (restart_set net.lines (parities_of walk.parities.parities.items) (direct o)) line) (place + 1) (get_or walk.classes.sinces.items line 0))
      → new.sums.items ≡ walk.sums.items ++ 0 ∷ [] → Stands net (place + 1) new
  past_other new e parities count firsts len sinces sums = record {
    parities = parities ∙ ap (parities_after net.lines o) stands.parities ∙ sym (parities_next net.lines net.ops place o at) ∙ ap (parities_at net.lines net.ops) one_on;
    count = count ∙ stands.count;
    classes = record {
      sinces = since_more net.lines net.ops place walk.classes.sinces.items new.classes.sinces.items (restart_set net.lines (parities_of walk.parities.parities.items) (direct o))
          (restarted_here net.lines net.ops place o at ∙ ap (λ (F : Parities). restart_set net.lines F (direct o)) (sym stands.parities)) len sinces stands.classes.sinces;
      firsts = λ f.
          subst (λ m. Begins net.lines net.ops (place + 1) f (found m f)) (sym firsts)
          (subst (λ j. Begins net.lines net.ops j f (found walk.classes.firsts f)) one_on
          (begins_other net.lines net.ops place f (found walk.classes.firsts f) (λ there. none-some f (sym (no_parity_here net.lines net.ops place o at e) ∙ there)) (stands.classes.firsts f)));
    };
    sums = subst (λ l. AreSums net.lines net.ops (place + 1) l) (sym sums) (sums_other net.lines net.ops place o at walk.sums.items stands.sums e);
  }

-- ---- at the start

pub parities_start : (n : ℕ) (ops : List Op) → parities_at n ops 0 ≡ alone
unfolding parities_at
parities_start n ops = refl

pub sums_start : (n : ℕ) (ops : List Op) (sums : List ℕ) → sums ≡ [] → AreSums n ops 0 sums
sums_start n ops sums e = record { count = ap length e; each = λ place lt. absurd (omega arith) }
