-- Flips of the circuit, taken into the sums.
use Rattle.std.proofs.Common.{◌≡◌, ℕ, All, ◌+◌, ◌<◌, ◌≤◌, false, List, [], ◌∷◌, ◌++◌, length, drop, take, get_or, set, refl, sym, ap, ap₂, ◌∙◌, arith, subst, suc}
use Rattle.std.proofs.Math.Seq.{drop-cons}
use Rattle.std.proofs.lemmas.Grind.{common_steps}
use Rattle.std.proofs.lemmas.List.{set-get_or, take_more}
use Rattle.std.proofs.lemmas.List.Elements.{All-get_or}
use Rattle.rv_gate.specs.Every.{Every}
use Rattle.rv_gate.specs.Gate.{FitsIn, IsFlipOn, IsGate, act, run, xor}
use Rattle.rv_gate.specs.declared.circuit.Mark.{Mark}
use Rattle.rv_gate.specs.declared.gate.Shape.{Shape}
use Rattle.rv_gate.proofs.Bits.{xor_false}
use Rattle.rv_gate.proofs.Every.{every_append, every_drop}
use Rattle.rv_gate.proofs.inside.GateLemmas.{act_twice, length-act, length-run, run-append}
use Rattle.rv_mct.specs.Blocks.{flips_of}
use Rattle.rv_mct.proofs.inside.Gates.{flips_own, run_flips}
use Rattle.rv_net.specs.Amplitude.{amplitude}
use Rattle.rv_net.specs.Cyclotomic.{times_w_power}
use Rattle.rv_net.specs.declared.op.Op.{Op}
use Rattle.rv_net.proofs.Step.{Word, bit}
use Rattle.rv_terms.specs.Products.{odd}
use Rattle.rv_terms.specs.Phases.{power}
use Rattle.rv_terms.specs.declared.sum.Sum.{Sum}
use Rattle.rv_sums.specs.Finding.{HasConstants}
use Rattle.rv_sums.specs.inside.Paths.{rooted}
use Rattle.rv_sums.specs.inside.State.{AreCopies, AreFlips, AreTurned, Holds, HoldsAfter, IsFlipped, Leads, Reached, Stands, Takes, TurnsBack, spare, word_at}
use Rattle.rv_sums.specs.declared.path_sum.PathSum.{PathSum}
use Rattle.rv_sums.proofs.Sums.{same_sum}

pub gate_takes : (facts : List Sum) (lines : ℕ) (g : Shape) (t : ℕ) (with : Sum) (old new : PathSum) → t < length old.sums.items
    → lines ≡ length old.sums.items → TurnsBack facts lines g t with → AreTurned t with old.sums.items new.sums.items
    → ((x v : Word) → t < length x → power new.phases x v ≡ power old.phases (set x t (odd with x v)) v)
    → new.scale ≡ old.scale → Takes facts g old new
gate_takes facts lines g t with old new lt count back turned phases scale = record {
  lines = turned.lines;
  stands = λ rest x z whole len holds stands.
      let y : Word = act g x in
      let leny : length y ≡ length old.sums.items = length-act g x ∙ len in
      ap (λ d. rooted d whole) scale ∙ stands
      ∙ ap (rooted spare) (same_sum 64 _ _ (λ v e.
      ap₂ (λ n u. times_w_power n (amplitude rest u z))
      (sym (phases y v (omega arith) ∙ ap (λ u. power old.phases u v) (back x v (len ∙ sym count) holds)))
      (sym (turned.ends y v (omega arith) ∙ ap (λ u. word_at old.sums.items u v) (back x v (len ∙ sym count) holds)))));
}

-- ---- one thing more

-- a state of the same meaning
pub reached_same : (marks : List Mark) (facts facts2 : List Sum) (lines : ℕ) (ops rest : List Op) (gates left : List Shape) (old new : PathSum)
    → Leads [] old new → ((u : Word) → Holds facts u → Holds facts2 u)
    → Reached marks facts lines ops rest gates left old → Reached marks facts2 lines ops rest gates left new
reached_same marks facts facts2 lines ops rest gates left old new leads known r = record {
  lines_are = leads.lines ∙ r.lines_are;
  flips = r.flips;
  holds = λ w u m lw lu same. known u (r.holds w u m lw lu same);
  stands = λ w u z m lw lu same. leads.stands rest u z (amplitude ops w z) (lu ∙ sym r.lines_are) (r.stands w u z m lw lu same);
}

-- one operation more
pub reached_op : (marks : List Mark) (facts : List Sum) (lines : ℕ) (ops rest : List Op) (op : Op) (gates left : List Shape) (old new : PathSum)
    → Leads (op ∷ []) old new → Reached marks facts lines ops (op ∷ rest) gates left old → Reached marks facts lines ops rest gates left new
reached_op marks facts lines ops rest op gates left old new leads r = record {
  lines_are = leads.lines ∙ r.lines_are;
  flips = r.flips;
  holds = r.holds;
  stands = λ w u z m lw lu same. leads.stands rest u z (amplitude ops w z) (lu ∙ sym r.lines_are) (r.stands w u z m lw lu same);
}

-- one flip more: it undoes itself
pub reached_flip : (marks : List Mark) (facts facts2 : List Sum) (lines : ℕ) (ops rest : List Op) (gates left : List Shape) (g : Shape) (old new : PathSum)
    → Takes facts g old new → HoldsAfter lines g facts facts2
    → Reached marks facts lines ops rest gates (g ∷ left) old → Reached marks facts2 lines ops rest gates left new
reached_flip marks facts facts2 lines ops rest gates left g old new takes after r =
    let back : (u : Word) → length u ≡ lines → act g (act g u) ≡ u = λ u lu.
    act_twice g lines u r.flips.0.0 r.flips.0.1 r.flips.0.2 lu in
    let before : (w u : Word) → HasConstants marks w → length w ≡ lines → length u ≡ lines → run left u ≡ run gates w → Holds facts (act g u) =
    λ w u m lw lu same. r.holds w (act g u) m lw (length-act g u ∙ lu) (ap (run left) (back u lu) ∙ same) in
    record {
      lines_are = takes.lines ∙ r.lines_are;
      flips = r.flips.1;
      holds = λ w u m lw lu same.
          subst (Holds facts2) (back u lu) (after (act g u) (length-act g u ∙ lu) (before w u m lw lu same));
      stands = λ w u z m lw lu same.
          let lb : length (act g u) ≡ lines = length-act g u ∙ lu in
          let P : Word → Type 0 = λ y. Stands new rest y z (amplitude ops w z) in
          subst P (back u lu)
          (takes.stands rest (act g u) z (amplitude ops w z) (lb ∙ sym r.lines_are) (before w u m lw lu same)
          (r.stands w (act g u) z m lw lb (ap (run left) (back u lu) ∙ same)));
    }

-- a sum that is 0 where the facts hold comes to that of a line
pub reached_told : (marks : List Mark) (facts facts2 : List Sum) (lines line : ℕ) (with : Sum) (ops rest : List Op) (gates left : List Shape) (old new : PathSum)
    → IsFlipped line with old new → ((x v : Word) → Holds facts x → odd with x v ≡ false) → ((x : Word) → Holds facts x → Holds facts2 x)
    → Reached marks facts lines ops rest gates left old → Reached marks facts2 lines ops rest gates left new
reached_told marks facts facts2 lines line with ops rest gates left old new flipped nought known r = record {
  lines_are = flipped.lines ∙ r.lines_are;
  flips = r.flips;
  holds = λ w u m lw lu same. known u (r.holds w u m lw lu same);
  stands = λ w u z m lw lu same.
      let here : (v : Word) → word_at new.sums.items u v ≡ word_at old.sums.items u v = λ v.
      flipped.ends u v
      ∙ ap (set (word_at old.sums.items u v) line)
      (ap (xor (bit (word_at old.sums.items u v) line)) (nought u v (r.holds w u m lw lu same)) ∙ xor_false (bit (word_at old.sums.items u v) line))
      ∙ set-get_or (word_at old.sums.items u v) line false in
      ap (λ d. rooted d (amplitude ops w z)) flipped.scale ∙ r.stands w u z m lw lu same
      ∙ ap (rooted spare) (same_sum 64 _ _ (λ v e.
      ap₂ (λ n y. times_w_power n (amplitude rest y z)) (sym (ap (λ p. power p u v) flipped.phases)) (sym (here v))));
}

-- ---- the flips of a circuit

pub flips_none : (lines : ℕ) (gates flips : List Shape) → flips ≡ [] → AreFlips lines (take 0 gates) flips
flips_none lines gates flips is = let P : List Shape → Type 0 = AreFlips lines (take 0 gates) in subst P (sym is) (record { each = tt; run_is = λ word len. refl })

pub flips_more : (lines i : ℕ) (gates flips flips2 more : List Shape) (g : Shape) → lines ≤ 64 → i < length gates → g ≡ get_or gates i g
    → IsGate g → FitsIn g lines → flips2 ≡ flips ++ more → more ≡ flips_of g
    → AreFlips lines (take i gates) flips → AreFlips lines (take (i + 1) gates) flips2
flips_more lines i gates flips flips2 more g few lt is valid fits now own before =
    let whole : flips2 ≡ flips ++ flips_of g = now ∙ ap (λ l. flips ++ l) own in
    let P : List Shape → Type 0 = AreFlips lines (take (i + 1) gates) in
    subst P (sym whole) (record {
      each = every_append (IsFlipOn lines) flips (flips_of g) before.each (flips_own g lines few valid fits);
      run_is = λ word len.
          let u : Word = run (take i gates) word in
          let lu : length u ≡ lines = length-run (take i gates) word ∙ len in
          let Q : ℕ → Type 0 = FitsIn g in
          run-append flips (flips_of g) word ∙ ap (run (flips_of g)) (before.run_is word len)
          ∙ run_flips g u valid (subst Q (sym lu) fits)
          ∙ sym (ap (λ l. run l word) (take_more gates i g lt ∙ ap (λ h. take i gates ++ h ∷ []) (sym is)) ∙ run-append (take i gates) (g ∷ []) word);
    })

take_whole : (i : ℕ) (gates : List Shape) → length gates ≤ i → take i gates ≡ gates
take_whole i gates le = grind (arith, common_steps)

pub flips_all : (lines i : ℕ) (gates flips : List Shape) → length gates ≤ i → AreFlips lines (take i gates) flips → AreFlips lines gates flips
flips_all lines i gates flips le before =
    let P : List Shape → Type 0 = λ l. AreFlips lines l flips in subst P (take_whole i gates le) before

pub every_at : (lines : ℕ) (flips : List Shape) (i : ℕ) (g : Shape) → i < length flips → g ≡ get_or flips i g → Every (IsFlipOn lines) flips → IsFlipOn lines g
every_at lines flips i g lt is each =
    let here : drop i flips ≡ g ∷ drop (suc i) flips = drop-cons flips i g lt ∙ ap (λ h. h ∷ drop (suc i) flips) (sym is) in
    let P : List Shape → Type 0 = Every (IsFlipOn lines) in
    (subst P here (every_drop (IsFlipOn lines) i flips each)).0

-- ---- copies, and one thing after another

pub copy_leads : (old new : PathSum) → AreCopies old.sums.items new.sums.items → ((x v : Word) → power new.phases x v ≡ power old.phases x v)
    → new.scale ≡ old.scale → Leads [] old new
copy_leads old new sums phases scale = record {
  lines = sums.lines;
  stands = λ rest x z whole len stands.
      ap (λ d. rooted d whole) scale ∙ stands
      ∙ ap (rooted spare) (same_sum 64 _ _ (λ v e. ap₂ (λ n u. times_w_power n (amplitude rest u z)) (sym (phases x v)) (sym (sums.ends x v))));
}

pub leads_shorter : (op : Op) (s t u : PathSum) → Leads (op ∷ []) s t → Leads [] t u → Leads (op ∷ []) s u
leads_shorter op s t u first second = record {
  lines = second.lines ∙ first.lines;
  stands = λ rest x z whole len stands. second.stands rest x z whole (len ∙ sym first.lines) (first.stands rest x z whole len stands);
}

-- a gate of a circuit fits
pub fits_gate : (lines : ℕ) (items gates : List Shape) (i : ℕ) (g : Shape) → items ≡ gates → i < length items → g ≡ get_or items i g
    → All (λ gate. FitsIn gate lines) gates → FitsIn g lines
fits_gate lines items gates i g same lt is fits =
    let here : get_or gates i g ≡ g = ap (λ l. get_or l i g) (sym same) ∙ sym is in
    let lt2 : i < length gates = omega (arith, ap length same) in
    subst (λ (h : Shape). FitsIn h lines) here (All-get_or (λ gate. FitsIn gate lines) gates i g lt2 fits)
