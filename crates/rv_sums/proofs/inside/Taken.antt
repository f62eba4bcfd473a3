-- Flips of the circuit, taken in any order that exchanges allow.
use Rattle.std.proofs.Common.{◌≡◌, ℕ, zero, suc, ◌+◌, ◌<◌, ◌≤◌, All, false, List, [], ◌∷◌, ◌++◌, length, drop, take, get_or, refl, sym, ap, ap₂, append_assoc, ◌∙◌, arith, subst}
use Rattle.std.specs.List.{remove}
use Rattle.std.proofs.Math.Seq.{drop-cons}
use Rattle.std.proofs.Math.ListN.{drop_of_length-le}
use Rattle.std.proofs.lemmas.List.Elements.{All-head, All-tail}
use Rattle.rv_gate.specs.Commuting.{Commutes}
use Rattle.rv_gate.specs.Every.{Every}
use Rattle.rv_gate.specs.Gate.{FitsIn, IsFlipOn, act, run}
use Rattle.rv_gate.specs.declared.gate.Shape.{Shape}
use Rattle.rv_gate.proofs.Every.{every_first}
use Rattle.rv_gate.proofs.inside.GateLemmas.{length-act}
use Rattle.rv_net.specs.declared.op.Op.{Op}
use Rattle.rv_net.proofs.Step.{Word}
use Rattle.rv_terms.specs.Products.{odd}
use Rattle.rv_terms.specs.declared.sum.Sum.{Sum}
use Rattle.rv_sums.specs.inside.State.{AreCopies, Holds, HoldsAfter, IsFlipped, Leads, Moves, Reached, Takes, left_of}
use Rattle.rv_sums.specs.declared.facts.Facts.{Facts}
use Rattle.rv_sums.specs.declared.path_sum.PathSum.{PathSum}
use Rattle.rv_sums.specs.declared.taking.Following.{Following}
use Rattle.rv_sums.proofs.inside.Facts.{holds_copies}
use Rattle.rv_sums.proofs.inside.Gates.{every_at, reached_flip, reached_op, reached_same, reached_told}

-- a flip before those that it commutes with
past : (lines : ℕ) (window rest : List Shape) (at : ℕ) (g : Shape) → at < length window → g ≡ get_or window at g
    → Every (IsFlipOn lines) (window ++ rest) → FitsIn g lines → All (λ other. Commutes other g) (take at window)
    → (u : Word) → length u ≡ lines → run (window ++ rest) u ≡ run (remove window at ++ rest) (act g u)
past lines [] rest at g lt is each fits ok u len = absurd (omega arith)
past lines (h ∷ window) rest zero g lt is each fits ok u len = ap (λ k. run (window ++ rest) (act k u)) (sym is)
past lines (h ∷ window) rest (suc at) g lt is each fits ok u len =
    let P : Shape → Type 0 = λ other. Commutes other g in
    past lines window rest at g (omega arith) is each.1 fits (All-tail P h (take at window) ok) (act h u) (length-act h u ∙ len)
    ∙ ap (run (remove window at ++ rest))
    (All-head P h (take at window) ok u (subst (FitsIn h) (sym len) each.0.2) (subst (FitsIn g) (sym len) fits))

every_without : (P : Shape → Type 0) (window rest : List Shape) (at : ℕ) → at < length window → Every P (window ++ rest) → Every P (remove window at ++ rest)
every_without P [] rest at lt each = absurd (omega arith)
every_without P (h ∷ window) rest zero lt each = each.1
every_without P (h ∷ window) rest (suc at) lt each = (each.0, every_without P window rest at (omega arith) each.1)

-- a flip of the window is taken
pub moves_taken : (flips : List Shape) (at : ℕ) (g : Shape) (old new : Following) → at < length old.left.window.items
    → g ≡ get_or old.left.window.items at g → All (λ other. Commutes other g) (take at old.left.window.items)
    → Takes old.facts.sums.items g old.sum new.sum
    → HoldsAfter (length old.sum.sums.items) g old.facts.sums.items new.facts.sums.items
    → new.left.window.items ≡ remove old.left.window.items at → new.left.next ≡ old.left.next → Moves [] flips old new
moves_taken flips at g old new lt is ok takes after window next = record {
  lines = takes.lines;
  reached = λ marks lines ops rest gates r.
      let old_window : List Shape = old.left.window.items in
      let later : List Shape = drop old.left.next flips in
      let left : List Shape = remove old_window at ++ later in
      let flip : IsFlipOn lines g = every_at lines old_window at g lt is (every_first (IsFlipOn lines) old_window later r.flips) in
      let around : (w u : Word) → length u ≡ lines → run (g ∷ left) u ≡ run gates w → run (old_window ++ later) u ≡ run gates w = λ w u lu same.
      past lines old_window later at g lt is r.flips flip.2 ok u lu ∙ same in
      let first : Reached marks old.facts.sums.items lines ops rest gates (g ∷ left) old.sum = record {
        lines_are = r.lines_are;
        flips = (flip, every_without (IsFlipOn lines) old_window later at lt r.flips);
        holds = λ w u m lw lu same. r.holds w u m lw lu (around w u lu same);
        stands = λ w u z m lw lu same. r.stands w u z m lw lu (around w u lu same);
      } in
      let now : left_of flips new.left ≡ left = ap₂ (λ w n. w ++ drop n flips) window next in
      let P : List Shape → Type 0 = λ l. Reached marks new.facts.sums.items lines ops rest gates l new.sum in
      subst P (sym now)
      (reached_flip marks old.facts.sums.items new.facts.sums.items lines ops rest gates left g old.sum new.sum takes
      (λ u len h. after u (len ∙ sym r.lines_are) h) first);
}

-- ---- one thing after another

pub moves_same : (flips : List Shape) (old new : Following) → Leads [] old.sum new.sum
    → ((u : Word) → Holds old.facts.sums.items u → Holds new.facts.sums.items u) → left_of flips new.left ≡ left_of flips old.left
    → Moves [] flips old new
moves_same flips old new leads known left = record {
  lines = leads.lines;
  reached = λ marks lines ops rest gates r.
      let P : List Shape → Type 0 = λ l. Reached marks new.facts.sums.items lines ops rest gates l new.sum in
      subst P (sym left)
      (reached_same marks old.facts.sums.items new.facts.sums.items lines ops rest gates (left_of flips old.left) old.sum new.sum leads known r);
}

pub leads_none : (s t : PathSum) → t ≡ s → Leads [] s t
leads_none s t same = let P : PathSum → Type 0 = Leads [] s in subst P (sym same) (record { lines = refl; stands = λ rest x z whole len stands. stands })

pub moves_kept : (flips : List Shape) (old new : Following) → new.sum ≡ old.sum → new.facts ≡ old.facts
    → left_of flips new.left ≡ left_of flips old.left → Moves [] flips old new
moves_kept flips old new sum facts left =
    moves_same flips old new (leads_none old.sum new.sum sum)
    (λ u h. let P : Facts → Type 0 = λ f. Holds f.sums.items u in subst P (sym facts) h) left

pub moves_none : (flips : List Shape) (s : Following) → Moves [] flips s s
moves_none flips s = moves_kept flips s s refl refl refl

pub moves_copied : (flips : List Shape) (old new : Following) → Leads [] old.sum new.sum → AreCopies old.facts.sums.items new.facts.sums.items
    → left_of flips new.left ≡ left_of flips old.left → Moves [] flips old new
moves_copied flips old new leads copies left =
    moves_same flips old new leads (λ u h. holds_copies old.facts.sums.items new.facts.sums.items u copies h) left

pub moves_then : (done : List Op) (flips : List Shape) (s t u : Following) → Moves done flips s t → Moves [] flips t u → Moves done flips s u
moves_then done flips s t u first second = record {
  lines = second.lines ∙ first.lines;
  reached = λ marks lines ops rest gates r. second.reached marks lines ops rest gates (first.reached marks lines ops rest gates r);
}

-- what isn't the search's own stays
pub moves_on : (done : List Op) (flips : List Shape) (s t u : Following) → Moves done flips s t → u.sum ≡ t.sum → u.facts ≡ t.facts → u.left ≡ t.left
    → Moves done flips s u
moves_on done flips s t u moves sum facts left = moves_then done flips s t u moves (moves_kept flips t u sum facts (ap (left_of flips) left))

pub moves_op : (flips : List Shape) (op : Op) (old new : Following) → Leads (op ∷ []) old.sum new.sum → new.facts ≡ old.facts → new.left ≡ old.left
    → Moves (op ∷ []) flips old new
moves_op flips op old new leads facts left = record {
  lines = leads.lines;
  reached = λ marks lines ops rest gates r.
      let P : List Shape → Type 0 = λ l. Reached marks new.facts.sums.items lines ops rest gates l new.sum in
      let Q : Facts → Type 0 = λ f. Reached marks f.sums.items lines ops (op ∷ rest) gates (left_of flips old.left) old.sum in
      subst P (ap (left_of flips) (sym left))
      (reached_op marks new.facts.sums.items lines ops rest op gates (left_of flips old.left) old.sum new.sum leads (subst Q (sym facts) r));
}

-- a line is as any other
pub moves_told : (flips : List Shape) (line : ℕ) (with : Sum) (old new : Following) → IsFlipped line with old.sum new.sum
    → ((x v : Word) → Holds old.facts.sums.items x → odd with x v ≡ false)
    → ((x : Word) → Holds old.facts.sums.items x → Holds new.facts.sums.items x) → new.left ≡ old.left → Moves [] flips old new
moves_told flips line with old new flipped nought known left = record {
  lines = flipped.lines;
  reached = λ marks lines ops rest gates r.
      let P : List Shape → Type 0 = λ l. Reached marks new.facts.sums.items lines ops rest gates l new.sum in
      subst P (ap (left_of flips) (sym left))
      (reached_told marks old.facts.sums.items new.facts.sums.items lines line with ops rest gates (left_of flips old.left) old.sum new.sum flipped nought known r);
}

-- one flip more in the window
pub grown : (flips window window2 : List Shape) (next at : ℕ) (g : Shape) → next < length flips → g ≡ get_or flips next g
    → window2 ≡ window ++ g ∷ [] → at ≡ next + 1 → window2 ++ drop at flips ≡ window ++ drop next flips
grown flips window window2 next at g lt is more now =
    let here : drop next flips ≡ g ∷ drop at flips =
    drop-cons flips next g lt ∙ ap₂ (λ h k. h ∷ drop k flips) (sym is) (let e : suc next ≡ at = omega (arith, now) in e) in
    ap (λ l. l ++ drop at flips) more ∙ append_assoc window (g ∷ []) (drop at flips) ∙ ap (λ l. window ++ l) (sym here)

pub none_left : (flips window : List Shape) (next : ℕ) → window ≡ [] → length flips ≤ next → window ++ drop next flips ≡ []
none_left flips window next none all = ap₂ (λ w l. w ++ l) none (drop_of_length-le flips all)
