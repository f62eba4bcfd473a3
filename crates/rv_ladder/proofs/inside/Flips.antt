-- The network of a long flip is the flip, whatever its controls want and the free lines hold.
use Rattle.std.proofs.Common.{◌≡◌, ◌≢◌, ℕ, suc, ◌+◌, ◌-◌, ◌^◌, ◌<◌, ◌≤◌, Bool, true, ◌&&◌, List, [], ◌∷◌, ◌++◌, length, map, take, reverse, set, refl, sym, ◌∙◌, ap, ap₂, inl, inr, arith, length-set, subst}
use Rattle.std.specs.Prelude.{bit_or}
use Rattle.std.proofs.lemmas.Bool.{false≢true}
use Rattle.std.proofs.lemmas.List.{length-reverse, length-take-le, length-map}
use Rattle.std.proofs.Math.Seq.{take-length}
use Rattle.rv_gate.specs.Gate.{act, holds, xor}
use Rattle.rv_gate.specs.Word.{has}
use Rattle.rv_gate.specs.declared.gate.Shape.{Shape}
use Rattle.rv_gate.specs.declared.gate.Shape.TheVariants.{Flip}
use Rattle.rv_gate.proofs.inside.GateLemmas.{flip_if, length-act}
use Rattle.rv_mct.specs.Blocks.{below, control, controls_of, count, count_lines, from, is_free, middle, rising}
use Rattle.rv_mct.specs.declared.control.Control.{Control}
use Rattle.rv_mct.specs.inside.Long.{IsCut, IsLong}
use Rattle.rv_gate.specs.Every.{Every}
use Rattle.rv_mct.specs.inside.LadderLines.{BorrowedDivided, Distinct, Divides as Division, In, IsOn as IsControl}
use Rattle.rv_mct.proofs.inside.Ladders.{met as met_one, met_all, met_down, put}
use Rattle.rv_gate.proofs.Every.{every_reverse}
use Rattle.rv_mct.proofs.inside.LongFlips.{act_put, borrowed_divided, distinct_rising, free_parts, in_rising, length-rising, met_down_reverse}
use Rattle.rv_mct.proofs.inside.Splits.{below_part, cut_of, four, from_part, holds_cut, off_from}
use Rattle.rv_net.specs.declared.op.Op.{Op}
use Rattle.rv_net.proofs.Step.{Word, bit}
use Rattle.rv_ladder.specs.Ladder.{borrowed_flip, borrowed_net, borrowed_over, halves_net, lines_of, split_net, zeros}
use Rattle.rv_ladder.specs.inside.Moved.{Divides, IsOn, met}
use Rattle.rv_ladder.proofs.inside.Totals.{length-lines}
use Rattle.rv_ladder.proofs.inside.Nets.{HasLength, Runs, runs_as, runs_borrowed, runs_then, runs_zeros, flipped, flipped-bit, flipped-met, flipped-set, flipped-twice, length-flipped}
use Rattle.rv_gate.proofs.Bits.{and_comm}

-- ---- the controls, as lines

every_line : (n : ℕ) (on : ℕ → Bool) (cs : List Control) → Every (IsControl n on) cs → Every (IsOn n on) (lines_of cs)
every_line n on [] h = tt
every_line n on (c ∷ cs) h = (h.0, every_line n on cs h.1)

as_lines : (n : ℕ) (on : ℕ → Bool) (a b : Control) (cs : List Control) (hs : List ℕ) (t : ℕ) → Division n on a b cs (t ∷ hs) → length cs ≡ length hs
    → Divides n on a.line b.line (lines_of cs) hs t
as_lines n on a b cs hs t d e = record {
  first = d.first;
  second = d.second;
  others = every_line n on cs d.more;
  spots = d.spots;
  distinct = d.distinct;
  enough = length-lines cs ∙ e;
}

met_lines : (a b : Control) (cs : List Control) (y x : Word) → bit y a.line ≡ met_one a x → bit y b.line ≡ met_one b x → Every (λ c. bit y c.line ≡ met_one c x) cs
    → met a.line b.line (lines_of cs) y ≡ met_down a b cs x
met_lines a b [] y x ea eb ec = ap₂ (λ p q. p && q) ea eb
met_lines a b (c ∷ cs) y x ea eb ec = ap₂ (λ p q. p && q) (met_lines a b cs y x ea eb ec.1) ec.0 ∙ and_comm (met_down a b cs x) (met_one c x)

pub small_lines : (want : ℕ) (xs : List ℕ) (m : ℕ) → ((z : ℕ) → In z xs → z < m) → Every (λ c. c.line < m) (map (control want) xs)
small_lines want [] m h = tt
small_lines want (x ∷ xs) m h = (h x (inl refl), small_lines want xs m (λ z i. h z (inr i)))

-- ---- over a list of free lines

runs_over : (n want t : ℕ) (on : ℕ → Bool) (xs free : List ℕ) → Distinct xs → ((z : ℕ) → In z xs → z < n) → ((z : ℕ) → In z xs → z ≢ t) → t < n → 2 ≤ length xs → length xs ≤ length free + 2
    → BorrowedDivided n (map (control want) xs) (take (length xs - 2) free) t
    → Runs (HasLength n) (borrowed_over (map (control want) xs) free t) (λ x. put x t (met_all (map (control want) xs) x))
runs_over n want t on [] free dx below out lt some enough d = absurd (omega arith)
runs_over n want t on (x ∷ []) free dx below out lt some enough d = absurd (omega arith)
runs_over n want t on (p ∷ (q ∷ rest)) free dx below out lt some enough d =
    let a : Control = control want p in
    let b : Control = control want q in
    let more : List Control = map (control want) rest in
    let cs : List Control = a ∷ (b ∷ more) in
    let m : length more ≡ length rest = length-map rest (control want) in
    let hs : List ℕ = take (length more) free in
    let lh : length hs ≡ length more = length-take-le (length more) free (omega arith) in
    let e1 : suc (suc (length more)) - 2 ≡ length more = omega arith in
    let e2 : suc (suc (length rest)) - 2 ≡ length more = omega arith in
    let cut : take (length more) more ≡ more = take-length more in
    let cut2 : take (length more) hs ≡ hs = ap (λ k. take k hs) (sym lh) ∙ take-length hs in
    let both : Division n d.0 a b (reverse more) (t ∷ reverse hs) = subst (λ l. Division n d.0 a b (reverse more) (t ∷ reverse l)) cut2 (rw (e1, e2, cut) at d.1) in
    let r : Divides n d.0 p q (lines_of (reverse more)) (reverse hs) t = as_lines n d.0 a b (reverse more) (reverse hs) t both (length-reverse more ∙ sym lh ∙ sym (length-reverse hs)) in
    let net : List Op = borrowed_flip p q (lines_of (reverse more)) (reverse hs) t in
    let moves : Word → Word = λ x. put x t (met p q (lines_of (reverse more)) x) in
    let small : (x : Word) → length x ≡ n → Every (λ c. c.line < length x) cs = λ x e. small_lines want (p ∷ (q ∷ rest)) (length x) (λ z i. subst (λ k. z < k) (sym e) (below z i)) in
    let end : Runs (HasLength n) (net ++ zeros cs) (λ x. flipped cs (moves x)) =
    runs_then (HasLength n) net (zeros cs) moves (flipped cs) (runs_borrowed n d.0 p q (lines_of (reverse more)) (reverse hs) t r both.apart) (runs_zeros (HasLength n) cs small) (λ x e. length-set x t _ ∙ e) in
    runs_as (HasLength n) _ _ _
    (runs_then (HasLength n) (zeros cs) (net ++ zeros cs) (flipped cs) (λ x. flipped cs (moves x)) (runs_zeros (HasLength n) cs small) end (λ x e. length-flipped cs x ∙ e))
    (λ x e.
    let within : (z : ℕ) → In z (p ∷ (q ∷ rest)) → z < length x = λ z i. subst (λ k. z < k) (sym e) (below z i) in
    let y : Word = flipped cs x in
    let held = flipped-met want (p ∷ (q ∷ rest)) x dx within in
    let on_all : met p q (lines_of (reverse more)) y ≡ met_all cs x =
    met_lines a b (reverse more) y x held.0 held.1.0 (every_reverse _ more held.1.1) ∙ met_down_reverse a b more x in
    flipped-set want (p ∷ (q ∷ rest)) y t _ out
    ∙ ap (λ w. set w t (xor (met p q (lines_of (reverse more)) y) (bit y t))) (flipped-twice want (p ∷ (q ∷ rest)) x dx within)
    ∙ ap₂ (λ u v. set x t (xor u v)) on_all (flipped-bit want (p ∷ (q ∷ rest)) x t out))

-- the least free lines serve
pub runs_borrowed_net : (n care want t : ℕ) → IsLong n care t → 2 ≤ count_lines care → count_lines care ≤ count (is_free care t) n + 2
    → Runs (HasLength n) (borrowed_net n care want t) (act (Flip care want t))
unfolding borrowed_net
runs_borrowed_net n care want t long some enough =
    let xs : List ℕ = rising (has care) 64 in
    let free : List ℕ = rising (is_free care t) n in
    let l1 = length-rising (has care) 64 in
    let l2 = length-rising (is_free care t) n in
    let ons : (z : ℕ) → In z xs → has care z ≡ true = λ z i. (in_rising (has care) 64 z i).1 in
    let k : length (controls_of care want) ≡ length xs = length-map xs (control want) in
    runs_as (HasLength n) _ _ _
    (runs_over n want t (has care) xs free (distinct_rising (has care) 64) (λ z i. long.within z (ons z i)) (λ z i e. false≢true (sym long.free ∙ ap (has care) (sym e) ∙ ons z i)) long.aimed (omega arith) (omega arith)
    (borrowed_divided n care want t (controls_of care want) (take (length xs - 2) free) long some refl (ap (λ l. take (l - 2) free) (sym k))))
    (λ x e. sym (act_put care want t n x e long.few long.within))

-- ---- by halves

runs_halves : (n care want t line helper : ℕ) → IsCut n care t line helper → 3 ≤ count_lines care
    → Runs (HasLength n) (halves_net n care want t line helper) (λ x. act (Flip (bit_or (from care line) (2 ^ helper)) (bit_or (from want line) (2 ^ helper)) t) (act (Flip (below care line) (below want line) helper) x))
runs_halves n care want t line helper c many =
    runs_then (HasLength n) (borrowed_net n (below care line) (below want line) helper) (borrowed_net n (bit_or (from care line) (2 ^ helper)) (bit_or (from want line) (2 ^ helper)) t) _ _
    (runs_borrowed_net n (below care line) (below want line) helper c.first (omega (arith, c.half)) c.enough_first)
    (runs_borrowed_net n (bit_or (from care line) (2 ^ helper)) (bit_or (from want line) (2 ^ helper)) t c.second (omega (arith, c.other)) c.enough_second)
    (λ x e. length-act (Flip (below care line) (below want line) helper) x ∙ e)

pub runs_split_net : (n care want t helper : ℕ) → IsLong n care t → 3 ≤ count_lines care → helper < n → is_free care t helper ≡ true
    → Runs (HasLength n) (split_net n care want t helper) (act (Flip care want t))
unfolding split_net
runs_split_net n care want t helper long many lt free =
    let line : ℕ = middle care in
    let c : IsCut n care t line helper = cut_of n care t helper long many lt free in
    let parts = free_parts care t helper free in
    let A : Shape = Flip (below care line) (below want line) helper in
    let B : Shape = Flip (bit_or (from care line) (2 ^ helper)) (bit_or (from want line) (2 ^ helper)) t in
    let half = runs_halves n care want t line helper c many in
    runs_as (HasLength n) _ _ _
    (runs_then (HasLength n) (halves_net n care want t line helper) (halves_net n care want t line helper) (λ x. act B (act A x)) (λ x. act B (act A x)) half half
    (λ x e. length-act B (act A x) ∙ length-act A x ∙ e))
    (λ x e.
    let lt2 : t < n = long.aimed in
    four (below care line) (below want line) (from care line) (from want line) helper t x (omega (arith, e, lt)) (omega (arith, e, lt2)) parts.1
    (off_from (below care line) care helper parts.0 (below_part care line helper))
    (off_from (below care line) care t long.free (below_part care line t))
    (off_from (from care line) care helper parts.0 (from_part care line helper))
    (off_from (from care line) care t long.free (from_part care line t))
    ∙ ap (put x t) (sym (holds_cut care want line x))
    ∙ sym (flip_if (holds care want x) x t))
