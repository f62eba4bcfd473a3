-- A sum over paths at its start and at its end.
use Rattle.std.proofs.Common.{◌≡◌, ℕ, suc, ◌+◌, ◌%◌, ◌<◌, ◌≤◌, All, Bool, true, false, cond, List, [], ◌∷◌, ◌++◌, length, drop, take, get_or, refl, sym, ap, ap₂, ◌∙◌, arith, subst}
use Rattle.std.proofs.Math.Seq.{drop-cons}
use Rattle.std.proofs.Math.ListN.{drop_of_length-le}
use Rattle.std.proofs.lemmas.List.{get_or_default, take_more}
use Rattle.std.proofs.lemmas.List.Elements.{All-get_or}
use Rattle.rv_gate.specs.Circuit.{Cascade}
use Rattle.rv_gate.specs.Every.{Every}
use Rattle.rv_gate.specs.Gate.{IsFlipOn, act, run, same_word}
use Rattle.rv_gate.specs.declared.circuit.Mark.{Mark}
use Rattle.rv_gate.specs.declared.gate.Shape.{Shape}
use Rattle.rv_gate.proofs.inside.GateLemmas.{act_twice, length-act, length-run}
use Rattle.rv_net.specs.Amplitude.{amplitude, count_h}
use Rattle.rv_net.specs.Cyclotomic.{Cyclotomic, nought, power, root2, times_w_power, unity}
use Rattle.rv_net.specs.Op.{Network, OpFitsIn}
use Rattle.rv_net.specs.declared.op.Op.{Op}
use Rattle.rv_net.specs.declared.op.Op.TheVariants.{X, Y, Z, H, S, Sdg, T, Tdg, Cx, Cz, Ccx, Swap, Cswap}
use Rattle.rv_net.proofs.Step.{Word, bit}
use Rattle.rv_terms.specs.Products.{odd}
use Rattle.rv_terms.specs.Phases.{power as phase}
use Rattle.rv_terms.specs.declared.sum.Sum.{Sum}
use Rattle.rv_sums.specs.Finding.{DenotesFrom, HasConstants}
use Rattle.rv_sums.specs.inside.Paths.{is_h, rooted}
use Rattle.rv_sums.specs.inside.State.{AreFlips, Holds, IsStart, Leads, Moves, Reached, left_of, spare, word_at}
use Rattle.rv_sums.specs.declared.path_sum.PathSum.{PathSum}
use Rattle.rv_sums.specs.declared.taking.Following.{Following}
use Rattle.rv_sums.proofs.Paths.{ended}
use Rattle.rv_sums.proofs.Turns.{rooted_cancels, rooted_more, rooted_nought, rooted_power, turns_none}
use Rattle.rv_sums.proofs.inside.Gates.{reached_same}
use Rattle.rv_sums.proofs.inside.States.{take_sums, take_whole, word_at-take}

-- flips can be run back
run_back : (lines : ℕ) (flips : List Shape) (u w : Word) → Every (IsFlipOn lines) flips → length u ≡ lines → length w ≡ lines
    → run flips u ≡ run flips w → u ≡ w
run_back lines [] u w each lu lw same = same
run_back lines (g ∷ rest) u w each lu lw same =
    let is : IsFlipOn lines g = each.0 in
    sym (act_twice g lines u is.0 is.1 is.2 lu)
    ∙ ap (act g) (run_back lines rest (act g u) (act g w) each.1 (length-act g u ∙ lu) (length-act g w ∙ lw) same)
    ∙ act_twice g lines w is.0 is.1 is.2 lw

pub reached_start : (marks : List Mark) (facts : List Sum) (lines : ℕ) (ops : List Op) (flips : List Shape) (s : PathSum) → IsStart marks lines s
    → ((x : Word) → HasConstants marks x → length x ≡ lines → Holds facts x) → Every (IsFlipOn lines) flips
    → Reached marks facts lines ops ops flips flips s
reached_start marks facts lines ops flips s start known each = record {
  lines_are = start.lines_are;
  flips = each;
  holds = λ w u m lw lu same. subst (Holds facts) (sym (run_back lines flips u w each lu lw same)) (known w m lw);
  stands = λ w u z m lw lu same.
      let at : u ≡ w = run_back lines flips u w each lu lw same in
      let begins : HasConstants marks u = subst (HasConstants marks) (sym at) m in
      ap (λ d. rooted d (amplitude ops w z)) start.scale
      ∙ sym (rooted_more spare 128 (amplitude ops w z))
      ∙ ap (λ a. rooted spare (rooted 128 a)) (ap (λ x. amplitude ops x z) (sym at) ∙ sym (turns_none 0 (amplitude ops u z) refl))
      ∙ ap (rooted spare) (sym (ended ops z u 0 (phase s.phases u) (word_at s.sums.items u) (λ v e. start.ends u v begins lu) (λ v e. ap (λ n. n % 8) (start.phases u v))));
}

-- an operation that is read at a place
pub op_at : (ops : List Op) (k : ℕ) → k < length ops → get_or ops k (X 0) ≡ get_or ops k (get_or ops k (X 0))
op_at ops k lt = get_or_default ops k (X 0) (get_or ops k (X 0)) lt

pub fits_at : (lines now : ℕ) (ops : List Op) (k : ℕ) (op : Op) → lines ≡ now → k < length ops → op ≡ get_or ops k op → All (λ o. OpFitsIn o lines) ops
    → OpFitsIn op now
fits_at lines now ops k op same lt is fits =
    subst (OpFitsIn op) same
    (subst (λ (o : Op). OpFitsIn o lines) (sym is) (All-get_or (λ o. OpFitsIn o lines) ops k op lt fits))

pub here_ops : (ops : List Op) (k : ℕ) (op : Op) → k < length ops → op ≡ get_or ops k op → drop k ops ≡ op ∷ drop (k + 1) ops
here_ops ops k op lt is =
    drop-cons ops k op lt ∙ ap₂ (λ h j. h ∷ drop j ops) (sym is) (let e : suc k ≡ k + 1 = omega arith in e)

pub reached_round : (marks : List Mark) (lines : ℕ) (ops : List Op) (flips : List Shape) (place : ℕ) (op : Op) (s t : Following)
    → place < length ops → op ≡ get_or ops place op → Moves (op ∷ []) flips s t
    → Reached marks s.facts.sums.items lines ops (drop place ops) flips (left_of flips s.left) s.sum
    → Reached marks t.facts.sums.items lines ops (drop (place + 1) ops) flips (left_of flips t.left) t.sum
reached_round marks lines ops flips place op s t lt is moves r =
    let P : List Op → Type 0 = λ rest. Reached marks s.facts.sums.items lines ops rest flips (left_of flips s.left) s.sum in
    moves.reached marks lines ops (drop (place + 1) ops) flips (subst P (here_ops ops place op lt is) r)

pub reached_end : (marks : List Mark) (lines : ℕ) (ops : List Op) (flips : List Shape) (place : ℕ) (s t : Following) (u : PathSum)
    → length ops ≤ place → Moves [] flips s t → left_of flips t.left ≡ [] → Leads [] t.sum u
    → Reached marks s.facts.sums.items lines ops (drop place ops) flips (left_of flips s.left) s.sum
    → Reached marks t.facts.sums.items lines ops [] flips [] u
reached_end marks lines ops flips place s t u all moves none leads r =
    let P : List Op → Type 0 = λ rest. Reached marks t.facts.sums.items lines ops rest flips (left_of flips t.left) t.sum in
    let Q : List Shape → Type 0 = λ left. Reached marks t.facts.sums.items lines ops [] flips left t.sum in
    reached_same marks t.facts.sums.items t.facts.sums.items lines ops [] flips [] t.sum u leads (λ x h. h)
    (subst Q none (subst P (drop_of_length-le ops all) (moves.reached marks lines ops (drop place ops) flips r)))

-- ---- sums that are lines

pub lines_none : (sums : List Sum) (x v : Word) → word_at (take 0 sums) x v ≡ take 0 x
lines_none sums x v = refl

pub lines_more : (sums : List Sum) (k line : ℕ) (sum : Sum) (x v : Word) → k < length sums → k < length x → sum ≡ get_or sums k sum → line ≡ k
    → odd sum x v ≡ bit x line → word_at (take k sums) x v ≡ take k x → word_at (take (k + 1) sums) x v ≡ take (k + 1) x
lines_more sums k line sum x v lt lx is same here before =
    word_at-take sums k sum x v lt is ∙ ap₂ (λ l b. l ++ b ∷ []) before (here ∙ ap (bit x) same) ∙ sym (take_more x k false lx)

pub lines_at : (sums : List Sum) (k : ℕ) (x v : Word) → length sums ≤ k → length x ≡ length sums → word_at (take k sums) x v ≡ take k x
    → word_at sums x v ≡ x
lines_at sums k x v le len before = ap (λ l. word_at l x v) (sym (take_sums sums k le)) ∙ before ∙ take_whole x k (omega arith)

pub lines_all : (sums : List Sum) (k : ℕ) → length sums ≤ k → ((x v : Word) → length sums ≤ length x → word_at (take k sums) x v ≡ take k x)
    → (x v : Word) → length x ≡ length sums → word_at sums x v ≡ x
lines_all sums k le before x v len = lines_at sums k x v le len (before x v (omega arith))

-- ---- the number of H

count_first : (op : Op) (rest : List Op) → count_h (op ∷ rest) ≡ cond (is_h op) 1 0 + count_h rest
unfolding count_h
count_first (H q) rest = omega arith
count_first (X q) rest = omega arith
count_first (Y q) rest = omega arith
count_first (Z q) rest = omega arith
count_first (S q) rest = omega arith
count_first (Sdg q) rest = omega arith
count_first (T q) rest = omega arith
count_first (Tdg q) rest = omega arith
count_first (Cx a b) rest = omega arith
count_first (Cz a b) rest = omega arith
count_first (Ccx a b c) rest = omega arith
count_first (Swap a b) rest = omega arith
count_first (Cswap c a b) rest = omega arith

pub count_more : (ops : List Op) (k : ℕ) (op : Op) (count one : ℕ) → k < length ops → op ≡ get_or ops k op → one ≡ cond (is_h op) 1 0
    → count + count_h (drop k ops) ≡ count_h ops → count + one + count_h (drop (k + 1) ops) ≡ count_h ops
count_more ops k op count one lt is here before =
    let step : count_h (drop k ops) ≡ cond (is_h op) 1 0 + count_h (drop (k + 1) ops) =
    ap count_h (here_ops ops k op lt is) ∙ count_first op (drop (k + 1) ops) in
    omega (arith, step, here, before)

pub count_all : (ops : List Op) (k count : ℕ) → length ops ≤ k → count + count_h (drop k ops) ≡ count_h ops → count ≡ count_h ops
unfolding count_h
count_all ops k count le before =
    let none : count_h (drop k ops) ≡ 0 = ap count_h (drop_of_length-le ops le) in
    omega (arith, none, before)

-- ---- the end

-- the amplitude at the end
pub at_end : (d h p : ℕ) (whole : Cyclotomic) (u z : Word) → d + h ≡ spare + 128
    → rooted d whole ≡ rooted spare (rooted 128 (times_w_power p (amplitude [] u z)))
    → whole ≡ rooted h (times_w_power p (amplitude [] u z))
at_end d h p whole u z all is =
    rooted_cancels d _ _ (is ∙ rooted_more spare 128 _ ∙ ap (λ k. rooted k (times_w_power p (amplitude [] u z))) (sym all) ∙ sym (rooted_more d h _))

rooted_delta : (h : ℕ) (b : Bool) → rooted h (cond b unity nought) ≡ cond b (power root2 h) nought
rooted_delta h true = sym (rooted_power h)
rooted_delta h false = rooted_nought h

pub same_denotes : (marks : List Mark) (facts : List Sum) (lines : ℕ) (ops : List Op) (flips : List Shape) (s : PathSum)
    → Reached marks facts lines ops [] flips [] s
    → ((x v : Word) → length x ≡ length s.sums.items → Holds facts x → word_at s.sums.items x v ≡ x) → ((x v : Word) → phase s.phases x v ≡ 0)
    → s.scale + count_h ops ≡ spare + 128 → DenotesFrom marks lines ops (run flips)
unfolding amplitude
same_denotes marks facts lines ops flips s r ends phases all x z lx lz m =
    let u : Word = run flips x in
    let lu : length u ≡ lines = length-run flips x ∙ lx in
    let known : Holds facts u = r.holds x u m lx lu refl in
    at_end s.scale (count_h ops) 0 (amplitude ops x z) u z all
    (r.stands x u z m lx lu refl
    ∙ ap (rooted spare) (ended [] z u 0 (phase s.phases u) (word_at s.sums.items u) (λ v e. ends u v (lu ∙ sym r.lines_are) known) (λ v e. ap (λ n. n % 8) (phases u v))))
    ∙ ap (rooted (count_h ops)) (turns_none 0 _ refl)
    ∙ rooted_delta (count_h ops) (same_word u z)

-- what holds for flips holds for the gates that they stand for
pub denotes_gates : (marks : List Mark) (lines : ℕ) (ops : List Op) (gates flips : List Shape)
    → ((w : Word) → length w ≡ lines → run flips w ≡ run gates w)
    → DenotesFrom marks lines ops (run flips) → DenotesFrom marks lines ops (run gates)
denotes_gates marks lines ops gates flips same is x z lx lz m =
    is x z lx lz m ∙ ap (λ u. cond (same_word u z) (power root2 (count_h ops)) nought) (same x lx)

-- the same of a circuit and a network
pub same_right : (marks : List Mark) (c : Cascade) (net : Network) (lines : ℕ) (ops : List Op) (items flips : List Shape) → lines ≡ net.lines → ops ≡ net.ops
    → items ≡ flips → length c.names ≡ net.lines → AreFlips (length c.names) c.gates flips → DenotesFrom marks lines ops (run items)
    → DenotesFrom marks net.lines net.ops (run c.gates)
same_right marks c net lines ops items flips el eo ei names own is =
    denotes_gates marks net.lines net.ops c.gates flips (λ w len. own.run_is w (len ∙ sym names))
    (subst (λ (l : List Shape). DenotesFrom marks net.lines net.ops (run l)) ei
    (subst (λ (l : List Op). DenotesFrom marks net.lines l (run items)) eo (subst (λ (n : ℕ). DenotesFrom marks n ops (run items)) el is)))
