-- The flip over lines that hold 0.
use Rattle.std.proofs.Common.{◌≡◌, ◌≢◌, ℕ, suc, ◌+◌, ◌-◌, ◌*◌, ◌<◌, ◌≤◌, Bool, true, false, ◌&&◌, List, [], ◌∷◌, ◌++◌, length, map, take, set, refl, sym, ◌∙◌, ap, ap₂, inl, arith, length-set, get_or-set_same, get_or-set_other, set-set, subst}
use Rattle.std.specs.List.{range_with_len}
use Rattle.std.proofs.lemmas.Bool.{false≢true}
use Rattle.std.proofs.lemmas.List.{set_comm, set-get_or}
use Rattle.std.proofs.lemmas.List.FromFn.{length-range_with_len}
use Rattle.std.proofs.Math.Seq.{take-length}
use Rattle.rv_gate.specs.Gate.{act, xor, Within}
use Rattle.rv_gate.specs.Word.{has}
use Rattle.rv_gate.specs.declared.gate.Shape.TheVariants.{Flip}
use Rattle.rv_mct.specs.Blocks.{control, controls_of, count_lines, positive, rising}
use Rattle.rv_mct.specs.declared.control.Control.{Control}
use Rattle.rv_gate.specs.Every.{Every}
use Rattle.rv_mct.specs.inside.LadderLines.{CleanDivided, Distinct, Divides as Division, In, IsOn as IsControl}
use Rattle.rv_mct.proofs.inside.Ladders.{Zeros, higher, met as met_one, met_all, off_on, put, with_line, zeros_set}
use Rattle.rv_mct.proofs.inside.LongFlips.{act_put, clean_divided, distinct_rising, in_range, in_rising, length-rising, every_from}
use Rattle.rv_net.specs.declared.op.Op.{Op}
use Rattle.rv_net.specs.declared.op.Op.TheVariants.{Cx}
use Rattle.rv_net.specs.Cyclotomic.{Cyclotomic, plus, times_w_power, doubled}
use Rattle.rv_net.proofs.Step.{Word, bit}
use Rattle.rv_net.proofs.Frame.{through, through-append}
use Rattle.rv_net.proofs.Toffoli.{through-toffoli}
use Rattle.rv_ladder.specs.Ladder.{clean_flip, clean_over, lines_of, rung, zeros}
use Rattle.rv_ladder.specs.inside.Moved.{level}
use Rattle.rv_ladder.proofs.inside.Moving.{level_twice}
use Rattle.rv_ladder.proofs.inside.Fitting.{Fit, fit_clean}
use Rattle.rv_ladder.proofs.inside.Flips.{small_lines}
use Rattle.rv_ladder.proofs.inside.Rungs.{through-rung}
use Rattle.rv_ladder.proofs.inside.Ladders.{flips_first}
use Rattle.rv_ladder.proofs.Counting.{hadamards-are}
use Rattle.rv_ladder.proofs.inside.Totals.{length-lines}
use Rattle.rv_ladder.proofs.inside.Nets.{Runs, runs_as, runs_then, runs_zeros, flipped, flipped-bit, flipped-met, flipped-set, flipped-twice, length-flipped}
use Rattle.rv_gate.proofs.Bits.{and_assoc, xor_false, xor_same}
use Rattle.rv_net.proofs.Cyclotomic.{doubled-power, doubled-more}

-- the lines of the controls hold 1
abbrev lit : List Control → Word → Bool
lit [] x = true
lit (c ∷ cs) x = bit x c.line && lit cs x

lit-other : (n : ℕ) (on : ℕ → Bool) (cs : List Control) (x : Word) (q : ℕ) (v : Bool) → Every (IsControl n on) cs → on q ≡ false → lit cs (set x q v) ≡ lit cs x
lit-other n on [] x q v e off = refl
lit-other n on (c ∷ cs) x q v e off = ap₂ (λ s t. s && t) (get_or-set_other x q c.line v false (off_on on c.line q e.0.1 off)) (lit-other n on cs x q v e.1 off)

-- a flip of z under a and b, up to a power of w
through-first : (k : Word → Cyclotomic) (x : Word) (a b z : ℕ) → z < length x → a ≢ z → b ≢ z
    → through (rung b z (Cx a z ∷ [])) k x ≡ doubled 1 (times_w_power (level (bit x a) (bit x b) (bit x z)) (k (set x z (xor (bit x a && bit x b) (bit x z)))))
through-first k x a b z lz az bz =
    through-rung k x x b z 0 0 (bit x a) (Cx a z ∷ []) lz refl bz refl (flips_first x a z lz az)
    ∙ ap (λ p. doubled 1 (times_w_power p (k (set x z (xor (bit x a && bit x b) (bit x z)))))) (let e : 0 + level (bit x a) (bit x b) (bit x z) ≡ level (bit x a) (bit x b) (bit x z) = omega arith in e)

and_true : (x : Bool) → x ≡ (x && true)
and_true x = grind arith

-- two flips up to powers of w round another network, where the powers cancel
outside : (m p q : ℕ) (u : Cyclotomic) → times_w_power p (times_w_power q u) ≡ u → doubled 1 (times_w_power p (doubled m (doubled 1 (times_w_power q u)))) ≡ doubled (suc (m + 1)) u
unfolding doubled
outside m p q u cancel =
    ap (doubled 1) (doubled-power m p _ ∙ ap (doubled m) (doubled-power 1 p _ ∙ ap (doubled 1) cancel) ∙ doubled-more m 1 u)

abbrev pub rounds : List Control → ℕ
rounds [] = 1
rounds (c ∷ cs) = suc (rounds cs + 1)

pub through-clean : (n : ℕ) (on : ℕ → Bool) (a b : Control) (more : List Control) (hs : List ℕ) (t : ℕ) (k : Word → Cyclotomic) (x : Word)
    → Division n on a b more (t ∷ hs) → length x ≡ n → length more ≡ length hs → Zeros hs x
    → through (clean_flip a.line b.line (lines_of more) hs t) k x ≡ doubled (rounds more) (k (put x t (bit x a.line && (bit x b.line && lit more x))))
unfolding clean_flip doubled
through-clean n on a b [] hs t k x r len enough zs =
    through-toffoli k x a.line b.line t (omega (arith, r.first.0)) (omega (arith, r.second.0)) (omega (arith, r.spots.0.0)) r.apart (off_on on a.line t r.first.1 r.spots.0.1) (off_on on b.line t r.second.1 r.spots.0.1)
    ∙ ap (λ q. plus (k (put x t (bit x a.line && q))) (k (put x t (bit x a.line && q)))) (and_true (bit x b.line))
through-clean n on a b (c ∷ more) [] t k x r len enough zs = absurd (omega arith)
through-clean n on a b (c ∷ more) (z ∷ hs) t k x r len enough zs =
    let V : List Op = rung b.line z (Cx a.line z ∷ []) in
    let L : List Op = clean_flip z c.line (lines_of more) hs t in
    let A : Bool = bit x a.line in
    let B : Bool = bit x b.line in
    let j : Bool = A && B in
    let rest : Bool = bit x c.line && lit more x in
    let off_z : on z ≡ false = r.spots.1.0.1 in
    let off_t : on t ≡ false = r.spots.0.1 in
    let lz : z < n = r.spots.1.0.0 in
    let zt : z ≢ t = r.distinct.0 z (inl refl) in
    let tz : t ≢ z = λ e. zt (sym e) in
    let az : a.line ≢ z = off_on on a.line z r.first.1 off_z in
    let bz : b.line ≢ z = off_on on b.line z r.second.1 off_z in
    let ta : a.line ≢ t = off_on on a.line t r.first.1 off_t in
    let tb : b.line ≢ t = off_on on b.line t r.second.1 off_t in
    let w1 : Word = set x z (xor j false) in
    let l1 : length w1 ≡ n = length-set x z _ ∙ len in
    let at1 : bit w1 z ≡ xor j false = get_or-set_same x z _ false (omega (arith, lz, len)) in
    let none : xor j false ≡ j = xor_false j in
    let all1 : (bit w1 z && (bit w1 c.line && lit more w1)) ≡ (j && rest) =
    ap₂ (λ p q. p && q) (at1 ∙ none) (lit-other n on (c ∷ more) x z (xor j false) r.more off_z) in
    let y : Bool = xor (j && rest) (bit x t) in
    let w2 : Word = set w1 t y in
    let l2 : length w2 ≡ n = length-set w1 t y ∙ l1 in
    let put2 : put w1 t (bit w1 z && (bit w1 c.line && lit more w1)) ≡ w2 =
    ap₂ (λ p q. set w1 t (xor p q)) all1 (get_or-set_other x z t (xor j false) false tz) in
    let a2 : bit w2 a.line ≡ A = get_or-set_other w1 t a.line y false ta ∙ get_or-set_other x z a.line _ false az in
    let b2 : bit w2 b.line ≡ B = get_or-set_other w1 t b.line y false tb ∙ get_or-set_other x z b.line _ false bz in
    let z2 : bit w2 z ≡ xor j false = get_or-set_other w1 t z y false zt ∙ at1 in
    let end : set w2 z (xor j (xor j false)) ≡ put x t (A && (B && rest)) =
    ap (set w2 z) (ap (xor j) none ∙ xor_same j)
    ∙ set_comm w1 t z y false tz
    ∙ ap (λ w. set w t y) (set-set x z (xor j false) false ∙ ap (set x z) (sym zs.0) ∙ set-get_or x z false)
    ∙ ap (λ v. set x t (xor v (bit x t))) (and_assoc A B rest) in
    through-append V (L ++ V) k x
    ∙ through-first (λ o. through (L ++ V) k o) x a.line b.line z (omega (arith, lz, len)) az bz
    ∙ ap (λ v. doubled 1 (times_w_power (level A B v) (through (L ++ V) k (set x z (xor j v))))) zs.0
    ∙ ap (λ u. doubled 1 (times_w_power (level A B false) u)) (
    through-append L V k w1
    ∙ through-clean n (with_line on z) (positive z) c more hs t (λ o. through V k o) w1 (higher n on a b c more t z hs r) l1 (omega (arith, enough)) (zeros_set hs x z (xor j false) r.distinct.1.0 zs.1)
    ∙ ap (doubled (rounds more)) (
    ap (through V k) put2
    ∙ through-first k w2 a.line b.line z (omega (arith, lz, l2)) az bz
    ∙ (λ i. doubled 1 (times_w_power (level (a2 i) (b2 i) (z2 i)) (k (set w2 z (xor (a2 i && b2 i) (z2 i))))))
    ∙ ap (λ w. doubled 1 (times_w_power (level A B (xor j false)) (k w))) end
    )
    )
    ∙ outside (rounds more) (level A B false) (level A B (xor j false)) _ (level_twice A B false _)

rounds-is : (cs : List Control) → rounds cs ≡ 2 * length cs + 1
rounds-is [] = refl
rounds-is (c ∷ cs) = omega (arith, rounds-is cs)

-- ---- with lines from n on that hold 0

abbrev pub ZeroFrom : ℕ → ℕ → Word → Type 0
ZeroFrom n all x = (length x ≡ all) × ((z : ℕ) → n ≤ z → bit x z ≡ false)

all_lit : (cs : List Control) (y x : Word) → Every (λ c. bit y c.line ≡ met_one c x) cs → lit cs y ≡ met_all cs x
all_lit [] y x h = refl
all_lit (c ∷ cs) y x h = ap₂ (λ p q. p && q) h.0 (all_lit cs y x h.1)

runs_clean_over : (n extra want t : ℕ) (xs : List ℕ) → Distinct xs → ((z : ℕ) → In z xs → z < n) → ((z : ℕ) → In z xs → z ≢ t) → t < n → 2 ≤ length xs
    → CleanDivided (n + extra) (map (control want) xs) n t
    → Runs (ZeroFrom n (n + extra)) (clean_over (map (control want) xs) n t) (λ x. put x t (met_all (map (control want) xs) x))
unfolding doubled
runs_clean_over n extra want t [] dx below out lt some d = absurd (omega arith)
runs_clean_over n extra want t (x ∷ []) dx below out lt some d = absurd (omega arith)
runs_clean_over n extra want t (p ∷ (q ∷ rest)) dx below out lt some d =
    let a : Control = control want p in
    let b : Control = control want q in
    let more : List Control = map (control want) rest in
    let cs : List Control = a ∷ (b ∷ more) in
    let all : ℕ = n + extra in
    let ok : Word → Type 0 = ZeroFrom n all in
    let hs : List ℕ = range_with_len n (length more) in
    let lh : length hs ≡ length more = length-range_with_len n (length more) in
    let e1 : suc (suc (length more)) - 2 ≡ length more = omega arith in
    let cut : take (length more) more ≡ more = take-length more in
    let both : Division all d.0 a b more (t ∷ hs) = rw (e1, cut) at d.1 in
    let net : List Op = clean_flip p q (lines_of more) hs t in
    let moves : Word → Word = λ x. put x t (bit x p && (bit x q && lit more x)) in
    let run : Runs ok net moves = record {
      twos = rounds more;
      each = λ k x o. through-clean all d.0 a b more hs t k x both o.0 (sym lh) (every_from (λ h. bit x h ≡ false) hs (λ z i. o.1 z (in_range n (length more) z i).0));
      counted = omega (arith, hadamards-are.clean p q (lines_of more) hs t (length-lines more ∙ sym lh), rounds-is more, length-lines more);
      fitting = λ x o. subst (λ k. Fit k net) (sym o.0) (fit_clean all d.0 a b more hs t both);
    } in
    let small : (x : Word) → ok x → Every (λ c. c.line < length x) cs = λ x o. small_lines want (p ∷ (q ∷ rest)) (length x) (λ z i. let l : z < n = below z i in omega (arith, o.0, l)) in
    let moved_ok : (x : Word) → ok x → ok (moves x) = λ x o. (length-set x t _ ∙ o.0, λ z le. get_or-set_other x t z _ false (λ e. omega arith) ∙ o.1 z le) in
    let flipped_ok : (x : Word) → ok x → ok (flipped cs x) = λ x o.
    (length-flipped cs x ∙ o.0, λ z le. flipped-bit want (p ∷ (q ∷ rest)) x z (λ y i e. let l : y < n = below y i in omega arith) ∙ o.1 z le) in
    let end : Runs ok (net ++ zeros cs) (λ x. flipped cs (moves x)) = runs_then ok net (zeros cs) moves (flipped cs) run (runs_zeros ok cs small) moved_ok in
    runs_as ok _ _ _
    (runs_then ok (zeros cs) (net ++ zeros cs) (flipped cs) (λ x. flipped cs (moves x)) (runs_zeros ok cs small) end flipped_ok)
    (λ x o.
    let within : (z : ℕ) → In z (p ∷ (q ∷ rest)) → z < length x = λ z i. let l : z < n = below z i in omega (arith, o.0, l) in
    let y : Word = flipped cs x in
    let held = flipped-met want (p ∷ (q ∷ rest)) x dx within in
    let on_all : (bit y p && (bit y q && lit more y)) ≡ met_all cs x = all_lit cs y x held in
    flipped-set want (p ∷ (q ∷ rest)) y t _ out
    ∙ ap (λ w. set w t (xor (bit y p && (bit y q && lit more y)) (bit y t))) (flipped-twice want (p ∷ (q ∷ rest)) x dx within)
    ∙ ap₂ (λ u v. set x t (xor u v)) on_all (flipped-bit want (p ∷ (q ∷ rest)) x t out))

pub runs_clean_net : (n extra care want t : ℕ) → n + extra ≤ 64 → Within care n → t < n → has care t ≡ false → 2 ≤ count_lines care → count_lines care ≤ extra + 2
    → Runs (ZeroFrom n (n + extra)) (clean_over (controls_of care want) n t) (act (Flip care want t))
runs_clean_net n extra care want t few within lt free some enough =
    let xs : List ℕ = rising (has care) 64 in
    let l1 = length-rising (has care) 64 in
    let ons : (z : ℕ) → In z xs → has care z ≡ true = λ z i. (in_rising (has care) 64 z i).1 in
    runs_as (ZeroFrom n (n + extra)) _ _ _
    (runs_clean_over n extra want t xs (distinct_rising (has care) 64) (λ z i. within z (ons z i)) (λ z i e. false≢true (sym free ∙ ap (has care) (sym e) ∙ ons z i)) lt (omega arith)
    (clean_divided n extra care want t (controls_of care want) within lt free some enough refl))
    (λ x o. sym (act_put care want t (n + extra) x o.0 few (λ z on. let l : z < n = within z on in omega arith)))
