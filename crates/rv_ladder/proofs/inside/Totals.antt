-- How many there are of what is counted in the network of a circuit, by what a ladder has.
use Rattle.std.proofs.Common.{◌≡◌, ℕ, zero, suc, ◌+◌, ◌*◌, ◌/◌, ◌^◌, ◌<◌, ◌≤◌, Bool, true, false, cond, not, ◌&&◌}
use Rattle.std.proofs.Common.{◌||◌, eqb, List, [], ◌∷◌, ◌++◌, length, map, take, reverse, get_or, refl, sym}
use Rattle.std.proofs.Common.{◌∙◌, ap, ap₂, inl, inr, arith, append-nil}
use Rattle.std.specs.Prelude.{bit_or}
use Rattle.std.specs.List.{All, flat_map, range_with_len, sum_by}
use Rattle.std.proofs.Math.Nat.{le-max_left, le-max_right, mul-add}
use Rattle.std.proofs.lemmas.Bool.{cases_eq, cases_lt, le-ltb, lt-ltb}
use Rattle.std.proofs.lemmas.List.{length-reverse, length-take-le, map-append}
use Rattle.std.proofs.lemmas.List.Elements.{All-head, All-tail}
use Rattle.std.proofs.lemmas.List.FromFn.{length-range_with_len}
use Rattle.std.proofs.lemmas.List.Sums.{sum_by-cons}
use Rattle.rv_gate.specs.Gate.{FitsIn, IsFlipOn, IsGate}
use Rattle.rv_gate.specs.Greatest.{greatest}
use Rattle.rv_gate.specs.Word.{has}
use Rattle.rv_gate.specs.declared.gate.Shape.{Shape}
use Rattle.rv_gate.specs.declared.gate.Shape.TheVariants.{Flip, Swap, Peres}
use Rattle.rv_gate.specs.declared.word.TheConstants.{MOST_LINES}
use Rattle.rv_gate.proofs.LineSets.{with_other, with_same}
use Rattle.rv_mct.specs.Blocks.{added, below, control, controls_of, count, count_lines, flip_wish, flips_of, from}
use Rattle.rv_mct.specs.Blocks.{is_free, middle, rising, wish}
use Rattle.rv_mct.specs.declared.aux.Aux.{Aux}
use Rattle.rv_mct.specs.declared.aux.Aux.TheVariants.{Borrowed, Clean}
use Rattle.rv_mct.specs.declared.control.Control.{Control}
use Rattle.rv_gate.specs.Every.{Every}
use Rattle.rv_mct.specs.inside.Long.{IsCut, Ready}
use Rattle.rv_mct.proofs.Rising.{count_zero, count-suc, rising-suc, rising_zero}
use Rattle.rv_mct.proofs.inside.Gates.{first_free, flips_own, free_some, long_of}
use Rattle.rv_mct.proofs.inside.LongFlips.{length-controls_of, length-rising}
use Rattle.rv_mct.proofs.inside.Splits.{count_sum, cut_of, has_below, has_from, not_below, not_from}
use Rattle.rv_net.specs.Network.{flip_ops, on_zero, toffoli}
use Rattle.rv_net.specs.declared.op.Op.{Op}
use Rattle.rv_net.specs.declared.op.Op.TheVariants.{X, Cx}
use Rattle.rv_ladder.specs.Counts.{Counted, flip_count, gate_count, gates_count, ladder_count, long_count, zero_count}
use Rattle.rv_ladder.specs.Ladder.{borrowed_flip, borrowed_net, borrowed_over, clean_flip, clean_over, flip_net}
use Rattle.rv_ladder.specs.Ladder.{gate_net, lines_of, long_net, relative_network, split_net, zeros}

pub length-lines : (cs : List Control) → length (lines_of cs) ≡ length cs
length-lines [] = refl
length-lines (c ∷ cs) = ap suc (length-lines cs)

-- ---- the controls that want 0

abbrev wants : List Control → ℕ
wants [] = 0
wants (c ∷ cs) = cond c.wanted 0 1 + wants cs

wants-append : (a b : List Control) → wants (a ++ b) ≡ wants a + wants b
wants-append [] b = omega arith
wants-append (c ∷ a) b = omega (arith, wants-append a b)

wants-rising : (care want n : ℕ) → wants (map (control want) (rising (has care) n)) ≡ count (λ line. has care line && not (has want line)) n
wants-rising care want zero =
    ap (λ (lines : List ℕ). wants (map (control want) lines)) (rising_zero (has care)) ∙ sym (count_zero (λ line. has care line && not (has want line)))
wants-rising care want (suc n) =
    ap (λ (lines : List ℕ). wants (map (control want) lines)) (rising-suc (has care) n) ∙ go (has care n) (wants-rising care want n)
    ∙ sym (count-suc (λ line. has care line && not (has want line)) n)
  where
    go : (b : Bool) → wants (map (control want) (rising (has care) n)) ≡ count (λ line. has care line && not (has want line)) n
        → wants (map (control want) (rising (has care) n ++ cond b (n ∷ []) [])) ≡ count (λ line. has care line && not (has want line)) n + cond (b && not (has want n)) 1 0
    go true so_far = rw map-append (omega (arith, wants-append (map (control want) (rising (has care) n)) (control want n ∷ []), so_far, one (has want n)))
      where
        one : (b : Bool) → cond {A = ℕ} b 0 1 ≡ cond (not b) 1 0
        one true = refl
        one false = refl
    go false so_far = rw append-nil (omega (arith, so_far))

-- each of them is in one half
zero_cut : (care want line h : ℕ) → has care h ≡ false
    → zero_count (below care line) (below want line) + zero_count (bit_or (from care line) (2 ^ h)) (bit_or (from want line) (2 ^ h)) ≡ zero_count care want
zero_cut care want line h free =
    count_sum (λ x. has (below care line) x && not (has (below want line) x)) (λ x. has (bit_or (from care line) (2 ^ h)) x && not (has (bit_or (from want line) (2 ^ h)) x))
    (λ x. has care x && not (has want x)) MOST_LINES (λ x lt. at x)
  where
    alone : (b : Bool) → cond {A = ℕ} b 1 0 + 0 ≡ cond b 1 0
    alone b = grind arith

    nothing : (b : Bool) → cond {A = ℕ} (b && not true) 1 0 ≡ 0
    nothing b = grind arith

    below_one : (x : ℕ) → x ≡ h → cond {A = ℕ} (has (below care line) x && not (has (below want line) x)) 1 0 ≡ 0
    below_one x e =
        elim (cases_lt x line) [
          | inl lt ↦ rw (has_below care line x lt ∙ ap (has care) e ∙ free) refl
          | inr ge ↦ rw (not_below care line x ge) refl
        ]

    others : (x : ℕ) → cond {A = ℕ} (has (below care line) x && not (has (below want line) x)) 1 0 + cond (has (from care line) x && not (has (from want line) x)) 1 0
        ≡ cond (has care x && not (has want x)) 1 0
    others x =
        elim (cases_lt x line) [
          | inl lt ↦ rw (has_below care line x lt, has_below want line x lt, not_from care line x lt) (alone (has care x && not (has want x)))
          | inr ge ↦ rw (not_below care line x ge, has_from care line x ge, has_from want line x ge) (omega arith)
        ]

    at : (x : ℕ) → cond {A = ℕ} (has (below care line) x && not (has (below want line) x)) 1 0
        + cond (has (bit_or (from care line) (2 ^ h)) x && not (has (bit_or (from want line) (2 ^ h)) x)) 1 0 ≡ cond (has care x && not (has want x)) 1 0
    at x =
        elim (cases_eq x h) [
          | inl e ↦
              let held : has (bit_or (from want line) (2 ^ h)) x ≡ true = ap (has (bit_or (from want line) (2 ^ h))) e ∙ with_same (from want line) h in
              let gone : has care x ≡ false = ap (has care) e ∙ free in
              let first = below_one x e in
              let second : cond {A = ℕ} (has (bit_or (from care line) (2 ^ h)) x && not (has (bit_or (from want line) (2 ^ h)) x)) 1 0 ≡ 0 =
              ap (λ b. cond {A = ℕ} (has (bit_or (from care line) (2 ^ h)) x && not b) 1 0) held ∙ nothing (has (bit_or (from care line) (2 ^ h)) x) in
              let third : cond {A = ℕ} (has care x && not (has want x)) 1 0 ≡ 0 = ap (λ b. cond {A = ℕ} (b && not (has want x)) 1 0) gone in
              omega (arith, first, second, third)
          | inr ne ↦ rw (with_other (from care line) h x ne, with_other (from want line) h x ne) (others x)
        ]

-- ---- what is counted adds up

pub record IsCount (counted : Counted) (m : List Op → ℕ) : Type 0 where
  pub none : m [] ≡ 0
  pub append : (a b : List Op) → m (a ++ b) ≡ m a + m b
  pub zero : (q : ℕ) → m (X q ∷ []) ≡ counted.zero
  pub flip : (t : ℕ) → m (X t ∷ []) ≡ counted.plain 0
  pub cnot : (a t : ℕ) → m (Cx a t ∷ []) ≡ counted.plain 1
  pub toffoli : (a b t : ℕ) → m (toffoli a b t) ≡ counted.plain 2
  pub borrowed : (a b : ℕ) (cs hs : List ℕ) (t : ℕ) → 1 ≤ length cs → length cs ≡ length hs → m (borrowed_flip a b cs hs t) ≡ counted.borrowed (length cs + 2)
  pub clean : (a b : ℕ) (cs hs : List ℕ) (t : ℕ) → length cs ≡ length hs → m (clean_flip a b cs hs t) ≡ counted.clean (length cs + 2)

module _ (counted : Counted) (m : List Op → ℕ) (is : IsCount counted m) where
  on_zero-count : (c : Control) → m (on_zero c) ≡ counted.zero * cond c.wanted 0 1
  on_zero-count c = go c.wanted
    where
      go : (b : Bool) → m (cond b [] (X c.line ∷ [])) ≡ counted.zero * cond b 0 1
      go true = omega (arith, is.none)
      go false = omega (arith, is.zero c.line)

  zeros-count : (cs : List Control) → m (zeros cs) ≡ counted.zero * wants cs
  zeros-count [] = omega (arith, is.none)
  zeros-count (c ∷ cs) =
      omega (arith, is.append (on_zero c) (zeros cs), on_zero-count c, zeros-count cs, mul-add counted.zero (cond c.wanted 0 1) (wants cs))

  -- with X round the controls that want 0
  around-count : (cs : List Control) (inner : List Op) → m (zeros cs ++ (inner ++ zeros cs)) ≡ m inner + 2 * (counted.zero * wants cs)
  around-count cs inner = omega (arith, is.append (zeros cs) (inner ++ zeros cs), is.append inner (zeros cs), zeros-count cs)

  flip_ops-count : (cs : List Control) (t : ℕ) → length cs ≤ 2 → m (flip_ops cs t) ≡ counted.plain (length cs) + 2 * (counted.zero * wants cs)
  unfolding flip_ops
  flip_ops-count [] t few = omega (arith, is.flip t)
  flip_ops-count (a ∷ []) t few =
      let one : List Op = Cx a.line t ∷ [] in
      omega (arith, is.append (on_zero a) (one ++ on_zero a), is.append one (on_zero a), is.cnot a.line t, on_zero-count a, mul-add counted.zero (cond a.wanted 0 1) 0)
  flip_ops-count (a ∷ (b ∷ [])) t few =
      let both : List Op = on_zero a ++ on_zero b in
      let all : List Op = toffoli a.line b.line t in
      omega (
        arith,
        is.append both (all ++ both),
        is.append all both,
        is.append (on_zero a) (on_zero b),
        is.toffoli a.line b.line t,
        on_zero-count a,
        on_zero-count b,
        mul-add counted.zero (cond a.wanted 0 1) (cond b.wanted 0 1 + 0),
        mul-add counted.zero (cond b.wanted 0 1) 0,
      )
  flip_ops-count (a ∷ (b ∷ (c ∷ more))) t few = absurd (omega (arith, few))

  -- ---- over borrowed lines

  few-count : (n : ℕ) → n < 3 → ladder_count counted n ≡ counted.plain n
  few-count n lt = ap (λ b. cond b (counted.plain n) (counted.borrowed n)) (lt-ltb n 3 lt)

  many-count : (n : ℕ) → 3 ≤ n → ladder_count counted n ≡ counted.borrowed n
  many-count n ge = ap (λ b. cond b (counted.plain n) (counted.borrowed n)) (le-ltb n 3 ge)

  inner-count : (a b : ℕ) (more : List Control) (free : List ℕ) (t : ℕ) → length more ≤ length free
      → m (borrowed_flip a b (lines_of (reverse more)) (reverse (take (length more) free)) t) ≡ ladder_count counted (length more + 2)
  unfolding borrowed_flip
  inner-count a b [] free t enough = is.toffoli a b t ∙ sym (few-count 2 (omega arith))
  inner-count a b (c ∷ more) free t enough =
      let cs : List ℕ = lines_of (reverse (c ∷ more)) in
      let hs : List ℕ = reverse (take (length (c ∷ more)) free) in
      let lc : length cs ≡ length (c ∷ more) = length-lines (reverse (c ∷ more)) ∙ length-reverse (c ∷ more) in
      let lh : length hs ≡ length (c ∷ more) = length-reverse (take (length (c ∷ more)) free) ∙ length-take-le (length (c ∷ more)) free enough in
      is.borrowed a b cs hs t (omega (arith, lc)) (lc ∙ sym lh) ∙ ap (λ n. counted.borrowed (n + 2)) lc
      ∙ sym (many-count (length (c ∷ more) + 2) (omega arith))

  over-count : (cs : List Control) (free : List ℕ) (t : ℕ) → 2 ≤ length cs → length cs ≤ length free + 2
      → m (borrowed_over cs free t) ≡ ladder_count counted (length cs) + 2 * (counted.zero * wants cs)
  over-count [] free t some enough = absurd (omega (arith, some))
  over-count (a ∷ []) free t some enough = absurd (omega (arith, some))
  over-count (a ∷ (b ∷ more)) free t some enough =
      let n : length more + 2 ≡ length (a ∷ (b ∷ more)) = omega arith in
      around-count (a ∷ (b ∷ more)) (borrowed_flip a.line b.line (lines_of (reverse more)) (reverse (take (length more) free)) t)
      ∙ ap (λ k. k + 2 * (counted.zero * wants (a ∷ (b ∷ more)))) (inner-count a.line b.line more free t (omega (arith, enough)) ∙ ap (ladder_count counted) n)

  net-count : (n care want t : ℕ) → 2 ≤ count_lines care → count_lines care ≤ count (is_free care t) n + 2
      → m (borrowed_net n care want t) ≡ ladder_count counted (count_lines care) + 2 * (counted.zero * zero_count care want)
  unfolding borrowed_net
  net-count n care want t some enough =
      let l : length (controls_of care want) ≡ count_lines care = length-controls_of care want in
      let f : length (rising (is_free care t) n) ≡ count (is_free care t) n = length-rising (is_free care t) n in
      over-count (controls_of care want) (rising (is_free care t) n) t (omega (arith, some, l)) (omega (arith, enough, l, f))
      ∙ ap₂ (λ k z. ladder_count counted k + 2 * (counted.zero * z)) l (wants-rising care want MOST_LINES)

  split-count : (n care want t h : ℕ) → IsCut n care t (middle care) h → 3 ≤ count_lines care → has care h ≡ false
      → m (split_net n care want t h)
      ≡ 2 * ladder_count counted ((count_lines care + 1) / 2) + 2 * ladder_count counted (count_lines care / 2 + 1) + 4 * (counted.zero * zero_count care want)
  unfolding split_net
  split-count n care want t h c many free =
      let line : ℕ = middle care in
      let second : ℕ = bit_or (from care line) (2 ^ h) in
      let wanted : ℕ = bit_or (from want line) (2 ^ h) in
      let A : List Op = borrowed_net n (below care line) (below want line) h in
      let B : List Op = borrowed_net n second wanted t in
      let za : ℕ = zero_count (below care line) (below want line) in
      let zb : ℕ = zero_count second wanted in
      let la : m A ≡ ladder_count counted ((count_lines care + 1) / 2) + 2 * (counted.zero * za) =
      net-count n (below care line) (below want line) h (omega (arith, c.half)) c.enough_first ∙ ap (λ k. ladder_count counted k + 2 * (counted.zero * za)) c.half in
      let lb : m B ≡ ladder_count counted (count_lines care / 2 + 1) + 2 * (counted.zero * zb) =
      net-count n second wanted t (omega (arith, c.other)) c.enough_second ∙ ap (λ k. ladder_count counted k + 2 * (counted.zero * zb)) c.other in
      let all : counted.zero * zero_count care want ≡ counted.zero * za + counted.zero * zb =
      ap (λ k. counted.zero * k) (sym (zero_cut care want line h free)) ∙ mul-add counted.zero za zb in
      omega (arith, is.append (A ++ B) (A ++ B), is.append A B, la, lb, all)

  -- ---- over clean lines

  clean_over-count : (cs : List Control) (first t : ℕ) → 3 ≤ length cs → m (clean_over cs first t) ≡ counted.clean (length cs) + 2 * (counted.zero * wants cs)
  clean_over-count [] first t many = absurd (omega (arith, many))
  clean_over-count (a ∷ []) first t many = absurd (omega (arith, many))
  clean_over-count (a ∷ (b ∷ more)) first t many =
      let l : length (lines_of more) ≡ length more = length-lines more in
      let n : length (lines_of more) + 2 ≡ length (a ∷ (b ∷ more)) = omega (arith, l) in
      around-count (a ∷ (b ∷ more)) (clean_flip a.line b.line (lines_of more) (range_with_len first (length more)) t)
      ∙ ap (λ k. k + 2 * (counted.zero * wants (a ∷ (b ∷ more))))
      (is.clean a.line b.line (lines_of more) (range_with_len first (length more)) t (l ∙ sym (length-range_with_len first (length more))) ∙ ap counted.clean n)

  -- ---- gates

  long-total : (aux : Aux) (n extra care want t : ℕ) → Ready aux n extra care want t → 3 ≤ count_lines care
      → m (long_net aux n extra care want t) ≡ long_count counted aux (count (is_free care t) (n + extra)) (count_lines care) (zero_count care want)
  long-total Clean n extra care want t r many =
      let l : length (controls_of care want) ≡ count_lines care = length-controls_of care want in
      clean_over-count (controls_of care want) n t (omega (arith, l, many))
      ∙ ap₂ (λ k z. counted.clean k + 2 * (counted.zero * z)) l (wants-rising care want MOST_LINES)
  long-total Borrowed n extra care want t r many =
      let N : ℕ = n + extra in
      let f = first_free (is_free care t) N (free_some n extra care want t r many) in
      let h : ℕ = get_or (rising (is_free care t) N) 0 0 in
      let k : ℕ = count_lines care in
      let z : ℕ = counted.zero * zero_count care want in
      let halves : ℕ = 2 * ladder_count counted ((k + 1) / 2) + 2 * ladder_count counted (k / 2 + 1) + 4 * z in
      let whole : ℕ = ladder_count counted k + 2 * z in
      elim (cases_lt (count (is_free care t) N + 2) k) [
        | inl lt ↦
            ap (λ b. m (cond b (split_net N care want t h) (borrowed_net N care want t))) (lt-ltb _ _ lt)
            ∙ split-count N care want t h (cut_of N care t h (long_of Borrowed n extra care want t r) many f.0 f.1) many (unused care t h f.1)
            ∙ sym (ap (λ b. cond b halves whole) (lt-ltb _ _ lt))
        | inr ge ↦
            ap (λ b. m (cond b (split_net N care want t h) (borrowed_net N care want t))) (le-ltb _ _ ge)
            ∙ net-count N care want t (omega (arith, many)) ge
            ∙ sym (ap (λ b. cond b halves whole) (le-ltb _ _ ge))
      ]
    where
      first : (a b : Bool) → not (a || b) ≡ true → a ≡ false
      first false b e = refl
      first true b e = absurd (let z = e in cc)

      unused : (care t h : ℕ) → is_free care t h ≡ true → has care h ≡ false
      unused care t h e = first (has care h) (eqb h t) e

  flip-total : (aux : Aux) (n extra : ℕ) (g : Shape) → n + extra ≤ 64 → IsFlipOn n g → flip_wish aux n g ≤ extra → m (flip_net aux n extra g) ≡ flip_count counted aux (n + extra) g
  flip-total aux n extra (Flip care want t) few own enough =
      let r : Ready aux n extra care want t = record { few = few; own = own; enough = enough } in
      let l : length (controls_of care want) ≡ count_lines care = length-controls_of care want in
      let plain : ℕ = counted.plain (count_lines care) + 2 * (counted.zero * zero_count care want) in
      let long : ℕ = long_count counted aux (count (is_free care t) (n + extra)) (count_lines care) (zero_count care want) in
      elim (cases_lt (count_lines care) 3) [
        | inl lt ↦
            ap (λ b. m (cond b (flip_ops (controls_of care want) t) (long_net aux n extra care want t))) (lt-ltb (count_lines care) 3 lt)
            ∙ flip_ops-count (controls_of care want) t (omega (arith, l, lt))
            ∙ ap₂ (λ k z. counted.plain k + 2 * (counted.zero * z)) l (wants-rising care want MOST_LINES)
            ∙ sym (ap (λ b. cond b plain long) (lt-ltb (count_lines care) 3 lt))
        | inr ge ↦
            ap (λ b. m (cond b (flip_ops (controls_of care want) t) (long_net aux n extra care want t))) (le-ltb (count_lines care) 3 ge)
            ∙ long-total aux n extra care want t r ge
            ∙ sym (ap (λ b. cond b plain long) (le-ltb (count_lines care) 3 ge))
      ]
  flip-total aux n extra (Swap care want a b) few own enough = is.none
  flip-total aux n extra (Peres a b c) few own enough = is.none

  made-total : (made : Shape → List Op) (cost : Shape → ℕ) (gates : List Shape) → Every (λ g. m (made g) ≡ cost g) gates → m (flat_map made gates) ≡ sum_by cost gates
  made-total made cost [] h = is.none
  made-total made cost (g ∷ rest) h = omega (arith, is.append (made g) (flat_map made rest), sum_by-cons cost g rest, h.0, made-total made cost rest h.1)

  flips-total : (aux : Aux) (n extra : ℕ) (flips : List Shape) → n + extra ≤ 64 → Every (IsFlipOn n) flips → greatest (flip_wish aux n) flips ≤ extra
      → Every (λ g. m (flip_net aux n extra g) ≡ flip_count counted aux (n + extra) g) flips
  unfolding greatest
  flips-total aux n extra [] few owns enough = tt
  flips-total aux n extra (g ∷ rest) few owns enough =
      let l = le-max_left (flip_wish aux n g) (greatest (flip_wish aux n) rest) in
      let r = le-max_right (flip_wish aux n g) (greatest (flip_wish aux n) rest) in
      (flip-total aux n extra g few owns.0 (omega arith), flips-total aux n extra rest few owns.1 (omega arith))

  gates-total : (aux : Aux) (n extra : ℕ) (gates : List Shape) → n + extra ≤ 64 → All IsGate gates → All (λ g. FitsIn g n) gates → added aux n gates ≤ extra
      → Every (λ g. m (gate_net aux n extra g) ≡ gate_count counted aux (n + extra) g) gates
  unfolding greatest
  gates-total aux n extra [] few valid fitting enough = tt
  gates-total aux n extra (g ∷ rest) few valid fitting enough =
      let l = le-max_left (wish aux n g) (greatest (wish aux n) rest) in
      let r = le-max_right (wish aux n g) (greatest (wish aux n) rest) in
      let own = flips_own g n (omega arith) (All-head IsGate g rest valid) (All-head (λ h. FitsIn h n) g rest fitting) in (
        made-total (flip_net aux n extra) (flip_count counted aux (n + extra)) (flips_of g) (flips-total aux n extra (flips_of g) few own (omega arith)),
        gates-total aux n extra rest few (All-tail IsGate g rest valid) (All-tail (λ h. FitsIn h n) g rest fitting) (omega arith),
      )

  -- of a circuit
  pub network-total : (aux : Aux) (n extra : ℕ) (gates : List Shape) → n + extra ≤ 64 → All IsGate gates → All (λ g. FitsIn g n) gates → added aux n gates ≤ extra
      → m (relative_network aux n extra gates) ≡ gates_count counted aux (n + extra) gates
  network-total aux n extra gates few valid fitting enough =
      made-total (gate_net aux n extra) (gate_count counted aux (n + extra)) gates (gates-total aux n extra gates few valid fitting enough)
