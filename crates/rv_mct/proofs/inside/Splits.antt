-- How many lines there are of a kind, and a long flip by halves.
use Rattle.std.proofs.lemmas.Grind.{common_steps}
use Rattle.std.proofs.Common.{◌≡◌, ◌≢◌, ℕ, zero, suc, ◌+◌, ◌-◌, ◌*◌, ◌/◌, ◌%◌, ◌^◌, ◌<◌, ◌≤◌, Bool, true, false, not, cond, ◌&&◌, ◌||◌, eqb, List, [], ◌∷◌, ◌++◌, length, get_or, refl, sym, ◌∙◌, ap, ap₂, inl, inr, arith, eq-eqb, ne_eqb, get_or-set_same, get_or-set_other, length-set}
use Rattle.std.specs.Prelude.{bit_or}
use Rattle.std.specs.Int.{bit_at}
use Rattle.std.proofs.lemmas.Bool.{cases_eq, cases_lt, cases_Bool, eqb-true, false≢true, or_cases, and_parts, and_from}
use Rattle.std.proofs.lemmas.Bool.Decides.{same_from_decides}
use Rattle.std.proofs.lemmas.List.{get_or-append-add}
use Rattle.std.proofs.Math.ListN.{get_or-append}
use Rattle.std.proofs.Math.Nat.{mod-add-div'}
use Rattle.std.proofs.lemmas.Nat.{pow_pos}
use Rattle.std.proofs.lemmas.Nat.Bits.{bit_at_cat_low, bit_at_cat_high, bit_at_above, bit_at-zero}
use Rattle.rv_gate.specs.Word.{has, bit_of}
use Rattle.rv_gate.specs.Gate.{holds, xor, act, run, Within}
use Rattle.rv_gate.specs.declared.gate.Shape.{Shape}
use Rattle.rv_gate.specs.declared.gate.Shape.TheVariants.{Flip}
use Rattle.rv_gate.proofs.inside.GateLemmas.{Hold, holds_Decides, holds-set, flip_if, length-act, length-run, run-append}
use Rattle.rv_gate.proofs.LineSets.{has-with_line, with_other, with_same}
use Rattle.rv_mct.specs.declared.control.Control.{Control}
use Rattle.rv_mct.specs.Blocks.{controls_of, rising, count, is_free, count_lines, below, from, middle, borrowed_ladder, halves, split}
use Rattle.rv_mct.specs.inside.LadderLines.{In}
use Rattle.rv_mct.specs.inside.Long.{IsLong, IsCut}
use Rattle.rv_mct.proofs.Rising.{rising-suc, rising_upto, count_zero, count-suc}
use Rattle.rv_mct.proofs.inside.Ladders.{put, put_comm, put_put, put_twice}
use Rattle.rv_mct.proofs.inside.LongFlips.{length-controls_of, line_at, free_parts, length-rising, not_within, rising_in, run_borrowed_ladder}

-- ---- counts

pub count_sum : (p q r : ℕ → Bool) (n : ℕ) → ((x : ℕ) → x < n → cond {A = ℕ} (p x) 1 0 + cond (q x) 1 0 ≡ cond (r x) 1 0) → count p n + count q n ≡ count r n
count_sum p q r zero h = omega (arith, count_zero)
count_sum p q r (suc n) h = omega (arith, count-suc p n, count-suc q n, count-suc r n, count_sum p q r n (λ x lt. h x (omega arith)), h n (omega arith))

-- none from a line on
pub count_upto : (p q : ℕ → Bool) (n line : ℕ) → line ≤ n → ((x : ℕ) → x < line → q x ≡ p x) → ((x : ℕ) → line ≤ x → x < n → q x ≡ false) → count q n ≡ count p line
count_upto p q n line few low high = sym (length-rising q n) ∙ ap length (rising_upto p q n line few low high) ∙ length-rising p line

pub count_same : (p q : ℕ → Bool) (n : ℕ) → ((x : ℕ) → x < n → p x ≡ q x) → count p n ≡ count q n
count_same p q n h = count_upto q p n n (omega arith) h (λ x g l. absurd (omega arith))

pub count_none : (p : ℕ → Bool) (n : ℕ) → ((x : ℕ) → x < n → p x ≡ false) → count p n ≡ 0
count_none p n h = count_upto p p n 0 (omega arith) (λ x l. refl) (λ x g l. h x l) ∙ count_zero p

pub count_all : (n : ℕ) → count (λ x. true) n ≡ n
count_all zero = count_zero (λ x. true)
count_all (suc n) = omega (arith, count-suc (λ x. true) n, count_all n)

pub count_one : (b n : ℕ) → b < n → count (λ x. eqb x b) n ≡ 1
count_one b n h =
    let p : ℕ → Bool = λ x. eqb x b in
    let one : cond {A = ℕ} (eqb b b) 1 0 ≡ 1 = ap (λ t. cond t 1 0) (eq-eqb b b refl) in
    let below : count p b ≡ 0 = count_none p b (λ x lt. ne_eqb x b (λ e. omega arith)) in
    omega (arith, count_upto p p n (suc b) (omega arith) (λ x lt. refl) (λ x ge lt. ne_eqb x b (λ e. omega arith)), count-suc p b)

-- the line at a place of the list has as many before it
pub count_rising : (p : ℕ → Bool) (n k : ℕ) → k < count p n → (count p (get_or (rising p n) k 0) ≡ k) × (get_or (rising p n) k 0 < n)
count_rising p zero k h = absurd (omega (arith, count_zero p))
count_rising p (suc n) k h =
    let l = length-rising p n in
    let more : k < count p n + cond (p n) 1 0 = omega (arith, count-suc p n) in
    rw (rising-suc p n) (elim (cases_lt k (count p n)) [
      | inl lt ↦
          let r = count_rising p n k lt in
          let e : get_or (rising p n ++ cond (p n) (n ∷ []) []) k 0 ≡ get_or (rising p n) k 0 = get_or-append (rising p n) _ 0 k (omega arith) in
          let lt2 : get_or (rising p n) k 0 < n = r.1 in
          (ap (count p) e ∙ r.0, omega arith)
      | inr ge ↦ last (p n) (rising p n) l ge more
    ])
  where
    last : (b : Bool) (xs : List ℕ) → length xs ≡ count p n → count p n ≤ k → k < count p n + cond b 1 0
        → (count p (get_or (xs ++ cond b (n ∷ []) []) k 0) ≡ k) × (get_or (xs ++ cond b (n ∷ []) []) k 0 < suc n)
    last false xs l ge h = absurd (omega arith)
    last true xs l ge h =
        let at : k ≡ length xs + 0 = omega arith in
        let e : get_or (xs ++ (n ∷ [])) k 0 ≡ n = ap (λ j. get_or (xs ++ (n ∷ [])) j 0) at ∙ get_or-append-add xs (n ∷ []) 0 0 in
        (ap (count p) e ∙ omega arith, omega arith)

-- ---- parts of a set

cut : (x k : ℕ) → x / 2 ^ k * 2 ^ k + x % 2 ^ k ≡ x
cut x k = omega (arith, mod-add-div' x (2 ^ k))

pub has_below : (x k i : ℕ) → i < k → has (below x k) i ≡ has x i
has_below x k i h = ap (λ b. eqb b 1) (sym (bit_at_cat_low (x / 2 ^ k) k (x % 2 ^ k) i h) ∙ ap (λ y. bit_at y i) (cut x k))

pub not_below : (x k i : ℕ) → k ≤ i → has (below x k) i ≡ false
not_below x k i h = grind (arith, pow_pos, bit_at_above)

whole : (x k : ℕ) → from x k ≡ x / 2 ^ k * 2 ^ k
whole x k = omega (arith, cut x k)

pub has_from : (x k i : ℕ) → k ≤ i → has (from x k) i ≡ has x i
has_from x k i h =
    let p : 0 < 2 ^ k = pow_pos k in
    let z : x / 2 ^ k * 2 ^ k + 0 ≡ x / 2 ^ k * 2 ^ k = omega arith in
    let lhs : bit_at (x / 2 ^ k * 2 ^ k) i ≡ bit_at (x / 2 ^ k) (i - k) = ap (λ y. bit_at y i) (sym z) ∙ bit_at_cat_high (x / 2 ^ k) k 0 i p h in
    let rhs : bit_at x i ≡ bit_at (x / 2 ^ k) (i - k) = ap (λ y. bit_at y i) (sym (cut x k)) ∙ bit_at_cat_high (x / 2 ^ k) k (x % 2 ^ k) i (omega arith) h in
    ap (λ y. has y i) (whole x k) ∙ ap (λ b. eqb b 1) (lhs ∙ sym rhs)

pub not_from : (x k i : ℕ) → i < k → has (from x k) i ≡ false
not_from x k i h =
    let z : x / 2 ^ k * 2 ^ k + 0 ≡ x / 2 ^ k * 2 ^ k = omega arith in
    ap (λ y. has y i) (whole x k) ∙ ap (λ b. eqb b 1) (ap (λ y. bit_at y i) (sym z) ∙ bit_at_cat_low (x / 2 ^ k) k 0 i h ∙ bit_at-zero i)

pub below_part : (x k i : ℕ) → has (below x k) i ≡ true → has x i ≡ true
below_part x k i on = grind (arith, cases_lt, has_below, not_below)

pub from_part : (x k i : ℕ) → has (from x k) i ≡ true → has x i ≡ true
from_part x k i on = grind (arith, cases_lt, has_from, not_from)

pub off_from : (x y i : ℕ) → has y i ≡ false → (has x i ≡ true → has y i ≡ true) → has x i ≡ false
off_from x y i off part = elim (cases_Bool (has x i)) [ inl on ↦ absurd (false≢true (sym off ∙ part on)) | inr gone ↦ gone ]

or_last : (x : Bool) (b : ℕ) → (x || eqb b b) ≡ true
or_last true b = refl
or_last false b = eq-eqb b b refl

-- ---- sizes

pub count_lines-within : (care n : ℕ) → n ≤ 64 → Within care n → count (has care) n ≡ count_lines care
count_lines-within care n few within = sym (count_upto (has care) (has care) 64 n few (λ x lt. refl) (λ x ge lt. not_within care n x within ge))

sum_or : (p q : Bool) → (p ≡ true → q ≡ false) → cond {A = ℕ} p 1 0 + cond q 1 0 ≡ cond (p || q) 1 0
sum_or p q h = grind arith

sum_not : (p : Bool) → cond {A = ℕ} (not p) 1 0 + cond p 1 0 ≡ 1
sum_not p = grind arith

pub free_count : (n care target : ℕ) → IsLong n care target → count (is_free care target) n + count_lines care + 1 ≡ n
free_count n care target long =
    let touched : ℕ → Bool = λ x. has care x || eqb x target in
    let s : count (has care) n + count (λ x. eqb x target) n ≡ count touched n =
    count_sum (has care) (λ x. eqb x target) touched n (λ x lt. sum_or (has care x) (eqb x target) (λ on. ne_eqb x target (λ e. false≢true (sym long.free ∙ sym (ap (has care) e) ∙ on)))) in
    let f : count (is_free care target) n + count touched n ≡ count (λ x. true) n = count_sum (is_free care target) touched (λ x. true) n (λ x lt. sum_not (touched x)) in
    omega (arith, count_one target n long.aimed, count_all n, count_lines-within care n long.few long.within)

pub count_lines-below : (care line : ℕ) → line ≤ 64 → count_lines (below care line) ≡ count (has care) line
count_lines-below care line few = count_upto (has care) (has (below care line)) 64 line few (λ x lt. has_below care line x lt) (λ x ge lt. not_below care line x ge)

sum_cut : (care line x : ℕ) → cond {A = ℕ} (has (below care line) x) 1 0 + cond (has (from care line) x) 1 0 ≡ cond (has care x) 1 0
sum_cut care line x = grind (arith, cases_lt, has_below, not_from, not_below, has_from)

pub size_from : (care line helper : ℕ) → helper < 64 → has care helper ≡ false
    → count_lines (below care line) + count_lines (bit_or (from care line) (2 ^ helper)) ≡ count_lines care + 1
size_from care line helper lt free =
    let second : ℕ = bit_or (from care line) (2 ^ helper) in
    let s : count_lines (below care line) + count_lines (from care line) ≡ count_lines care = count_sum (has (below care line)) (has (from care line)) (has care) 64 (λ x l. sum_cut care line x) in
    let off : (x : ℕ) → has (from care line) x ≡ true → eqb x helper ≡ false = λ x on. ne_eqb x helper (λ e. false≢true (sym free ∙ sym (ap (has care) e) ∙ from_part care line x on)) in
    let t : count_lines (from care line) + count (λ x. eqb x helper) 64 ≡ count_lines second =
    count_sum (has (from care line)) (λ x. eqb x helper) (has second) 64 (λ x l. sum_or (has (from care line) x) (eqb x helper) (off x) ∙ ap (λ b. cond {A = ℕ} b 1 0) (sym (has-with_line (from care line) helper x))) in
    omega (arith, count_one helper 64 lt)

-- ---- by halves

pub holds_cut : (care want line : ℕ) (word : List Bool)
    → holds care want word ≡ (holds (below care line) (below want line) word && holds (from care line) (from want line) word)
holds_cut care want line word =
    let lo = holds_Decides (below care line) (below want line) word in
    let hi = holds_Decides (from care line) (from want line) word in
    same_from_decides {P = Hold care want word} _ _
    (holds_Decides care want word) (
      λ ones i lt on.
          let parts = and_parts _ _ ones in
          elim (cases_lt i line) [
            | inl l ↦ lo.0 parts.0 i lt (has_below care line i l ∙ on) ∙ has_below want line i l
            | inr g ↦ hi.0 parts.1 i lt (has_from care line i g ∙ on) ∙ has_from want line i g
          ],
      λ hold. and_from _ _
          (lo.1 (λ i lt on. hold i lt (below_part care line i on) ∙ sym (same_low i on)))
          (hi.1 (λ i lt on. hold i lt (from_part care line i on) ∙ sym (same_high i on))),
    )
  where
    same_low : (i : ℕ) → has (below care line) i ≡ true → has (below want line) i ≡ has want i
    same_low i on = elim (cases_lt i line) [ inl l ↦ has_below want line i l | inr g ↦ absurd (false≢true (sym (not_below care line i g) ∙ on)) ]

    same_high : (i : ℕ) → has (from care line) i ≡ true → has (from want line) i ≡ has want i
    same_high i on = elim (cases_lt i line) [ inl l ↦ absurd (false≢true (sym (not_from care line i l) ∙ on)) | inr g ↦ has_from want line i g ]

pub holds_with : (care want b : ℕ) (word : List Bool) → b < length word → has care b ≡ false
    → holds (bit_or care (2 ^ b)) (bit_or want (2 ^ b)) word ≡ (holds care want word && bit_of word b)
holds_with care want b word lt free = grind (arith, holds_Decides, bit_or, same_from_decides, and_parts, cases_eq, bit_of, with_same, with_other, and_from)

flip_by : (care want t : ℕ) (word : List Bool) (h : Bool) → holds care want word ≡ h → act (Flip care want t) word ≡ put word t h
flip_by care want t word h is = flip_if _ word t ∙ ap (put word t) is

twice_round : (x y p : Bool) → xor (y && p) (y && xor x p) ≡ (x && y)
twice_round x y p = grind arith

-- four flips with one helper are the flip under both parts
pub four : (c1 w1 c2 w2 b t : ℕ) (word : List Bool) → b < length word → t < length word → b ≢ t
    → has c1 b ≡ false → has c1 t ≡ false → has c2 b ≡ false → has c2 t ≡ false
    → act (Flip (bit_or c2 (2 ^ b)) (bit_or w2 (2 ^ b)) t) (act (Flip c1 w1 b) (act (Flip (bit_or c2 (2 ^ b)) (bit_or w2 (2 ^ b)) t) (act (Flip c1 w1 b) word)))
    ≡ put word t (holds c1 w1 word && holds c2 w2 word)
four c1 w1 c2 w2 b t word lb lt bt o1b o1t o2b o2t =
    let A : Shape = Flip c1 w1 b in
    let B : Shape = Flip (bit_or c2 (2 ^ b)) (bit_or w2 (2 ^ b)) t in
    let x : Bool = holds c1 w1 word in
    let y : Bool = holds c2 w2 word in
    let p : Bool = bit_of word b in
    let k : Bool = y && xor x p in
    let v : List Bool = put word b x in
    let lv : length v ≡ length word = length-set word b _ in
    let lk : length (put word t k) ≡ length word = length-set word t _ in
    let b1 : act B v ≡ put v t k =
    flip_by _ _ t v k (holds_with c2 w2 b v (omega arith) o2b ∙ ap₂ (λ (m n : Bool). m && n) (holds-set c2 w2 b word _ o2b) (get_or-set_same word b _ false lb)) in
    let a2 : act A (put v t k) ≡ put word t k =
    flip_by c1 w1 b (put v t k) x (holds-set c1 w1 t v _ o1t ∙ holds-set c1 w1 b word _ o1b) ∙ put_comm v t b k x (λ e. bt (sym e)) ∙ ap (λ w. put w t k) (put_twice word b x lb) in
    let b2 : act B (put word t k) ≡ put (put word t k) t (y && p) =
    flip_by _ _ t (put word t k) (y && p)
    (holds_with c2 w2 b (put word t k) (omega arith) o2b ∙ ap₂ (λ (m n : Bool). m && n) (holds-set c2 w2 t word _ o2t) (get_or-set_other word t b _ false bt)) in
    ap (λ w. act B (act A (act B w))) (flip_by c1 w1 b word x refl)
    ∙ ap (λ w. act B (act A w)) b1
    ∙ ap (act B) a2
    ∙ b2
    ∙ put_put word t k (y && p) lt
    ∙ ap (put word t) (twice_round x y p)

in_some : (x : ℕ) (xs : List ℕ) → In x xs → 1 ≤ length xs
in_some x [] i = absurd i
in_some x (y ∷ xs) i = omega arith

pub count_some : (p : ℕ → Bool) (n x : ℕ) → x < n → p x ≡ true → 1 ≤ count p n
count_some p n x h on = omega (arith, length-rising p n, in_some x (rising p n) (rising_in p n x h on))

pub cut_of : (n care target helper : ℕ) → IsLong n care target → 3 ≤ count_lines care → helper < n → is_free care target helper ≡ true
    → IsCut n care target (middle care) helper
cut_of n care target helper long many lt free =
    let parts = free_parts care target helper free in
    let line : ℕ = middle care in
    let k = count_rising (has care) 64 ((count_lines care + 1) / 2) (omega arith) in
    let below64 : line < 64 = k.1 in
    let f : count (is_free care target) n + count_lines care + 1 ≡ n = free_count n care target long in
    let some : 1 ≤ count (is_free care target) n = count_some (is_free care target) n helper lt free in
    let half : count_lines (below care line) ≡ (count_lines care + 1) / 2 = count_lines-below care line (omega arith) ∙ k.0 in
    let few : n ≤ 64 = long.few in
    let both : count_lines (below care line) + count_lines (bit_or (from care line) (2 ^ helper)) ≡ count_lines care + 1 = size_from care line helper (omega arith) parts.0 in
    let first : IsLong n (below care line) helper = record {
      few = long.few;
      within = λ i on. long.within i (below_part care line i on);
      aimed = lt;
      free = off_from (below care line) care helper parts.0 (below_part care line helper);
    } in
    let second : IsLong n (bit_or (from care line) (2 ^ helper)) target = record {
      few = long.few;
      within = λ i on. elim (or_cases (has (from care line) i) (eqb i helper) (sym (has-with_line (from care line) helper i) ∙ on)) [
        | inl mine ↦ long.within i (from_part care line i mine)
        | inr at ↦ let e : i ≡ helper = eqb-true i helper at in omega arith
      ];
      aimed = long.aimed;
      free = with_other (from care line) helper target (λ e. parts.1 (sym e)) ∙ off_from (from care line) care target long.free (from_part care line target);
    } in
    record {
      first = first;
      second = second;
      half = half;
      other = omega arith;
      enough_first = omega (arith, free_count n (below care line) helper first);
      enough_second = omega (arith, free_count n (bit_or (from care line) (2 ^ helper)) target second);
    }

run_halves : (n care want target line helper : ℕ) (word : List Bool) → IsCut n care target line helper → 3 ≤ count_lines care → length word ≡ n
    → run (halves n care want target line helper) word
    ≡ act (Flip (bit_or (from care line) (2 ^ helper)) (bit_or (from want line) (2 ^ helper)) target) (act (Flip (below care line) (below want line) helper) word)
run_halves n care want target line helper word c many len = grind (arith, common_steps, count_lines, bit_or, run-append, borrowed_ladder, run_borrowed_ladder, length-act)

pub run_split : (n care want target helper : ℕ) (word : List Bool) → IsLong n care target → 3 ≤ count_lines care → helper < n → is_free care target helper ≡ true → length word ≡ n
    → run (split n care want target helper) word ≡ act (Flip care want target) word
unfolding split
run_split n care want target helper word long many lt free len = grind (arith, common_steps, cut_of, free_parts, run-append, run_halves, length-run, bit_or, four, off_from, below_part, from_part, holds_cut, flip_if)

pub middle_at : (care want k : ℕ) (cs : List Control) (d : Control) → cs ≡ controls_of care want → 3 ≤ count_lines care → k ≡ length cs → (get_or cs ((k + 1) / 2) d).line ≡ middle care
middle_at care want k cs d e many l = grind (arith, count_lines, length-controls_of, line_at, length-rising)

pub middle_below : (care : ℕ) → 3 ≤ count_lines care → middle care < 64
middle_below care many = (count_rising (has care) 64 ((count_lines care + 1) / 2) (omega arith)).1
