-- Lists of lines, the controls of a flip, and long flips through helpers.
use Rattle.std.proofs.lemmas.Grind.{common_steps}
use Rattle.std.proofs.Common.{◌≡◌, ◌≢◌, ℕ, zero, suc, ◌+◌, ◌-◌, ◌<◌, ◌≤◌, Bool, true, false, cond, ◌&&◌, List, [], ◌∷◌, ◌++◌, length, map, take, drop, get_or, reverse, refl, sym, ◌∙◌, ap, inl, inr, arith, length-append}
use Rattle.std.specs.Prelude.{◌⊎◌}
use Rattle.std.proofs.lemmas.Bool.{cases_Bool, false≢true, and_from}
use Rattle.std.proofs.lemmas.Bool.Decides.{same_from_decides}
use Rattle.std.proofs.lemmas.List.FromFn.{length-range_with_len}
use Rattle.std.proofs.lemmas.List.{reverse-append, length-reverse, length-take-le, length-map, length-drop}
use Rattle.std.proofs.Math.Seq.{take-length}
use Rattle.rv_gate.specs.Word.{has, bit_of}
use Rattle.rv_gate.specs.Gate.{holds, act, run, Within}
use Rattle.rv_gate.specs.declared.gate.Shape.TheVariants.{Flip}
use Rattle.rv_gate.proofs.inside.GateLemmas.{Hold, holds_Decides, flip_if}
use Rattle.rv_mct.specs.declared.control.Control.{Control}
use Rattle.rv_mct.specs.Blocks.{rising, count, is_free, control, controls_of, count_lines, clean_ladder, borrowed_ladder_over, borrowed_ladder, down_up_twice, ladder}
use Rattle.std.specs.List.{range_with_len}
use Rattle.rv_mct.specs.inside.Long.{IsLong}
use Rattle.rv_gate.specs.Every.{Every}
use Rattle.rv_mct.specs.inside.LadderLines.{In, Distinct, IsOn, IsOff, AreDivided, BorrowedDivided, CleanDivided, no_control}
use Rattle.rv_mct.proofs.Rising.{rising_zero, rising-suc, count_zero, count-suc}
use Rattle.rv_mct.proofs.inside.Ladders.{Apart, met, met_all, met_down, put, run_ladder, run_down_up_twice}
use Rattle.rv_gate.proofs.Bits.{same_true, same_from, and_comm, and_assoc}
use Rattle.rv_gate.proofs.Lists.{take_same}
use Rattle.rv_gate.proofs.Every.{every_reverse, reverse-cons}

-- ---- lists of lines

in_append : (x : ℕ) (xs ys : List ℕ) → In x (xs ++ ys) → In x xs ⊎ In x ys
in_append x [] ys i = inr i
in_append x (y ∷ xs) ys i = let hyp = in_append x xs ys in grind (arith, hyp)

in_left : (x : ℕ) (xs ys : List ℕ) → In x xs → In x (xs ++ ys)
in_left x [] ys i = absurd i
in_left x (y ∷ xs) ys i = elim i [ inl at ↦ inl at | inr later ↦ inr (in_left x xs ys later) ]

in_right : (x : ℕ) (xs ys : List ℕ) → In x ys → In x (xs ++ ys)
in_right x [] ys i = i
in_right x (y ∷ xs) ys i = inr (in_right x xs ys i)

in_last : (x n : ℕ) (b : Bool) → In x (cond b (n ∷ []) []) → (x ≡ n) × (b ≡ true)
in_last x n true i = elim i [ inl at ↦ (at, refl) | inr later ↦ absurd later ]
in_last x n false i = absurd i

last_in : (n : ℕ) (b : Bool) → b ≡ true → In n (cond b (n ∷ []) [])
last_in n true h = inl refl
last_in n false h = absurd (false≢true h)

pub in_rising : (p : ℕ → Bool) (n x : ℕ) → In x (rising p n) → (x < n) × (p x ≡ true)
in_rising p zero x i = absurd (rw (rising_zero p) at i)
in_rising p (suc n) x i =
    elim (in_append x (rising p n) _ (rw (rising-suc p n) at i)) [
      | inl before ↦ let r = in_rising p n x before in (omega (arith, r.0), r.1)
      | inr last ↦ let r = in_last x n (p n) last in (omega (arith, r.0), ap p r.0 ∙ r.1)
    ]

pub rising_in : (p : ℕ → Bool) (n x : ℕ) → x < n → p x ≡ true → In x (rising p n)
rising_in p zero x lt on = absurd (omega arith)
rising_in p (suc n) x lt on = let hyp = rising_in p n x in grind (arith, hyp, rising-suc, in_right, last_in, in_left)

length-last : (n : ℕ) (b : Bool) → length (cond b (n ∷ []) []) ≡ cond b 1 0
length-last n true = refl
length-last n false = refl

pub length-rising : (p : ℕ → Bool) (n : ℕ) → length (rising p n) ≡ count p n
length-rising p zero = ap length (rising_zero p) ∙ sym (count_zero p)
length-rising p (suc n) = let hyp = length-rising p n in grind (arith, hyp, rising-suc, length-append, length-last, count-suc)

distinct_append : (xs ys : List ℕ) → Distinct xs → Distinct ys → ((x : ℕ) → In x xs → Apart x ys) → Distinct (xs ++ ys)
distinct_append [] ys dx dy apart = dy
distinct_append (x ∷ xs) ys dx dy apart = (
  λ y i. elim (in_append y xs ys i) [ inl before ↦ dx.0 y before | inr later ↦ apart x (inl refl) y later ],
  distinct_append xs ys dx.1 dy (λ z i. apart z (inr i)),
)

distinct_last : (n : ℕ) (b : Bool) → Distinct (cond b (n ∷ []) [])
distinct_last n true = (λ y i. absurd i, tt)
distinct_last n false = tt

pub distinct_rising : (p : ℕ → Bool) (n : ℕ) → Distinct (rising p n)
distinct_rising p zero = rw (rising_zero p) tt
distinct_rising p (suc n) =
    rw (rising-suc p n) (distinct_append (rising p n) _ (distinct_rising p n) (distinct_last n (p n))
    (λ x i y j e. let a = in_rising p n x i in let b = in_last y n (p n) j in let lt : x < n = a.0 in let at : y ≡ n = b.0 in omega arith))

in_take : (k x : ℕ) (xs : List ℕ) → In x (take k xs) → In x xs
in_take zero x xs i = absurd i
in_take (suc k) x [] i = absurd i
in_take (suc k) x (y ∷ xs) i = elim i [ inl at ↦ inl at | inr later ↦ inr (in_take k x xs later) ]

distinct_take : (k : ℕ) (xs : List ℕ) → Distinct xs → Distinct (take k xs)
distinct_take zero xs d = tt
distinct_take (suc k) [] d = tt
distinct_take (suc k) (x ∷ xs) d = (λ y i. d.0 y (in_take k y xs i), distinct_take k xs d.1)

in_reverse : (x : ℕ) (xs : List ℕ) → In x (reverse xs) → In x xs
in_reverse x [] i = i
in_reverse x (y ∷ xs) i =
    elim (in_append x (reverse xs) (y ∷ []) (rw (reverse-cons y xs) at i)) [
      | inl before ↦ inr (in_reverse x xs before)
      | inr last ↦ (elim last [ inl at ↦ inl at | inr none ↦ absurd none ])
    ]

distinct_reverse : (xs : List ℕ) → Distinct xs → Distinct (reverse xs)
distinct_reverse [] d = d
distinct_reverse (x ∷ xs) d =
    rw (reverse-cons x xs)
    (distinct_append (reverse xs) (x ∷ []) (distinct_reverse xs d.1) (λ y i. absurd i, tt)
    (λ z i y j e. elim j [ inl at ↦ d.0 z (in_reverse z xs i) (sym e ∙ at) | inr none ↦ absurd none ]))

pub every_from : (P : ℕ → Type 0) (xs : List ℕ) → ((x : ℕ) → In x xs → P x) → Every P xs
every_from P [] h = tt
every_from P (x ∷ xs) h = (h x (inl refl), every_from P xs (λ y i. h y (inr i)))

pub every_controls : (n : ℕ) (on : ℕ → Bool) (want : ℕ) (xs : List ℕ) → ((x : ℕ) → In x xs → (x < n) × (on x ≡ true)) → Every (IsOn n on) (map (control want) xs)
every_controls n on want [] h = tt
every_controls n on want (x ∷ xs) h = (h x (inl refl), every_controls n on want xs (λ y i. h y (inr i)))

-- ---- controls

met_all_append : (xs ys : List Control) (word : List Bool) → met_all (xs ++ ys) word ≡ (met_all xs word && met_all ys word)
met_all_append [] ys word = refl
met_all_append (c ∷ xs) ys word = ap (λ z. met c word && z) (met_all_append xs ys word) ∙ sym (and_assoc (met c word) (met_all xs word) (met_all ys word))

met_all_reverse : (xs : List Control) (word : List Bool) → met_all (reverse xs) word ≡ met_all xs word
met_all_reverse [] word = refl
met_all_reverse (c ∷ xs) word = let rest = met_all_reverse xs word in grind (arith, rest, reverse-cons, met_all_append, and_comm)

met_down_all : (a b : Control) (more : List Control) (word : List Bool) → met_down a b more word ≡ (met_all more word && (met a word && met b word))
met_down_all a b [] word = refl
met_down_all a b (c ∷ more) word =
    ap (λ z. met c word && z) (met_down_all a b more word) ∙ sym (and_assoc (met c word) (met_all more word) (met a word && met b word))

pub met_down_reverse : (a b : Control) (more : List Control) (word : List Bool) → met_down a b (reverse more) word ≡ met_all (a ∷ (b ∷ more)) word
met_down_reverse a b more word = grind (arith, met_down_all, met_all_reverse, and_comm, met_all, and_assoc)

met_each : (want : ℕ) (xs : List ℕ) (word : List Bool) → met_all (map (control want) xs) word ≡ true → (x : ℕ) → In x xs → bit_of word x ≡ has want x
met_each want [] word h x i = absurd i
met_each want (y ∷ xs) word h x i = let hyp = met_each want xs word in grind (arith, hyp, same_true)

each_met : (want : ℕ) (xs : List ℕ) (word : List Bool) → ((x : ℕ) → In x xs → bit_of word x ≡ has want x) → met_all (map (control want) xs) word ≡ true
each_met want [] word h = refl
each_met want (y ∷ xs) word h = and_from _ _ (same_from _ _ (h y (inl refl))) (each_met want xs word (λ x i. h x (inr i)))

-- the controls of a flip hold where each of the list does
pub holds_controls : (care want n : ℕ) (word : List Bool) → length word ≡ n → n ≤ 64 → Within care n → holds care want word ≡ met_all (controls_of care want) word
holds_controls care want n word len few within =
    let xs : List ℕ = rising (has care) 64 in
    same_from_decides {P = Hold care want word} _ _
    (holds_Decides care want word) (
      λ ones line lt on. met_each want xs word ones line (rising_in (has care) 64 line (omega arith) on),
      λ hold. each_met want xs word (λ x i. let r = in_rising (has care) 64 x i in let lt : x < n = within x r.1 in hold x (omega arith) r.1),
    )

pub act_put : (care want target n : ℕ) (word : List Bool) → length word ≡ n → n ≤ 64 → Within care n
    → act (Flip care want target) word ≡ put word target (met_all (controls_of care want) word)
act_put care want target n word len few within =
    flip_if (holds care want word) word target ∙ ap (put word target) (holds_controls care want n word len few within)

-- ---- through lines that hold anything

pub length-controls_of : (care want : ℕ) → length (controls_of care want) ≡ count_lines care
length-controls_of care want = length-map (rising (has care) 64) (control want) ∙ length-rising (has care) 64

part_two : (a b : Control) (more : List Control) → take (length (a ∷ (b ∷ more)) - 2) more ≡ more
part_two a b more = let e : suc (suc (length more)) - 2 ≡ length more = omega arith in ap (λ k. take k more) e ∙ take-length more

pub free_parts : (care target x : ℕ) → is_free care target x ≡ true → (has care x ≡ false) × (x ≢ target)
free_parts care target x h = grind arith

-- the controls after the first two and the helpers may come in any order; here they are turned round
turned : (n : ℕ) (a b : Control) (more : List Control) (free : List ℕ) (target : ℕ) → AreDivided n a b more free target → AreDivided n a b (reverse more) (reverse free) target
turned n a b more free target (on, r) = (
  on,
  record {
    first = r.first;
    second = r.second;
    apart = r.apart;
    more = every_reverse (IsOn n on) more r.more;
    spots = (r.spots.0, every_reverse (IsOff n on) free r.spots.1);
    distinct = (λ z i. r.distinct.0 z (in_reverse z free i), distinct_reverse free r.distinct.1);
  },
)

-- lines of which `on` is true, and a target and helpers of which it is not
divided_list : (n : ℕ) (on : ℕ → Bool) (want target : ℕ) (xs free : List ℕ) → Distinct xs → ((z : ℕ) → In z xs → (z < n) × (on z ≡ true)) → IsOff n on target
    → ((z : ℕ) → In z free → IsOff n on z × (z ≢ target)) → Distinct free → 2 ≤ length xs → (cs : List Control) → cs ≡ map (control want) xs
    → AreDivided n (get_or cs 0 no_control) (get_or cs 1 no_control) (take (length cs - 2) (drop 2 cs)) free target
divided_list n on want target [] free dx ons off frees df some cs is = absurd (omega arith)
divided_list n on want target (x ∷ []) free dx ons off frees df some cs is = absurd (omega arith)
divided_list n on want target (x ∷ (y ∷ rest)) free dx ons off frees df some cs is =
    rw (is, part_two (control want x) (control want y) (map (control want) rest)) (
      on,
      record {
        first = ons x (inl refl);
        second = ons y (inr (inl refl));
        apart = λ e. dx.0 y (inl refl) (sym e);
        more = every_controls n on want rest (λ z i. ons z (inr (inr i)));
        spots = (off, every_from (IsOff n on) free (λ z i. (frees z i).0));
        distinct = (λ z i. (frees z i).1, df);
      },
    )

-- as many of the free lines as there are controls but two
pub borrowed_divided : (n care want target : ℕ) (cs : List Control) (free : List ℕ) → IsLong n care target → 2 ≤ count_lines care → cs ≡ controls_of care want
    → free ≡ take (length cs - 2) (rising (is_free care target) n) → BorrowedDivided n cs free target
borrowed_divided n care want target cs free long some e f =
    let all : List ℕ = rising (is_free care target) n in
    let k : ℕ = length cs - 2 in
    let frees : (z : ℕ) → In z (take k all) → IsOff n (has care) z × (z ≢ target) = λ z i.
    let r = in_rising (is_free care target) n z (in_take k z all i) in let p = free_parts care target z r.1 in ((r.0, p.0), p.1) in
    rw (f, take_same k all)
    (turned n _ _ _ (take k all) target
    (divided_list n (has care) want target (rising (has care) 64) (take k all) (distinct_rising (has care) 64)
    (λ z i. let on = (in_rising (has care) 64 z i).1 in (long.within z on, on)) (long.aimed, long.free) frees (distinct_take k all (distinct_rising (is_free care target) n))
    (omega (arith, length-rising (has care) 64)) cs e))

over_taken : (cs : List Control) (free : List ℕ) (t : ℕ) → borrowed_ladder_over cs (take (length cs - 2) free) t ≡ borrowed_ladder_over cs free t
over_taken cs free t = grind (arith, down_up_twice, take_same)

run_over : (n : ℕ) (cs : List Control) (free : List ℕ) (target : ℕ) (word : List Bool) → BorrowedDivided n cs free target → 2 ≤ length cs → length cs ≤ length free + 2
    → length word ≡ n → run (borrowed_ladder_over cs free target) word ≡ put word target (met_all cs word)
run_over n [] free target word divided some enough len = absurd (omega arith)
run_over n (a ∷ []) free target word divided some enough len = absurd (omega arith)
run_over n (a ∷ (b ∷ more)) free target word divided some enough len =
    let k : suc (suc (length more)) - 2 ≡ length more = omega arith in
    let hs : List ℕ = take (length more) free in
    let lh : length hs ≡ length more = length-take-le (length more) free (omega arith) in
    let d : AreDivided n a b (reverse more) (reverse hs) target = rw (part_two a b more, k) at divided in
    run_down_up_twice n d.0 a b (reverse more) (reverse hs) target word d.1 len (length-reverse more ∙ sym lh ∙ sym (length-reverse hs))
    ∙ ap (put word target) (met_down_reverse a b more word)

pub run_borrowed_ladder : (n care want target : ℕ) (word : List Bool) → IsLong n care target → 2 ≤ count_lines care → count_lines care ≤ count (is_free care target) n + 2 → length word ≡ n
    → run (borrowed_ladder n care want target) word ≡ act (Flip care want target) word
unfolding borrowed_ladder
run_borrowed_ladder n care want target word long some enough len =
    let cs : List Control = controls_of care want in
    let all : List ℕ = rising (is_free care target) n in
    let l1 : length cs ≡ count_lines care = length-controls_of care want in
    let l2 = length-rising (is_free care target) n in
    let l3 = length-take-le (length cs - 2) all (omega arith) in
    ap (λ gates. run gates word) (sym (over_taken cs all target))
    ∙ run_over n cs (take (length cs - 2) all) target word (borrowed_divided n care want target cs _ long some refl refl) (omega arith) (omega arith) len
    ∙ sym (act_put care want target n word len long.few long.within)

-- ---- through added lines that hold 0

pub in_range : (first k x : ℕ) → In x (range_with_len first k) → (first ≤ x) × (x < first + k)
in_range first zero x i = absurd i
in_range first (suc k) x i = let hyp = in_range (first + 1) k x in grind (arith, hyp)

pub distinct_range : (first k : ℕ) → Distinct (range_with_len first k)
distinct_range first zero = tt
distinct_range first (suc k) = (λ y i e. let r = in_range (first + 1) k y i in let lo : first + 1 ≤ y = r.0 in omega arith, distinct_range (first + 1) k)

pub not_within : (care n z : ℕ) → Within care n → n ≤ z → has care z ≡ false
not_within care n z within lo = elim (cases_Bool (has care z)) [ inl on ↦ (let l : z < n = within z on in absurd (omega arith)) | inr off ↦ off ]

pub clean_divided : (n extra care want target : ℕ) (cs : List Control) → Within care n → target < n → has care target ≡ false → 2 ≤ count_lines care → count_lines care ≤ extra + 2
    → cs ≡ controls_of care want → CleanDivided (n + extra) cs n target
clean_divided n extra care want target cs within lt free some enough e =
    let l1 : length cs ≡ count_lines care = ap length e ∙ length-controls_of care want in
    let m : ℕ = length (take (length cs - 2) (drop 2 cs)) in
    let l2 : m ≡ length cs - 2 = length-take-le (length cs - 2) (drop 2 cs) (omega (arith, length-drop 2 cs)) in
    let frees : (z : ℕ) → In z (range_with_len n m) → IsOff (n + extra) (has care) z × (z ≢ target) = λ z i.
    let r = in_range n m z i in let lo : n ≤ z = r.0 in ((omega (arith, r.1), not_within care n z within lo), λ e. omega arith) in
    divided_list (n + extra) (has care) want target (rising (has care) 64) (range_with_len n m) (distinct_rising (has care) 64)
    (λ z i. let on = (in_rising (has care) 64 z i).1 in let l : z < n = within z on in (omega arith, on)) (omega arith, free) frees (distinct_range n m)
    (omega (arith, length-rising (has care) 64)) cs e

run_clean : (n : ℕ) (cs : List Control) (first target : ℕ) (word : List Bool) → CleanDivided n cs first target → 2 ≤ length cs → ((z : ℕ) → first ≤ z → bit_of word z ≡ false)
    → length word ≡ n → run (clean_ladder cs first target) word ≡ put word target (met_all cs word)
run_clean n [] first target word divided some zeros len = absurd (omega arith)
run_clean n (a ∷ []) first target word divided some zeros len = absurd (omega arith)
run_clean n (a ∷ (b ∷ more)) first target word divided some zeros len =
    let hs : List ℕ = range_with_len first (length more) in
    let d : AreDivided n a b more hs target = rw (part_two a b more) at divided in
    run_ladder n d.0 a b more hs target word d.1 len (sym (length-range_with_len first (length more)))
    (every_from (λ h. bit_of word h ≡ false) hs (λ z i. zeros z (in_range first (length more) z i).0))

pub run_clean_ladder : (n extra care want target : ℕ) (word : List Bool) → n + extra ≤ 64 → Within care n → target < n → has care target ≡ false → 2 ≤ count_lines care
    → count_lines care ≤ extra + 2 → length word ≡ n + extra → ((z : ℕ) → n ≤ z → bit_of word z ≡ false)
    → run (clean_ladder (controls_of care want) n target) word ≡ act (Flip care want target) word
run_clean_ladder n extra care want target word few within lt free some enough len zeros =
    run_clean (n + extra) (controls_of care want) n target word (clean_divided n extra care want target _ within lt free some enough refl)
    (omega (arith, length-controls_of care want)) zeros len
    ∙ sym (act_put care want target (n + extra) word len few (λ z on. let l : z < n = within z on in omega arith))

-- ---- the parts of the lists, as they are taken

pub over_parts : (cs : List Control) (free : List ℕ) (t : ℕ) (d : Control) → 2 ≤ length cs
    → down_up_twice (get_or cs 0 d) (get_or cs 1 d) (reverse (take (length cs - 2) (drop 2 cs))) (reverse (take (length cs - 2) free)) t ≡ borrowed_ladder_over cs free t
over_parts cs free t d h = grind (arith, common_steps, down_up_twice, part_two)

pub clean_ladder_parts : (cs : List Control) (first t : ℕ) (d : Control) → 2 ≤ length cs
    → ladder (get_or cs 0 d) (get_or cs 1 d) (take (length cs - 2) (drop 2 cs)) (range_with_len first (length (take (length cs - 2) (drop 2 cs)))) t ≡ clean_ladder cs first t
clean_ladder_parts cs first t d h = grind (arith, common_steps, range_with_len, part_two)

pub borrowed_ladder_from : (n care want target : ℕ) (cs : List Control) (free : List ℕ) → cs ≡ controls_of care want
    → free ≡ take (length cs - 2) (rising (is_free care target) n) → borrowed_ladder_over cs free target ≡ borrowed_ladder n care want target
unfolding borrowed_ladder
borrowed_ladder_from n care want target cs free e f =
    rw f (over_taken cs (rising (is_free care target) n) target) ∙ ap (λ l. borrowed_ladder_over l (rising (is_free care target) n) target) e

pub length_parts : (cs : List Control) (free : List ℕ) → 2 ≤ length cs → length cs ≤ length free + 2 → length (take (length cs - 2) (drop 2 cs)) ≡ length (take (length cs - 2) free)
length_parts cs free h h1 = grind (arith, part_two, length-take-le)

pub line_at : (want : ℕ) (xs : List ℕ) (k : ℕ) (d : Control) → k < length xs → (get_or (map (control want) xs) k d).line ≡ get_or xs k 0
line_at want [] k d h = absurd (omega arith)
line_at want (x ∷ xs) zero d h = refl
line_at want (x ∷ xs) (suc k) d h = line_at want xs k d (omega arith)
