-- What the answers of a check mean.
use Rattle.std.proofs.Common.{◌≡◌, ◌≢◌, ℕ, zero, suc, ◌+◌, ◌^◌, ◌<◌, ◌≤◌, Bool, true, false, cond, ◌&&◌, List, [], ◌∷◌, map, length, take, refl, sym, ap, ◌∙◌, arith, ◌⊎◌, ◌↔◌, subst}
use Rattle.std.proofs.lemmas.Bool.{cases_eq, false≢true, false_from_ne_true, eq-eqb, eqb-true, ne_eqb, lt-ltb, le-ltb, ltb-true, ltb-false}
use Rattle.std.proofs.lemmas.List.Folds.{list_all-append, list_all-map}
use Rattle.std.proofs.lemmas.Option.{none-some, same_Some, cond_some}
use Rattle.std.specs.List.{list_all, list_any}
use Rattle.std.specs.Prelude.{Option, None, Some, Result, Ok, Err, MatchResult, option_map}
use Rattle.rv_gate.proofs.FirstAnswer.{none_at, none_first}
use Rattle.rv_gate.specs.Circuit.{Cascade}
use Rattle.rv_gate.specs.FirstAnswer.{first}
use Rattle.rv_gate.specs.Gate.{run}
use Rattle.rv_gate.specs.Word.{number_of, word_of}
use Rattle.rv_gate.specs.declared.gate.Shape.{Shape}
use Rattle.rv_gate.specs.inside.laws.WordLaws.{length-word_of, number_of-lt, word_of-number_of}
use Rattle.rv_net.specs.Amplitude.{amplitude}
use Rattle.rv_net.specs.Denotes.{Denotes, amplitude_of_map}
use Rattle.rv_net.specs.Op.{Network}
use Rattle.rv_net.specs.declared.op.Op.{Op}
use Rattle.rv_check.specs.Check.{agrees, are_same, check_of, compared, difference_at, first_difference, first_large, large_at}
use Rattle.rv_check.specs.Laws.{Breaks, IsExact, IsLarge, IsLeastBreak, IsLeastLarge, NoneLarge, OnSameLines}
use Rattle.rv_check.specs.Reduced.{first_large_place, is_large, large_after, reduced_vector, words}
use Rattle.rv_check.specs.declared.checking.CheckFault.{CheckFault}
use Rattle.rv_check.specs.declared.checking.CheckFault.TheVariants.{CircuitLines, NetLines, TooLarge, Mem}
use Rattle.rv_check.specs.declared.checking.TheConstants.{MOST_CHECKED_LINES}
use Rattle.rv_check.specs.declared.checking.Verdict.{Verdict}
use Rattle.rv_check.specs.declared.checking.Verdict.TheVariants.{Same, Lines, Differs}
use Rattle.rv_check.proofs.inside.Deciding.{are_same-same}
use Rattle.rv_check.proofs.inside.Places.{first_answer}
use Rattle.rv_check.proofs.inside.Sparse.{Word, same_from}
use Rattle.rv_check.proofs.inside.Vectors.{each_word}
use Rattle.std.proofs.lemmas.Grind.{common_steps}
use Rattle.rv_gate.proofs.Options.{none_true, none_false}

-- ---- the first answer is that of some number, and those before have none

pub record FirstAt (A : Type 0) (f : ℕ → Option A) (k m : ℕ) (a : A) : Type 0 where
  pub number : ℕ
  pub from : k ≤ number
  pub below : number < k + m
  pub answer : f number ≡ Some a
  pub before : (p : ℕ) → k ≤ p → p < number → f p ≡ None

first_some : {A : Type 0} (f : ℕ → Option A) (k m : ℕ) (a : A) → first f k m ≡ Some a → FirstAt A f k m a
unfolding first
first_some f k zero a e = absurd (none-some a e)
first_some {A = A} f k (suc m) a e = let rest = first_some f (k + 1) m a in grind (arith, common_steps, rest, cases_eq)

-- ---- agreement

some_false : (b : Bool) (n w : ℕ) → cond b None (Some n) ≡ Some w → (b ≡ false) × (n ≡ w)
some_false true n w e = absurd (none-some w e)
some_false false n w e = (refl, same_Some n w e)

amplitudes_agree : (ops : List Op) (x image : Word) → agrees ops x image ≡ true → (y : Word) → length y ≡ length x → amplitude ops x y ≡ amplitude_of_map ops image y
unfolding agrees
amplitudes_agree ops x image e y l = same_from (amplitude ops x y) (amplitude_of_map ops image y) (each_word (λ y. are_same (amplitude ops x y) (amplitude_of_map ops image y)) (length x) e y l)

find_word : (f : Word → Bool) (n : ℕ) → list_all f (words n) ≡ false → (y : Word) × (length y ≡ n) × (f y ≡ false)
unfolding words
find_word f zero e = ([], refl, go (f []) e) where
  go : (b : Bool) → (b && true) ≡ false → b ≡ false
  go true e = e
  go false e = refl
find_word f (suc n) e =
    go (list_all f (map (λ v. false ∷ v) (words n))) refl (list_all f (map (λ v. true ∷ v) (words n)))
    (sym (list_all-append f (map (λ v. false ∷ v) (words n)) (map (λ v. true ∷ v) (words n))) ∙ e) refl
    (λ l. find_word (λ v. f (false ∷ v)) n (sym (list_all-map f (λ v. false ∷ v) (words n)) ∙ l))
    (λ r. find_word (λ v. f (true ∷ v)) n (sym (list_all-map f (λ v. true ∷ v) (words n)) ∙ r)) where
      go : (a : Bool) → list_all f (map (λ v. false ∷ v) (words n)) ≡ a → (b : Bool) → (a && b) ≡ false → list_all f (map (λ v. true ∷ v) (words n)) ≡ b
          → (list_all f (map (λ v. false ∷ v) (words n)) ≡ false → (y : Word) × (length y ≡ n) × (f (false ∷ y) ≡ false))
          → (list_all f (map (λ v. true ∷ v) (words n)) ≡ false → (y : Word) × (length y ≡ n) × (f (true ∷ y) ≡ false))
          → (y : Word) × (length y ≡ suc n) × (f y ≡ false)
      go false p b e q left right = let r = left p in (false ∷ r.0, ap suc r.1, r.2)
      go true p b e q left right = let r = right (q ∙ e) in (true ∷ r.0, ap suc r.1, r.2)

amplitudes_differ : (ops : List Op) (x image : Word) → agrees ops x image ≡ false → (y : Word) × (length y ≡ length x) × (amplitude ops x y ≢ amplitude_of_map ops image y)
unfolding agrees
amplitudes_differ ops x image e = grind (arith, find_word, are_same, amplitude_of_map, are_same-same)

pub no_break : (gates : List Shape) (net : Network) (number : ℕ) → difference_at gates net number ≡ None → ¬ Breaks gates net number
no_break gates net number e (y, l, ne) =
    ne (amplitudes_agree net.ops (word_of net.lines number) (run gates (word_of net.lines number)) (none_true _ number e) y (l ∙ sym (length-word_of net.lines number)))

-- a word that breaks nothing agrees, and one that breaks something doesn't
pub agrees_unless : (gates : List Shape) (net : Network) (number : ℕ) → ¬ Breaks gates net number → difference_at gates net number ≡ None
agrees_unless gates net number unbroken = grind (arith, word_of, amplitudes_differ, length-word_of)

differs_where : (gates : List Shape) (net : Network) (number : ℕ) → Breaks gates net number → difference_at gates net number ≡ Some number
differs_where gates net number breaks = grind (arith, word_of, no_break)

pub denotes_from_none : (gates : List Shape) (net : Network) → first_difference gates net ≡ None → Denotes net.lines net.ops (run gates)
unfolding first_difference Denotes
denotes_from_none gates net none x y lx ly =
    let word : word_of net.lines (number_of x) ≡ x = ap (λ n. word_of n (number_of x)) (sym lx) ∙ word_of-number_of x in
    let lt : number_of x < 2 ^ net.lines = subst (λ n. number_of x < 2 ^ n) lx (number_of-lt x) in
    let at = none_at (difference_at gates net) 0 (2 ^ net.lines) (number_of x) none (omega arith) (omega arith) in
    amplitudes_agree net.ops x (run gates x) (subst (λ w. agrees net.ops w (run gates w) ≡ true) word (none_true _ (number_of x) at)) y (ly ∙ sym lx)

pub none_from_denotes : (gates : List Shape) (net : Network) → Denotes net.lines net.ops (run gates) → first_difference gates net ≡ None
unfolding first_difference Denotes
none_from_denotes gates net denotes = grind (arith, none_first, difference_at, agrees_unless, word_of, length-word_of)

least_break : (gates : List Shape) (net : Network) (w : ℕ) → FirstAt ℕ (difference_at gates net) 0 (2 ^ net.lines) w → IsLeastBreak gates net w
least_break gates net w r =
    let s = some_false (agrees net.ops (word_of net.lines r.number) (run gates (word_of net.lines r.number))) r.number w r.answer in
    let d = amplitudes_differ net.ops (word_of net.lines r.number) (run gates (word_of net.lines r.number)) s.0 in
    subst (IsLeastBreak gates net) s.1 (record {
      word = omega (arith, r.below);
      breaks = (d.0, d.1 ∙ length-word_of net.lines r.number, d.2);
      least = λ less lt. no_break gates net less (r.before less (omega arith) lt);
    })

break_from_some : (gates : List Shape) (net : Network) (w : ℕ) → first_difference gates net ≡ Some w → IsLeastBreak gates net w
unfolding first_difference
break_from_some gates net w e = least_break gates net w (first_some (difference_at gates net) 0 (2 ^ net.lines) w e)

some_from_break : (gates : List Shape) (net : Network) (w : ℕ) → IsLeastBreak gates net w → first_difference gates net ≡ Some w
unfolding first_difference
some_from_break gates net w r =
    first_answer (difference_at gates net) 0 (2 ^ net.lines) w w (omega arith) (omega (arith, r.word))
    (λ p g h. agrees_unless gates net p (r.least p h)) (differs_where gates net w r.breaks)

-- ---- a coefficient beyond the limit

not_large : (net : Network) (number place : ℕ) → large_after net.ops (word_of net.lines number) place ≡ None → ¬ IsLarge net number place
not_large net number place e large = false≢true (sym (none_false _ place e) ∙ large)

none_after : (net : Network) (number place : ℕ) → ¬ IsLarge net number place → large_after net.ops (word_of net.lines number) place ≡ None
none_after net number place small = ap (λ b. cond b (Some place) None) (false_from_ne_true _ small)

mapped_some : (number : ℕ) (o : Option ℕ) (fault : CheckFault) → option_map (λ place. TooLarge number place) o ≡ Some fault → (p : ℕ) × (o ≡ Some p) × (TooLarge number p ≡ fault)
mapped_some number None fault e = absurd (none-some fault e)
mapped_some number (Some p) fault e = (p, refl, same_Some (TooLarge number p) fault e)

mapped_none : (number : ℕ) (o : Option ℕ) → option_map (λ place. TooLarge number place) o ≡ None → o ≡ None
mapped_none number None e = refl
mapped_none number (Some p) e = absurd (none-some (TooLarge number p) (sym e))

-- no place of a word leaves a coefficient beyond the limit
no_place : (net : Network) (number : ℕ) → large_at net number ≡ None → (place : ℕ) → place ≤ length net.ops → ¬ IsLarge net number place
unfolding first_large_place
no_place net number e place le =
    not_large net number place (none_at (large_after net.ops (word_of net.lines number)) 0 (length net.ops + 1) place (mapped_none number _ e) (omega arith) (omega arith))

none_at_word : (net : Network) (number : ℕ) → ((place : ℕ) → place ≤ length net.ops → ¬ IsLarge net number place) → large_at net number ≡ None
unfolding first_large_place
none_at_word net number small = grind (arith, option_map, none_first, large_after, word_of, none_after)

none_large_from : (net : Network) → first_large net ≡ None → NoneLarge net
unfolding first_large
none_large_from net e number place lt le = no_place net number (none_at (large_at net) 0 (2 ^ net.lines) number e (omega arith) (omega arith)) place le

none_from_none_large : (net : Network) → NoneLarge net → first_large net ≡ None
unfolding first_large
none_from_none_large net small =
    none_first (large_at net) 0 (2 ^ net.lines) (λ number g h. none_at_word net number (λ place le. small number place (omega arith) le))

pub record LargeTold (net : Network) (fault : CheckFault) : Type 0 where
  pub number : ℕ
  pub place : ℕ
  pub is : TooLarge number place ≡ fault
  pub least : IsLeastLarge net number place

large_told : (net : Network) (fault : CheckFault) → FirstAt CheckFault (large_at net) 0 (2 ^ net.lines) fault → LargeTold net fault
unfolding first_large_place
large_told net fault r =
    let c = mapped_some r.number (first_large_place net.ops (word_of net.lines r.number)) fault r.answer in
    let q = first_some (large_after net.ops (word_of net.lines r.number)) 0 (length net.ops + 1) c.0 c.1 in
    let t = cond_some (list_any is_large (reduced_vector (take q.number net.ops) (word_of net.lines r.number))) q.number c.0 q.answer in
    record {
      number = r.number;
      place = c.0;
      is = c.2;
      least = record {
        word = omega (arith, r.below);
        within = omega (arith, q.below, t.1);
        large = subst (IsLarge net r.number) t.1 t.0;
        least_word = λ less p lt le. no_place net less (r.before less (omega arith) lt) p le;
        least_place = λ less lt. not_large net r.number less (q.before less (omega arith) (omega (arith, t.1)));
      };
    }

large_from_some : (net : Network) (fault : CheckFault) → first_large net ≡ Some fault → LargeTold net fault
unfolding first_large
large_from_some net fault e = large_told net fault (first_some (large_at net) 0 (2 ^ net.lines) fault e)

some_from_large : (net : Network) (w p : ℕ) → IsLeastLarge net w p → first_large net ≡ Some (TooLarge w p)
unfolding first_large first_large_place
some_from_large net w p r =
    first_answer (large_at net) 0 (2 ^ net.lines) w (TooLarge w p) (omega arith) (omega (arith, r.word))
    (λ less g h. none_at_word net less (λ place le. r.least_word less place h le))
    (ap (option_map (λ place. TooLarge w place))
    (first_answer (large_after net.ops (word_of net.lines w)) 0 (length net.ops + 1) p p (omega arith) (omega (arith, r.within))
    (λ less g h. none_after net w less (r.least_place less h))
    (ap (λ b. cond b (Some p) None) r.large)))

-- ---- the answer of the whole

pub circuit_lines : (c : Cascade) (net : Network) → MOST_CHECKED_LINES < length c.names → check_of c net ≡ Err (CircuitLines (length c.names))
unfolding check_of
circuit_lines c net h = rw (lt-ltb MOST_CHECKED_LINES (length c.names) h) refl

pub net_lines : (c : Cascade) (net : Network) → length c.names ≤ MOST_CHECKED_LINES → MOST_CHECKED_LINES < net.lines → check_of c net ≡ Err (NetLines net.lines)
unfolding check_of
net_lines c net g h = rw (le-ltb MOST_CHECKED_LINES (length c.names) g, lt-ltb MOST_CHECKED_LINES net.lines h) refl

pub other_lines : (c : Cascade) (net : Network) → length c.names ≤ MOST_CHECKED_LINES → net.lines ≤ MOST_CHECKED_LINES → length c.names ≢ net.lines → check_of c net ≡ Ok (Lines (length c.names) net.lines)
unfolding check_of
other_lines c net g h ne = rw (le-ltb MOST_CHECKED_LINES (length c.names) g, le-ltb MOST_CHECKED_LINES net.lines h, ne_eqb (length c.names) net.lines ne) refl

pub same_lines : (c : Cascade) (net : Network) → length c.names ≡ net.lines → net.lines ≤ MOST_CHECKED_LINES → check_of c net ≡ compared (first_large net) (first_difference c.gates net)
unfolding check_of
same_lines c net e h = grind arith

-- ---- what each answer tells, and that no other answer could be given

abbrev Answer : Type 0
Answer = Result Verdict CheckFault

abbrev Tells : Cascade → Network → Answer → Type 0
Tells c net (Err (CircuitLines n)) = (length c.names ≡ n) × (MOST_CHECKED_LINES < n)
Tells c net (Err (NetLines n)) = (length c.names ≤ MOST_CHECKED_LINES) × (net.lines ≡ n) × (MOST_CHECKED_LINES < n)
Tells c net (Err (TooLarge w p)) = OnSameLines c net × IsLeastLarge net w p
Tells c net (Err Mem) = ⊥
Tells c net (Ok (Lines n m)) = (length c.names ≡ n) × (net.lines ≡ m) × (n ≤ MOST_CHECKED_LINES) × (m ≤ MOST_CHECKED_LINES) × (n ≢ m)
Tells c net (Ok Same) = OnSameLines c net × NoneLarge net × Denotes net.lines net.ops (run c.gates)
Tells c net (Ok (Differs w)) = OnSameLines c net × NoneLarge net × IsLeastBreak c.gates net w

told_compared : (c : Cascade) (net : Network) → OnSameLines c net → Tells c net (compared (first_large net) (first_difference c.gates net))
told_compared c net on = go (first_large net) refl (first_difference c.gates net) refl where
  go : (o : Option CheckFault) → first_large net ≡ o → (d : Option ℕ) → first_difference c.gates net ≡ d → Tells c net (compared o d)
  go (Some fault) large d e = let r = large_from_some net fault large in subst (λ f. Tells c net (Err f)) r.is (on, r.least)
  go None large None e = (on, none_large_from net large, denotes_from_none c.gates net e)
  go None large (Some w) e = (on, none_large_from net large, break_from_some c.gates net w e)

told : (c : Cascade) (net : Network) → Tells c net (check_of c net)
told c net = grind (arith, common_steps, ltb-true, circuit_lines, ltb-false, net_lines, eqb-true, same_lines, told_compared, eq-eqb, other_lines)

only : (c : Cascade) (net : Network) (answer : Answer) → Tells c net answer → check_of c net ≡ answer
only c net (Err (CircuitLines n)) (is, lt) = circuit_lines c net (omega (arith, is, lt)) ∙ ap (λ k. Err (CircuitLines k)) is
only c net (Err (NetLines n)) (le, is, lt) = net_lines c net le (omega (arith, is, lt)) ∙ ap (λ k. Err (NetLines k)) is
only c net (Err (TooLarge w p)) (on, large) =
    same_lines c net on.0 on.1 ∙ ap (λ o. compared o (first_difference c.gates net)) (some_from_large net w p large)
only c net (Err Mem) none = absurd none
only c net (Ok (Lines n m)) (is, net_is, le, few, ne) =
    other_lines c net (omega (arith, is, le)) (omega (arith, net_is, few)) (λ same. ne (sym is ∙ same ∙ net_is))
    ∙ ap (λ k. Ok (Lines k net.lines)) is ∙ ap (λ k. Ok (Lines n k)) net_is
only c net (Ok Same) (on, small, denotes) =
    same_lines c net on.0 on.1 ∙ ap (λ o. compared o (first_difference c.gates net)) (none_from_none_large net small)
    ∙ ap (compared None) (none_from_denotes c.gates net denotes)
only c net (Ok (Differs w)) (on, small, least) =
    same_lines c net on.0 on.1 ∙ ap (λ o. compared o (first_difference c.gates net)) (none_from_none_large net small)
    ∙ ap (compared None) (some_from_break c.gates net w least)

exactly : (c : Cascade) (net : Network) (answer : Answer) → (check_of c net ≡ answer) ↔ Tells c net answer
exactly c net answer = (λ e. subst (Tells c net) e (told c net), only c net answer)

pub exact : (c : Cascade) (net : Network) → IsExact c net (check_of c net)
exact c net = record {
  circuit_lines = λ n. exactly c net (Err (CircuitLines n));
  net_lines = λ n. exactly c net (Err (NetLines n));
  lines = λ n m. exactly c net (Ok (Lines n m));
  too_large = λ w p. exactly c net (Err (TooLarge w p));
  same = exactly c net (Ok Same);
  differs = λ w. exactly c net (Ok (Differs w));
}

-- an answer that isn't want of memory is that of the definition
pub exact_answer : (c : Cascade) (net : Network) (answer : Answer) → MatchResult answer (λ v. check_of c net ≡ Ok v) (λ fault. (fault ≡ Mem) ⊎ (check_of c net ≡ Err fault))
    → (answer ≡ Err Mem) ⊎ IsExact c net answer
exact_answer c net answer h = grind (arith, exact)
