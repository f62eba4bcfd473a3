-- Values of all words taken from members, and made members again.
use Rattle.rv_gate.proofs.Words.{same_word-true, same_word-false}
use Rattle.std.proofs.Common.{◌≡◌, ◌≢◌, ℕ, zero, suc, ◌+◌, ◌^◌, ◌<◌, Bool, true, false, cond, List, [], ◌∷◌, ◌++◌, map, length, filter, take, get_or, set, All, refl, sym, ap, ap₂, ◌∙◌, arith, inl, inr, ◌⊎◌, ◌||◌, ℤ, get_or-set_same, get_or-set_other}
use Rattle.std.proofs.lemmas.Bool.{cases_eq, le-ltb}
use Rattle.std.proofs.lemmas.List.{take_more}
use Rattle.std.proofs.lemmas.List.Elements.{All-head, All-tail, All-filter, All-map, All-weaker}
use Rattle.std.specs.List.{list_all, list_any}
use Rattle.std.specs.Prelude.{unsigned_abs}
use Rattle.rv_gate.specs.Word.{number_of}
use Rattle.rv_gate.specs.inside.laws.WordLaws.{number_of-lt}
use Rattle.rv_net.specs.Cyclotomic.{Cyclotomic, nought, plus}
use Rattle.rv_net.specs.Op.{OpFitsIn}
use Rattle.rv_net.specs.declared.op.Op.{Op}
use Rattle.rv_net.proofs.Cyclotomic.{nought_plus, plus_nought, plus_assoc}
use Rattle.rv_check.specs.Reduced.{is_large, is_large_number, is_multiple, quotient, reduced, words}
use Rattle.rv_check.specs.declared.member.Member.{Member}
use Rattle.rv_check.specs.inside.Dense.{ShowsAt, ShowsOverAt, members_from}
use Rattle.rv_check.specs.inside.Kept.{Kept, NotLarge, has_large, is_present, kept_after, reduced_kept}
use Rattle.rv_check.specs.inside.Small.{AreSmall, IsSmall}
use Rattle.rv_check.specs.inside.Stands.{Apart, Fresh, On, Stands, at_word, multiples, scaled, value_at}
use Rattle.rv_check.proofs.inside.Apart.{apart-filter, fresh_value, head_value, tail_value}
use Rattle.rv_check.proofs.inside.Deciding.{large_is, reduced_vector_is}
use Rattle.rv_check.proofs.inside.Multiples.{multiple-nought}
use Rattle.rv_check.proofs.inside.Numbers.{Numbered, members_from_words, number_same, numbered_words, length-words, same_map}
use Rattle.rv_check.proofs.inside.Places.{stands_at}
use Rattle.rv_check.proofs.inside.Reducing.{quotient_small}
use Rattle.rv_check.proofs.inside.Sparse.{Word, value_at-filter}
use Rattle.rv_check.proofs.inside.Stands.{over_reduced}
use Rattle.rv_check.proofs.inside.Vectors.{vector_all}
use Rattle.rv_check.proofs.inside.Wholes.{reduced_values}

-- ---- a member for each word

listed : (Word → Cyclotomic) → List Word → List Member
listed g xs = map (λ x. record { word = x; value = g x }) xs

listed_on : (g : Word → Cyclotomic) (n i : ℕ) (xs : List Word) → Numbered n i xs → On n (listed g xs)
unfolding listed
listed_on g n i [] h k d lt = absurd (omega (arith, lt))
listed_on g n i (x ∷ xs) h zero d lt = h.0
listed_on g n i (x ∷ xs) h (suc k) d lt = listed_on g n (suc i) xs h.2 k d (omega (arith, lt))

listed_fresh : (g : Word → Cyclotomic) (n i : ℕ) (w : Word) (xs : List Word) → number_of w < i → Numbered n i xs → Fresh w (listed g xs)
unfolding listed
listed_fresh g n i w [] lt h = tt
listed_fresh g n i w (x ∷ xs) lt h =
    ((λ same. let e : number_of x ≡ number_of w = ap number_of same in omega (arith, h.1, e, lt)), listed_fresh g n (suc i) w xs (omega (arith, lt)) h.2)

listed_apart : (g : Word → Cyclotomic) (n i : ℕ) (xs : List Word) → Numbered n i xs → Apart (listed g xs)
unfolding listed
listed_apart g n i [] h = tt
listed_apart g n i (x ∷ xs) h = (listed_fresh g n (suc i) x xs (omega (arith, h.1)) h.2, listed_apart g n (suc i) xs h.2)

listed_value : (g : Word → Cyclotomic) (n i k : ℕ) (xs : List Word) (z : Word) → Numbered n i xs → length z ≡ n → number_of z ≡ i + k → k < length xs → value_at (listed g xs) z ≡ g z
unfolding listed
listed_value g n i k [] z h l e lt = absurd (omega (arith, lt))
listed_value g n i zero (x ∷ xs) z h l e lt = grind (arith, number_same, head_value, listed, listed_fresh)
listed_value g n i (suc k) (x ∷ xs) z h l e lt = let i0 = listed_value g n (suc i) k xs z h.2 l in grind (arith, i0, tail_value, listed)

other_length : (n : ℕ) (ms : List Member) (z : Word) → On n ms → length z ≢ n → Fresh z ms
other_length n [] z on ne = tt
other_length n (m ∷ ms) z on ne =
    let first : length m.word ≡ n = All-head (λ m. length m.word ≡ n) m ms on in
    ((λ same. ne (ap length (sym same) ∙ first)), other_length n ms z (All-tail (λ m. length m.word ≡ n) m ms on) ne)

all_value : (n : ℕ) (ms : List Member) (z : Word) → On n ms → value_at (filter is_present (listed (value_at ms) (words n))) z ≡ value_at ms z
all_value n ms z on =
    value_at-filter (listed (value_at ms) (words n)) z
    ∙ elim (cases_eq (length z) n) as (λ _. value_at (listed (value_at ms) (words n)) z ≡ value_at ms z) [
      | inl e ↦
          listed_value (value_at ms) n 0 (number_of z) (words n) z (numbered_words n) e (omega arith)
          (let p : 2 ^ length z ≡ 2 ^ n = ap (λ k. 2 ^ k) e in omega (arith, number_of-lt z, p, length-words n))
      | inr ne ↦
          fresh_value z (listed (value_at ms) (words n)) (other_length n (listed (value_at ms) (words n)) z (listed_on (value_at ms) n 0 (words n) (numbered_words n)) ne)
          ∙ sym (fresh_value z ms (other_length n ms z on ne))
    ]

still_greatest : (n exponent : ℕ) (ms os : List Member) → Apart ms → On n ms → Apart os → On n os → ((z : Word) → value_at os z ≡ value_at ms z)
    → (exponent ≡ 0) ⊎ (multiples ms ≡ false) → (exponent ≡ 0) ⊎ (multiples os ≡ false)
still_greatest n exponent ms os am om ao oo same (inl e) = inl e
still_greatest n exponent ms os am om ao oo same (inr e) =
    inr (sym (vector_all is_multiple multiple-nought n os ao oo) ∙ ap (list_all is_multiple) (same_map _ _ n (λ z l. same z)) ∙ vector_all is_multiple multiple-nought n ms am om ∙ e)

stands_listed : (ops : List Op) (x : Word) (k : Kept) → Stands ops x k
    → Stands ops x (record { members = filter is_present (listed (value_at k.members) (words (length x))); exponent = k.exponent })
stands_listed ops x k s =
    let n = length x in
    let whole = listed (value_at k.members) (words n) in
    let on = All-filter is_present (λ m. length m.word ≡ n) whole (listed_on (value_at k.members) n 0 (words n) (numbered_words n)) in
    let apart = apart-filter is_present whole (listed_apart (value_at k.members) n 0 (words n) (numbered_words n)) in
    record {
      divisions = s.divisions;
      total = s.total;
      amplitudes = λ z. s.amplitudes z ∙ ap (scaled s.divisions) (sym (all_value n k.members z s.on));
      on = on;
      apart = apart;
      greatest = still_greatest n k.exponent k.members _ s.apart s.on apart on (λ z. all_value n k.members z s.on) s.greatest;
    }

-- what the code makes of the values
pub stands_collected : (ops : List Op) (x : Word) (n place : ℕ) (vs : List Cyclotomic) (l : Kept) → length x ≡ n → ShowsAt ops x place vs l.exponent
    → l.members ≡ filter is_present (members_from n 0 vs) → Stands (take place ops) x l
unfolding listed
stands_collected ops x n place vs l len s is = grind (arith, filter, listed, ap₂, members_from_words, stands_listed)

-- ---- small values

not_large_number : (z : ℤ) → IsSmall (2 ^ 61) z → is_large_number z ≡ false
not_large_number z h = le-ltb (2 ^ 100) (unsigned_abs z) (omega (arith, h))

not_large_one : (u : Cyclotomic) → AreSmall (2 ^ 61) u → is_large u ≡ false
not_large_one u h =
    ap₂ (λ a b. a || b) (ap₂ (λ a b. a || b) (ap₂ (λ a b. a || b) (not_large_number u.a h.a) (not_large_number u.b h.b)) (not_large_number u.c h.c)) (not_large_number u.d h.d)

none_large_in : (vs : List Cyclotomic) → All (AreSmall (2 ^ 61)) vs → list_any is_large vs ≡ false
none_large_in [] all = refl
none_large_in (u ∷ vs) all = ap₂ (λ a b. a || b) (not_large_one u (All-head (AreSmall (2 ^ 61)) u vs all)) (none_large_in vs (All-tail (AreSmall (2 ^ 61)) u vs all))

pub reduced_small : (exponent p : ℕ) (vs : List Cyclotomic) → All (AreSmall p) vs → All (AreSmall p) (reduced exponent vs)
unfolding reduced
reduced_small zero p vs all = all
reduced_small (suc exponent) p vs all =
    go (list_all is_multiple vs) (reduced_small exponent p (map quotient vs)
    (All-map (AreSmall p) quotient vs (All-weaker (AreSmall p) (λ u. AreSmall p (quotient u)) (λ u h. quotient_small p u h) vs all))) where
      go : (b : Bool) → All (AreSmall p) (reduced exponent (map quotient vs)) → All (AreSmall p) (cond b (reduced exponent (map quotient vs)) vs)
      go true h = h
      go false h = all

pub not_large_at : (ops : List Op) (x : Word) (place exponent : ℕ) (vs : List Cyclotomic) → All (λ op. OpFitsIn op (length x)) ops → ShowsOverAt ops x place vs exponent → All (AreSmall (2 ^ 61)) vs → NotLarge ops x place
unfolding NotLarge has_large
not_large_at ops x place exponent vs fits s small =
    let k = s.kept in
    let least : Stands (take place ops) x (reduced_kept k.exponent k.members) = over_reduced (take place ops) x k s.stands in
    sym (large_is (take place ops) x (kept_after (take place ops) x) (stands_at ops x place fits))
    ∙ ap (list_any is_large)
    (reduced_vector_is (take place ops) x (reduced_kept k.exponent k.members) least ∙ sym (reduced_values (length x) k.exponent k.members s.stands.apart s.stands.on)
    ∙ ap (reduced k.exponent) (sym s.shows.values_are))
    ∙ none_large_in (reduced k.exponent vs) (reduced_small k.exponent (2 ^ 61) vs small)

-- ---- members taken over

value_at-append : (ms os : List Member) (z : Word) → value_at (ms ++ os) z ≡ plus (value_at ms z) (value_at os z)
unfolding value_at
value_at-append [] os z = sym (nought_plus _)
value_at-append (m ∷ ms) os z = ap (plus (at_word m.word z m.value)) (value_at-append ms os z) ∙ sym (plus_assoc _ _ _)

value_at-take : (ms : List Member) (i : ℕ) (d : Member) (z : Word) → i < length ms
    → value_at (take (i + 1) ms) z ≡ plus (value_at (take i ms) z) (at_word (get_or ms i d).word z (get_or ms i d).value)
unfolding value_at
value_at-take ms i d z lt =
    ap (λ l. value_at l z) (take_more ms i d lt) ∙ value_at-append (take i ms) (get_or ms i d ∷ []) z ∙ ap (plus (value_at (take i ms) z)) (plus_nought _)

fresh_at : (w : Word) (ms : List Member) (i : ℕ) (d : Member) → i < length ms → Fresh w ms → (get_or ms i d).word ≢ w
fresh_at w [] i d lt h = absurd (omega (arith, lt))
fresh_at w (m ∷ ms) zero d lt h = h.0
fresh_at w (m ∷ ms) (suc i) d lt h = fresh_at w ms i d (omega (arith, lt)) h.1

fresh_before : (ms : List Member) (i : ℕ) (d : Member) → i < length ms → Apart ms → Fresh (get_or ms i d).word (take i ms)
fresh_before [] i d lt h = absurd (omega (arith, lt))
fresh_before (m ∷ ms) zero d lt h = tt
fresh_before (m ∷ ms) (suc i) d lt h = ((λ same. fresh_at m.word ms i d (omega (arith, lt)) h.0 (sym same)), fresh_before ms i d (omega (arith, lt)) h.1)

-- the values, as far as the members are taken over
abbrev pub Taken : ℕ → List Cyclotomic → List Member → Type 0
Taken n vs ms = (z : Word) → length z ≡ n → get_or vs (number_of z) nought ≡ value_at ms z

pub taken_more : (n : ℕ) (vs : List Cyclotomic) (ms : List Member) (i : ℕ) (d : Member) (v : Cyclotomic) → length vs ≡ 2 ^ n → On n ms → Apart ms → i < length ms
    → v ≡ (get_or ms i d).value → Taken n vs (take i ms) → Taken n (set vs (number_of (get_or ms i d).word) v) (take (i + 1) ms)
taken_more n vs ms i d v len on apart lt is before z l =
    let m = get_or ms i d in
    let own : length m.word ≡ n = on i d lt in
    elim (cases_eq (number_of z) (number_of m.word)) as (λ _. get_or (set vs (number_of m.word) v) (number_of z) nought ≡ value_at (take (i + 1) ms) z) [
      | inl e ↦
          let same : z ≡ m.word = number_same z m.word (l ∙ sym own) e in
          let room : number_of m.word < length vs = let p : 2 ^ length m.word ≡ 2 ^ n = ap (λ k. 2 ^ k) own in omega (arith, number_of-lt m.word, p, len) in
          ap (λ k. get_or (set vs (number_of m.word) v) k nought) e ∙ get_or-set_same vs (number_of m.word) v nought room ∙ is
          ∙ sym (value_at-take ms i d z lt
          ∙ ap₂ plus (ap (value_at (take i ms)) same ∙ fresh_value m.word (take i ms) (fresh_before ms i d lt apart)) (ap (λ b. cond b m.value nought) (same_word-true m.word z (sym same)))
          ∙ nought_plus m.value)
      | inr ne ↦
          get_or-set_other vs (number_of m.word) (number_of z) v nought ne ∙ before z l
          ∙ sym (value_at-take ms i d z lt
          ∙ ap (plus (value_at (take i ms) z)) (ap (λ b. cond b m.value nought) (same_word-false m.word z (λ same. ne (ap number_of (sym same)))))
          ∙ plus_nought _)
    ]
