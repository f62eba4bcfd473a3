-- Operations followed one after the other.
use Rattle.std.proofs.Common.{◌≡◌, ℕ, zero, suc, ◌+◌, ◌*◌, ◌%◌, ◌<◌, ◌≤◌, Bool, true, false, List, [], ◌∷◌, length, take, drop, get_or, ◌++◌, map, refl, sym, ap, ap₂, ◌∙◌, arith, length-append, append-nil, ◌/◌}
use Rattle.std.proofs.lemmas.List.{drop_more, take_more, get_or-map, get_or_append_left, get_or-append-add, length-map}
use Rattle.std.specs.Prelude.{All}
use Rattle.std.proofs.lemmas.List.Elements.{All-cons, All-head, All-nil, All-tail}
use Rattle.rv_net.specs.Amplitude.{count_h, sum_over_words}
use Rattle.rv_net.specs.Op.{OpFitsIn}
use Rattle.rv_net.specs.Cyclotomic.{Cyclotomic, times_w_power}
use Rattle.rv_net.specs.declared.op.Op.{Op}
use Rattle.rv_net.proofs.Cyclotomic.{turns_add, w_eight}
use Rattle.rv_net.proofs.Step.{Word, bit, delta, same_amp}
use Rattle.rv_paths.specs.Paths.{end_of, goes_by, next_after, power_of, turn_by, SameSums}
use Rattle.rv_paths.specs.declared.phases.Phases.{Phases}
use Rattle.rv_paths.specs.declared.rows.Row.{Row}
use Rattle.rv_paths.specs.inside.Parity.{parity}
use Rattle.rv_paths.specs.inside.Phases.{is_linear, part, path_at, power, word_at}
use Rattle.rv_paths.specs.inside.Follows.{Follows, IsRegion}
use Rattle.rv_net.specs.declared.op.Op.TheVariants.{X, Y, Z, H, S, Sdg, T, Tdg, Cx, Cz, Ccx, Swap, Cswap}
use Rattle.rv_paths.proofs.inside.Parities.{take-long}
use Rattle.rv_paths.proofs.Sums.{along, denoted, sum-same}

-- ---- bits of lists

pub path_bit : (columns : List ℕ) (u : Word) (next : ℕ) → next < length columns → bit (path_at columns u) next ≡ bit (true ∷ u) (get_or columns next 0)
path_bit columns u next h = get_or-map (λ c. bit (true ∷ u) c) columns next 0 false h

pub path_past : (columns : List ℕ) (u : Word) (next : ℕ) → length columns ≤ next → bit (path_at columns u) next ≡ false
path_past [] u next h = refl
path_past (c ∷ columns) u zero h = absurd (omega arith)
path_past (c ∷ columns) u (suc next) h = path_past columns u next (omega arith)

map-append : (f : ℕ → Bool) (a b : List ℕ) → map f (a ++ b) ≡ map f a ++ map f b
map-append f [] b = refl
map-append f (x ∷ a) b = ap (λ l. f x ∷ l) (map-append f a b)

map_rows : (f : Row → Bool) (a b : List Row) → map f (a ++ b) ≡ map f a ++ map f b
map_rows f [] b = refl
map_rows f (x ∷ a) b = ap (λ l. f x ∷ l) (map_rows f a b)

part_next : (a n : ℕ) (u : Word) → part a n u ++ bit u (a + n) ∷ [] ≡ part a (n + 1) u
part_next a n u = ap (λ m. part a m u) (let e : suc n ≡ n + 1 = omega arith in e)

pub columns-more : (list new : List ℕ) (first place column : ℕ) (u : Word) → new ≡ list ++ column ∷ [] → column ≡ first + place
    → path_at list u ≡ part first place (true ∷ u) → path_at new u ≡ part first (place + 1) (true ∷ u)
columns-more list new first place column u pushed is before =
    ap (λ l. path_at l u) pushed ∙ map-append (λ c. bit (true ∷ u) c) list (column ∷ [])
    ∙ ap₂ (λ l c. l ++ bit (true ∷ u) c ∷ []) before is ∙ part_next first place (true ∷ u)

pub start-more : (list new : List Row) (row : Row) (line column : ℕ) (u : Word) → new ≡ list ++ row ∷ [] → parity row.mask.items (true ∷ u) ≡ bit (true ∷ u) column
    → column ≡ line + 1 → word_at list u ≡ part 0 line u → word_at new u ≡ part 0 (line + 1) u
start-more list new row line column u pushed is at before =
    ap (λ l. word_at l u) pushed ∙ map_rows (λ r. parity r.mask.items (true ∷ u)) list (row ∷ [])
    ∙ ap₂ (λ l b. l ++ b ∷ []) before (is ∙ ap (bit (true ∷ u)) (let e : column ≡ suc line = omega (arith, at) in e) ∙ ap (bit u) (let e : line ≡ 0 + line = omega arith in e))
    ∙ part_next 0 line u

part-take : (a b c : Word) (n : ℕ) → n ≤ length b → part (length a) n (a ++ (b ++ c)) ≡ take n b
part-take a b c zero h = refl
part-take a b c (suc n) h =
    let l : n < length b = omega arith in
    ap₂ (λ w d. w ++ d ∷ []) (part-take a b c n (omega arith)) (get_or-append-add a (b ++ c) n false ∙ get_or_append_left b c false n l)
    ∙ sym (take_more b n false l) ∙ ap (λ m. take m b) (let e : n + 1 ≡ suc n = omega arith in e)

take-length : (b : Word) → take (length b) b ≡ b
take-length [] = refl
take-length (x ∷ b) = ap (λ l. x ∷ l) (take-length b)

pub part-all : (a b c : Word) → part (length a) (length b) (a ++ (b ++ c)) ≡ b
part-all a b c = part-take a b c (length b) (omega arith) ∙ take-length b

-- ---- one operation more

pub words-more : (ops : List Op) (k next : ℕ) (d : Op) (y w v : Word) → k < length ops → v ≡ goes_by (get_or ops k d) (bit y next) w
    → end_of (drop k ops) next y w ≡ end_of (drop (k + 1) ops) (next_after (get_or ops k d) next) y v
words-more ops k next d y w v h is =
    ap (λ l. end_of l next y w) (drop_more ops k d h) ∙ ap (λ x. end_of (drop (k + 1) ops) (next_after (get_or ops k d) next) y x) (sym is)

pub power-more : (ops : List Op) (k next : ℕ) (d : Op) (y w v : Word) → k < length ops → v ≡ goes_by (get_or ops k d) (bit y next) w
    → power_of (drop k ops) next y w ≡ turn_by (get_or ops k d) (bit y next) w + power_of (drop (k + 1) ops) (next_after (get_or ops k d) next) y v
power-more ops k next d y w v h is =
    ap (λ l. power_of l next y w) (drop_more ops k d h)
    ∙ ap (λ x. turn_by (get_or ops k d) (bit y next) w + power_of (drop (k + 1) ops) (next_after (get_or ops k d) next) y x) (sym is)

pub turns-more : (f all old new before t after start : ℕ) → (start + f * all) % 8 ≡ (old + f * before) % 8 → before ≡ t + after → new % 8 ≡ (old + f * t) % 8
    → (start + f * all) % 8 ≡ (new + f * after) % 8
turns-more f all old new before t after start h is step =
    let sum : f * before ≡ f * t + f * after = ap (λ n. f * n) is ∙ omega arith in
    omega (arith, h, sum, step)

pub drop-end : (ops : List Op) (k : ℕ) → length ops ≤ k → drop k ops ≡ []
drop-end [] zero h = refl
drop-end [] (suc k) h = refl
drop-end (o ∷ ops) zero h = absurd (omega arith)
drop-end (o ∷ ops) (suc k) h = drop-end ops k (omega arith)

-- ---- the sums

turns_eights : (m : ℕ) (u : Cyclotomic) → times_w_power (8 * m) u ≡ u
unfolding times_w_power
turns_eights zero u = refl
turns_eights (suc m) u = ap (λ n. times_w_power n u) (let e : 8 * suc m ≡ 8 + 8 * m = omega arith in e) ∙ sym (turns_add 8 (8 * m) u) ∙ w_eight _ ∙ turns_eights m u

turns_mod : (p : ℕ) (u : Cyclotomic) → times_w_power (p % 8) u ≡ times_w_power p u
turns_mod p u = ap (times_w_power (p % 8)) (sym (turns_eights (p / 8) u)) ∙ turns_add (p % 8) (8 * (p / 8)) u ∙ ap (λ n. times_w_power n u) (let e : p % 8 + 8 * (p / 8) ≡ p = omega arith in e)

same_turn : (p q : ℕ) (u : Cyclotomic) → p % 8 ≡ q % 8 → times_w_power p u ≡ times_w_power q u
same_turn p q u e = sym (turns_mod p u) ∙ ap (λ n. times_w_power n u) e ∙ turns_mod q u

pub same_paths : (a b : List Op) (x z y w : Word) → power_of a 0 y x % 8 ≡ power_of b 0 w x % 8 → end_of a 0 y x ≡ end_of b 0 w x → along a 0 x z y ≡ along b 0 x z w
same_paths a b x z y w turns ends =
    same_turn (power_of a 0 y x) (power_of b 0 w x) (delta (end_of a 0 y x) z) turns ∙ ap (λ e. times_w_power (power_of b 0 w x) (delta e z)) ends

cancelled : (p0 p1 p2 a b : ℕ) → p0 ≡ 0 → p1 % 8 ≡ (p0 + 1 * a) % 8 → p2 % 8 ≡ (p1 + 7 * b) % 8 → p2 % 8 ≡ 0 → a % 8 ≡ b % 8
cancelled p0 p1 p2 a b h i j k = omega arith

pub agreed : (lines count : ℕ) (a b : List Op) (columns others : List ℕ) (permuted : Word → Word) (p0 p1 p2 : Phases) (one two : List Row)
    → count_h a ≡ count → count_h b ≡ count
    → ((x y : Word) → length x ≡ lines → length y ≡ count → path_at columns (x ++ y) ≡ y)
    → ((x y : Word) → length x ≡ lines → length y ≡ count → path_at others (x ++ y) ≡ permuted y)
    → ((f : Word → Cyclotomic) → sum_over_words count (λ y. f (permuted y)) ≡ sum_over_words count f)
    → ((u : Word) → power p0 u ≡ 0) → Follows p0 p1 lines a columns 1 one → Follows p1 p2 lines b others 7 two
    → ((u : Word) → word_at one u ≡ word_at two u) → ((u : Word) → 1 + length u ≤ 1 + lines + count → power p2 u % 8 ≡ 0)
    → SameSums lines a b
agreed lines count a b columns others permuted p0 p1 p2 one two ca cb path_a path_b permutes zeros fa fb ends vanishing x z e =
    sym (same_amp a x z) ∙ denoted a x z ∙ ap (λ n. sum_over_words n (along a 0 x z)) ca
    ∙ sum-same count (along a 0 x z) (λ y. along b 0 x z (permuted y)) each
    ∙ permutes (along b 0 x z) ∙ ap (λ n. sum_over_words n (along b 0 x z)) (sym cb) ∙ sym (denoted b x z) ∙ same_amp b x z
  where
    starting : (y : Word) → part 0 lines (x ++ y) ≡ x
    starting y = ap (λ n. part 0 n (x ++ y)) (sym e) ∙ part-all [] x y

    each : (y : Word) → length y ≡ count → along a 0 x z y ≡ along b 0 x z (permuted y)
    each y f =
        let u : Word = x ++ y in
        let pa = path_a x y e f in
        let pb = path_b x y e f in
        let long : 1 + length u ≤ 1 + lines + count = omega (arith, length-append x y, e, f) in
        let turns_a = fa.turns u ∙ ap₂ (λ p w. (power p0 u + 1 * power_of a 0 p w) % 8) pa (starting y) in
        let turns_b = fb.turns u ∙ ap₂ (λ p w. (power p1 u + 7 * power_of b 0 p w) % 8) pb (starting y) in
        let ends_a = fa.words u ∙ ap₂ (λ p w. end_of a 0 p w) pa (starting y) in
        let ends_b = fb.words u ∙ ap₂ (λ p w. end_of b 0 p w) pb (starting y) in
        same_paths a b x z y (permuted y) (cancelled (power p0 u) (power p1 u) (power p2 u) _ _ (zeros u) turns_a turns_b (vanishing u long))
        (sym ends_a ∙ ends u ∙ ends_b)

pub columns-all : (lines count first : ℕ) (columns : List ℕ) → first ≡ lines + 1 → ((u : Word) → path_at columns u ≡ part first count (true ∷ u))
    → (x y : Word) → length x ≡ lines → length y ≡ count → path_at columns (x ++ y) ≡ y
columns-all lines count first columns is each x y e f =
    each (x ++ y) ∙ ap₂ (λ m n. part m n (true ∷ (x ++ y))) (let g : first ≡ suc (length x) = omega (arith, is, e) in g) (sym f)
    ∙ ap (λ l. part (suc (length x)) (length y) (true ∷ (x ++ l))) (sym (append-nil y)) ∙ part-all (true ∷ x) y []

pub same_word-more : (one two : List Row) (u : Word) (line : ℕ) (d e : Row) → line < length one → line < length two
    → parity (get_or one line d).mask.items (true ∷ u) ≡ parity (get_or two line e).mask.items (true ∷ u)
    → take line (word_at one u) ≡ take line (word_at two u) → take (line + 1) (word_at one u) ≡ take (line + 1) (word_at two u)
same_word-more one two u line d e h g here before =
    take_more (word_at one u) line false (omega (arith, length-map one (λ r. parity r.mask.items (true ∷ u))))
    ∙ ap₂ (λ l b. l ++ b ∷ []) before (get_or-map (λ r. parity r.mask.items (true ∷ u)) one line d false h ∙ here ∙ sym (get_or-map (λ r. parity r.mask.items (true ∷ u)) two line e false g))
    ∙ sym (take_more (word_at two u) line false (omega (arith, length-map two (λ r. parity r.mask.items (true ∷ u)))))

pub same_words : (one two : List Row) (u : Word) (n : ℕ) → length one ≤ n → length two ≤ n → take n (word_at one u) ≡ take n (word_at two u) → word_at one u ≡ word_at two u
same_words one two u n h g same =
    sym (take-long n (word_at one u) (omega (arith, length-map one (λ r. parity r.mask.items (true ∷ u))))) ∙ same
    ∙ take-long n (word_at two u) (omega (arith, length-map two (λ r. parity r.mask.items (true ∷ u))))

next-count : (o : Op) (c : ℕ) (rest : List Op) → next_after o c + count_h rest ≡ c + count_h (o ∷ rest)
unfolding count_h
next-count (H q) c rest = omega arith
next-count (X q) c rest = refl
next-count (Y q) c rest = refl
next-count (Z q) c rest = refl
next-count (S q) c rest = refl
next-count (Sdg q) c rest = refl
next-count (T q) c rest = refl
next-count (Tdg q) c rest = refl
next-count (Cx a b) c rest = refl
next-count (Cz a b) c rest = refl
next-count (Ccx a b d) c rest = refl
next-count (Swap a b) c rest = refl
next-count (Cswap d a b) c rest = refl

pub count-more : (ops : List Op) (k c n : ℕ) (d : Op) → k < length ops → n ≡ next_after (get_or ops k d) c → c + count_h (drop k ops) ≡ count_h ops
    → n + count_h (drop (k + 1) ops) ≡ count_h ops
count-more ops k c n d h is before =
    ap (λ m. m + count_h (drop (k + 1) ops)) is ∙ next-count (get_or ops k d) c (drop (k + 1) ops) ∙ ap (λ l. c + count_h l) (sym (drop_more ops k d h)) ∙ before

pub count-end : (ops : List Op) (k c : ℕ) → length ops ≤ k → c + count_h (drop k ops) ≡ count_h ops → c ≡ count_h ops
unfolding count_h
count-end ops k c h before = (let e : c ≡ c + 0 = omega arith in e) ∙ ap (λ l. c + count_h l) (sym (drop-end ops k h)) ∙ before

-- ---- each fits

pub fitting : (n : ℕ) (ops : List Op) → IsRegion n ops → All (λ op. OpFitsIn op n) ops
fitting n [] region = All-nil (λ op. OpFitsIn op n)
fitting n (o ∷ ops) region =
    All-cons (λ op. OpFitsIn op n) o ops (All-head (λ op. OpFitsIn op n × (is_linear op ≡ true)) o ops region).0
    (fitting n ops (All-tail (λ op. OpFitsIn op n × (is_linear op ≡ true)) o ops region))
