-- A vector that grows by what is added.
use Rattle.std.proofs.Common.{◌≡◌, ℕ, suc, ◌+◌, ◌*◌, ◌^◌, ◌≤◌, Bool, true, false, cond, List, [], ◌∷◌, length, All, fold, ◌∙◌, arith, length-set}
use Rattle.std.proofs.lemmas.List.Elements.{All-nil, All-cons, All-filter, All-head, All-tail}
use Rattle.rv_gate.specs.Word.{bit_of}
use Rattle.rv_net.specs.Amplitude.{same_word}
use Rattle.rv_net.specs.Cyclotomic.{Cyclotomic, negated}
use Rattle.rv_check.specs.declared.member.Member.{Member}
use Rattle.rv_check.specs.inside.Kept.{added, is_present, mixed, spread}
use Rattle.rv_check.specs.inside.Small.{AreSmall}
use Rattle.rv_check.specs.inside.Stands.{On}
use Rattle.rv_check.proofs.inside.Adding.{more}
use Rattle.rv_check.proofs.inside.Small.{plus_small, negated_small, small_wider}

abbrev pub Within : ℕ → List Member → Type 0
Within most ms = All (λ m. AreSmall most m.value) ms

pub pick : {X : Type 0} (P : X → Type 0) (b : Bool) (x y : X) → P x → P y → P (cond b x y)
pick P b x y h h2 = grind arith

pub length-added : (ms : List Member) (w : List Bool) (v : Cyclotomic) → length (added ms w v) ≤ length ms + 1
unfolding added
length-added [] w v = omega arith
length-added (m ∷ ms) w v =
    pick (λ l. length l ≤ suc (length ms) + 1) (same_word m.word w) (more m v ∷ ms) (m ∷ added ms w v) (omega arith) (omega (arith, length-added ms w v))

pub on-added : (n : ℕ) (ms : List Member) (w : List Bool) (v : Cyclotomic) → On n ms → length w ≡ n → On n (added ms w v)
unfolding added
on-added n [] w v h e = All-cons (λ m. length m.word ≡ n) (record { word = w; value = v }) [] e (All-nil (λ m. length m.word ≡ n))
on-added n (m ∷ ms) w v h e =
    let first = All-head (λ m. length m.word ≡ n) m ms h in
    let others = All-tail (λ m. length m.word ≡ n) m ms h in
    pick (On n) (same_word m.word w) (more m v ∷ ms) (m ∷ added ms w v)
    (All-cons (λ m. length m.word ≡ n) (more m v) ms first others)
    (All-cons (λ m. length m.word ≡ n) m (added ms w v) first (on-added n ms w v others e))

within_wider : (p most : ℕ) (ms : List Member) → p ≤ most → Within p ms → Within most ms
within_wider p most ms le h k d lt = small_wider p most _ le (h k d lt)

pub within-added : (p q most : ℕ) (ms : List Member) (w : List Bool) (v : Cyclotomic) → Within p ms → AreSmall q v → p + q ≤ most → Within most (added ms w v)
unfolding added
within-added p q most [] w v h g le = All-cons (λ m. AreSmall most m.value) (record { word = w; value = v }) [] (small_wider q most v (omega arith) g) (All-nil (λ m. AreSmall most m.value))
within-added p q most (m ∷ ms) w v h g le =
    let first = All-head (λ m. AreSmall p m.value) m ms h in
    let others = All-tail (λ m. AreSmall p m.value) m ms h in
    pick (Within most) (same_word m.word w) (more m v ∷ ms) (m ∷ added ms w v)
    (All-cons (λ m. AreSmall most m.value) (more m v) ms (plus_small p q most m.value v first g le) (within_wider p most ms (omega arith) others))
    (All-cons (λ m. AreSmall most m.value) m (added ms w v) (small_wider p most m.value (omega arith) first) (within-added p q most ms w v others g le))

-- both members of one
pub signed_small : (p : ℕ) (b : Bool) (v : Cyclotomic) → AreSmall p v → AreSmall p (cond b (negated v) v)
signed_small p true v h = negated_small p v h
signed_small p false v h = h

pub length-spread : (line : ℕ) (ms : List Member) (m : Member) → length (spread line ms m) ≤ length ms + 2
unfolding spread
length-spread line ms m = grind (arith, length-added, bit_of)

pub on-spread : (n line : ℕ) (ms : List Member) (m : Member) → On n ms → length m.word ≡ n → On n (spread line ms m)
unfolding spread
on-spread n line ms m h e =
    on-added n _ _ _ (on-added n ms _ _ h (length-set m.word line false ∙ e)) (length-set m.word line true ∙ e)

pub within-spread : (p q most line : ℕ) (ms : List Member) (m : Member) → Within p ms → AreSmall q m.value → p + q + q ≤ most → Within most (spread line ms m)
unfolding spread
within-spread p q most line ms m h g le =
    within-added (p + q) q most _ _ _ (within-added p q (p + q) ms _ _ h g (omega arith)) (signed_small q (bit_of m.word line) m.value g) le

-- and of all
pub length-fold_spread : (line : ℕ) (acc ms : List Member) → length (fold (spread line) acc ms) ≤ length acc + 2 * length ms
length-fold_spread line acc [] = omega arith
length-fold_spread line acc (m ∷ ms) = omega (arith, length-fold_spread line (spread line acc m) ms, length-spread line acc m)

pub on-fold_spread : (n line : ℕ) (acc ms : List Member) → On n acc → On n ms → On n (fold (spread line) acc ms)
on-fold_spread n line acc [] h g = h
on-fold_spread n line acc (m ∷ ms) h g =
    on-fold_spread n line (spread line acc m) ms
    (on-spread n line acc m h (All-head (λ m. length m.word ≡ n) m ms g)) (All-tail (λ m. length m.word ≡ n) m ms g)

pub within-fold_spread : (p q most line : ℕ) (acc ms : List Member) → Within p acc → Within q ms → p + 2 * q * length ms ≤ most → Within most (fold (spread line) acc ms)
within-fold_spread p q most line acc [] h g le = within_wider p most acc (omega arith) h
within-fold_spread p q most line acc (m ∷ ms) h g le =
    let next : p + q + q + 2 * q * length ms ≤ most = omega (arith, le) in
    within-fold_spread (p + q + q) q most line (spread line acc m) ms
    (within-spread p q (p + q + q) line acc m h (All-head (λ m. AreSmall q m.value) m ms g) (omega arith)) (All-tail (λ m. AreSmall q m.value) m ms g) next

pub within-mixed : (line : ℕ) (ms : List Member) → Within (2 ^ 100) ms → length ms ≤ 2 ^ 10 → Within (2 ^ 120) (mixed line ms)
unfolding mixed
within-mixed line ms h few =
    let le : 0 + 2 * 2 ^ 100 * length ms ≤ 2 ^ 120 = omega (arith, few) in
    All-filter is_present (λ m. AreSmall (2 ^ 120) m.value) (fold (spread line) [] ms)
    (within-fold_spread 0 (2 ^ 100) (2 ^ 120) line [] ms (All-nil (λ m. AreSmall 0 m.value)) h le)
