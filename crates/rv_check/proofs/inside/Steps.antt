-- Values of all words, operation by operation.
use Rattle.std.proofs.Common.{◌≡◌, ℕ, zero, suc, ◌+◌, ◌^◌, ◌<◌, ◌≤◌, Bool, true, false, cond, List, map, length, take, set, get_or, All, sym, ap, ◌∙◌, arith, inl, inr, subst, length-set}
use Rattle.std.proofs.lemmas.Bool.{cases_eq}
use Rattle.std.proofs.lemmas.Int.{ints}
use Rattle.std.proofs.lemmas.List.{take_more}
use Rattle.std.proofs.lemmas.List.Elements.{All-same}
use Rattle.std.proofs.Math.Nat.{pow-suc}
use Rattle.std.proofs.Math.Pow.{pow_mono}
use Rattle.rv_gate.specs.Word.{bit_of, number_of}
use Rattle.rv_net.specs.Cyclotomic.{Cyclotomic, nought, plus, times_w, times_w_power}
use Rattle.rv_net.specs.Op.{OpFitsIn, goes_to, phase_of}
use Rattle.rv_net.specs.declared.op.Op.{Op}
use Rattle.rv_check.specs.Reduced.{words}
use Rattle.rv_check.specs.inside.Dense.{NoneLargeIn, Shows, ShowsOverAt, minus, mixed_at, moved_at, undivided_more}
use Rattle.rv_check.specs.inside.Kept.{Kept, NotLarge}
use Rattle.rv_check.specs.inside.Small.{AreSmall}
use Rattle.rv_check.specs.inside.Stands.{On, StandsOver}
use Rattle.rv_check.proofs.Back.{length-goes_to}
use Rattle.rv_check.proofs.inside.Collected.{not_large_at}
use Rattle.rv_check.proofs.inside.Numbers.{all_map, as_map, each_map}
use Rattle.rv_check.proofs.inside.Small.{plus_small, small_wider}
use Rattle.rv_check.proofs.inside.Sparse.{Word}
use Rattle.rv_check.proofs.inside.Stands.{over_more}

-- ---- how small they are

pub wider : (p q : ℕ) (vs : List Cyclotomic) → p ≤ q → All (AreSmall (2 ^ p)) vs → All (AreSmall (2 ^ q)) vs
wider p q vs le all k d lt = small_wider (2 ^ p) (2 ^ q) _ (pow_mono le) (all k d lt)

minus_small : (p most : ℕ) (u v : Cyclotomic) → AreSmall p u → AreSmall p v → p + p ≤ most → AreSmall most (minus u v)
unfolding minus
minus_small p most u v g h le = record {
  a = omega (arith, ints, g.a, h.a);
  b = omega (arith, ints, g.b, h.b);
  c = omega (arith, ints, g.c, h.c);
  d = omega (arith, ints, g.d, h.d);
}

times_w-small : (p : ℕ) (u : Cyclotomic) → AreSmall p u → AreSmall p (times_w u)
unfolding times_w
times_w-small p u g = record { a = omega (arith, ints, g.d); b = g.a; c = g.b; d = g.c }

turned_small : (p k : ℕ) (u : Cyclotomic) → AreSmall p u → AreSmall p (times_w_power k u)
unfolding times_w_power
turned_small p zero u g = g
turned_small p (suc k) u g = times_w-small p (times_w_power k u) (turned_small p k u g)

-- values as a function of the words
valued : List Cyclotomic → Word → Cyclotomic
valued vs x = get_or vs (number_of x) nought

each_small : (n p : ℕ) (vs : List Cyclotomic) → length vs ≡ 2 ^ n → All (AreSmall p) vs → (x : Word) → length x ≡ n → AreSmall p (valued vs x)
unfolding valued
each_small n p vs len all = each_map (AreSmall p) (valued vs) n (All-same (AreSmall p) _ _ (sym (as_map n vs nought len)) all)

mixed_one : (p most line : ℕ) (f : Word → Cyclotomic) (x : Word) → AreSmall p (f (set x line false)) → AreSmall p (f (set x line true)) → p + p ≤ most → AreSmall most (mixed_at line f x)
unfolding mixed_at
mixed_one p most line f x g h le = go (bit_of x line) where
  go : (b : Bool) → AreSmall most (cond b (minus (f (set x line false)) (f (set x line true))) (plus (f (set x line false)) (f (set x line true))))
  go true = minus_small p most _ _ g h le
  go false = plus_small p p most _ _ g h le

pub mixed_small : (n bits line : ℕ) (vs us : List Cyclotomic) → length vs ≡ 2 ^ n → ((f : Word → Cyclotomic) → vs ≡ map f (words n) → us ≡ map (mixed_at line f) (words n))
    → All (AreSmall (2 ^ bits)) vs → All (AreSmall (2 ^ (bits + 1))) us
unfolding valued
mixed_small n bits line vs us len done all =
    let each = each_small n (2 ^ bits) vs len all in
    let e : bits + 1 ≡ suc bits = omega arith in
    let le : 2 ^ bits + 2 ^ bits ≤ 2 ^ (bits + 1) = omega (arith, pow-suc 2 bits, ap (λ k. 2 ^ k) e) in
    All-same (AreSmall (2 ^ (bits + 1))) _ _ (done (valued vs) (as_map n vs nought len))
    (all_map (AreSmall (2 ^ (bits + 1))) (mixed_at line (valued vs)) n
    (λ x l. mixed_one (2 ^ bits) (2 ^ (bits + 1)) line (valued vs) x (each (set x line false) (length-set x line false ∙ l)) (each (set x line true) (length-set x line true ∙ l)) le))

pub moved_small_all : (n p : ℕ) (op : Op) (vs ws : List Cyclotomic) → length vs ≡ 2 ^ n → ((f : Word → Cyclotomic) → vs ≡ map f (words n) → ws ≡ map (moved_at op f) (words n)) → All (AreSmall p) vs → All (AreSmall p) ws
unfolding valued
moved_small_all n p op vs ws len done all =
    All-same (AreSmall p) _ _ (done (valued vs) (as_map n vs nought len))
    (all_map (AreSmall p) (moved_at op (valued vs)) n
    (λ x l. turned_small p (phase_of op (goes_to op x)) _ (each_small n p vs len all (goes_to op x) (length-goes_to op x ∙ l))))

-- ---- one operation more

over_next : (ops : List Op) (x : Word) (place : ℕ) (k : Kept) (d : Op) → All (λ op. OpFitsIn op (length x)) ops → place < length ops → StandsOver (take place ops) x k
    → StandsOver (take (place + 1) ops) x (undivided_more k (get_or ops place d))
over_next ops x place k d fits lt s =
    subst (λ l. StandsOver l x (undivided_more k (get_or ops place d))) (sym (take_more ops place d lt)) (over_more (get_or ops place d) (take place ops) x k (fits place d lt) s)

pub shows_next : (ops : List Op) (x : Word) (n start place : ℕ) (vs ws : List Cyclotomic) (exponent next : ℕ) (d : Op) → length x ≡ n → All (λ op. OpFitsIn op n) ops → place < length ops
    → ((k : Kept) → On n k.members → Shows n vs exponent k → Shows n ws next (undivided_more k (get_or ops place d)))
    → All (AreSmall (2 ^ 61)) ws → ShowsOverAt ops x place vs exponent × NoneLargeIn ops x start place
    → ShowsOverAt ops x (place + 1) ws next × NoneLargeIn ops x start (place + 1)
shows_next ops x n start place vs ws exponent next d len fits lt done small before =
    let s = before.0 in
    let own : All (λ op. OpFitsIn op (length x)) ops = (λ k o h. subst (OpFitsIn (get_or ops k o)) (sym len) (fits k o h)) in
    let shown : Shows n ws next (undivided_more s.kept (get_or ops place d)) =
    done s.kept (subst (λ m. On m s.kept.members) len s.stands.on) (subst (λ m. Shows m vs exponent s.kept) len s.shows) in
    let after : ShowsOverAt ops x (place + 1) ws next =
    (record { kept = undivided_more s.kept (get_or ops place d); stands = over_next ops x place s.kept d own lt s.stands; shows = subst (λ m. Shows m ws next (undivided_more s.kept (get_or ops place d))) (sym len) shown }) in (
      after,
      (λ p low high.
          elim (cases_eq p (place + 1)) as (λ _. NotLarge ops x p) [
            | inl e ↦ rw e (not_large_at ops x (place + 1) next ws own after small)
            | inr ne ↦ before.1 p low (omega (arith, high, ne))
          ]),
    )

-- the same place, with other values
pub shows_room : (ops : List Op) (x : Word) (start place : ℕ) (vs ws : List Cyclotomic) (exponent next : ℕ) → (ShowsOverAt ops x place vs exponent → ShowsOverAt ops x place ws next)
    → ShowsOverAt ops x place vs exponent × NoneLargeIn ops x start place → ShowsOverAt ops x place ws next × NoneLargeIn ops x start place
shows_room ops x start place vs ws exponent next more before = (more before.0, before.1)
