-- The walk, operation by operation: what is kept of a network whose pairs go.
use Rattle.std.proofs.lemmas.Grind.{common_steps}
use Rattle.std.proofs.Common.{◌≡◌, ◌≢◌, ℕ, zero, suc, ◌+◌, ◌-◌, ◌*◌, ◌<◌, ◌≤◌, true, Some, None, Option, List, [], ◌∷◌, ◌++◌, cond, length, take, drop, set, get_or, append-nil, refl, sym, ap, ap₂, ◌∙◌, arith, inl, inr, subst, length-append, length-set}
use Rattle.std.specs.Prelude.{All, bit_or, count_by, slice_get, ◌^◌, IsTrue}
use Rattle.std.proofs.lemmas.Bool.{cases_eq, cases_order}
use Rattle.std.proofs.lemmas.List.{length_push, set_split, take-append-drop, take_more}
use Rattle.std.proofs.lemmas.List.Sums.{sum_by-append}
use Rattle.std.proofs.lemmas.List.Elements.{All-cons, All-head, All-nil, All-tail}
use Rattle.std.proofs.lemmas.Nat.{or_comm}
use Rattle.std.proofs.lemmas.Option.{none-some, same_Some, slice_get_within}
use Rattle.rv_gate.specs.Word.{has}
use Rattle.rv_net.specs.declared.op.Op.{Op}
use Rattle.rv_net.specs.declared.op.Op.TheVariants.{X, Y, Z, H, S, Sdg, T, Tdg, Cx, Cz, Ccx, Swap, Cswap}
use Rattle.rv_net.specs.Amplitude.{amplitude, count_h}
use Rattle.rv_net.specs.Cyclotomic.{Cyclotomic, plus, doubled}
use Rattle.rv_net.specs.Op.{IsNetwork, Network, OpFitsIn, has_three_lines, is_t}
use Rattle.rv_net.proofs.Frame.{step-local, through, through-append, through-local, through-one}
use Rattle.rv_net.proofs.Matrix.{step-sum}
use Rattle.rv_net.proofs.inside.Network.{amp-through, count_h-append}
use Rattle.rv_net.proofs.Step.{Word, amp, delta, same_amp, step}
use Rattle.rv_pairs.specs.Cancelled.{IsCancellingOf, IsPair, IsTable, Undoes, inverse, mirrored}
use Rattle.rv_pairs.specs.Commuting.{commute, reads, writes}
use Rattle.rv_pairs.specs.inside.Cells.{Cells, HasNoPartner, IsNext, IsPartner, StandsAt, present}
use Rattle.rv_pairs.proofs.inside.Linked.{slice_get-last, slice_get-left, stood_before, stands_left}
use Rattle.rv_pairs.proofs.inside.Meeting.{commute_from}
use Rattle.rv_pairs.proofs.Passing.{apart_from, passing}
use Rattle.rv_pairs.proofs.Undoing.{twos, undoing}
use Rattle.rv_net.proofs.Cyclotomic.{doubled-more, doubled-none}
use Rattle.rv_net.proofs.Networks.{count_t-append}

-- ---- doubling

step-doubled : (o : Op) (m : ℕ) (k : Word → Cyclotomic) (x : Word) → step o (λ v. doubled m (k v)) x ≡ doubled m (step o k x)
unfolding doubled
step-doubled o zero k x = refl
step-doubled o (suc m) k x =
    step-sum o (λ v. doubled m (k v)) (λ v. doubled m (k v)) x ∙ ap₂ plus (step-doubled o m k x) (step-doubled o m k x)

through-doubled : (ops : List Op) (m : ℕ) (k : Word → Cyclotomic) (x : Word) → through ops (λ v. doubled m (k v)) x ≡ doubled m (through ops k x)
unfolding through
through-doubled [] m k x = refl
through-doubled (o ∷ ops) m k x = (λ i. step o (λ v. through-doubled ops m k v i) x) ∙ step-doubled o m (λ v. through ops k v) x

-- ---- an operation moves over those with which it commutes

abbrev EachPasses : Op → List Op → Type 0
EachPasses o [] = Unit {0}
EachPasses o (p ∷ ops) = (commute p o ≡ true) × EachPasses o ops

abbrev EachFits : ℕ → List Op → Type 0
EachFits n [] = Unit {0}
EachFits n (o ∷ ops) = OpFitsIn o n × EachFits n ops

moved : (n : ℕ) (o : Op) (between : List Op) (k : Word → Cyclotomic) (x : Word) → length x ≡ n → EachPasses o between → EachFits n between → OpFitsIn o n
    → through between (λ v. step o k v) x ≡ step o (λ v. through between k v) x
unfolding through
moved n o [] k x e pass fits fit = refl
moved n o (p ∷ between) k x e pass fits fit =
    step-local p (λ v. through between (λ w. step o k w) v) (λ v. step o (λ w. through between k w) v) x
    (λ v g. moved n o between k v (g ∙ e) pass.1 fits.1 fit)
    ∙ passing p o (λ w. through between k w) x pass.0 (subst (OpFitsIn p) (sym e) fits.0) (subst (OpFitsIn o) (sym e) fit)

-- a pair goes
gone : (n : ℕ) (p o : Op) (between : List Op) (k : Word → Cyclotomic) (x : Word) → length x ≡ n → Undoes p o → EachPasses o between → EachFits n between → OpFitsIn o n
    → step p (λ v. through between (λ w. step o k w) v) x ≡ doubled (twos o) (through between k x)
gone n p o between k x e undoes pass fits fit =
    step-local p (λ v. through between (λ w. step o k w) v) (λ v. step o (λ w. through between k w) v) x
    (λ v g. moved n o between k v (g ∙ e) pass fits fit)
    ∙ undoing p o (λ w. through between k w) x undoes (subst (OpFitsIn o) (sym e) fit)

pair_gone : (n : ℕ) (before : List Op) (p : Op) (between : List Op) (o : Op) (k : Word → Cyclotomic) (x : Word) → length x ≡ n → Undoes p o → EachPasses o between
    → EachFits n between → OpFitsIn o n → through (before ++ p ∷ between) (λ v. step o k v) x ≡ doubled (twos o) (through (before ++ between) k x)
unfolding through
pair_gone n before p between o k x e undoes pass fits fit =
    through-append before (p ∷ between) (λ v. step o k v) x
    ∙ through-local before (λ v. through (p ∷ between) (λ w. step o k w) v) (λ v. doubled (twos o) (through between k v)) x
    (λ v g. gone n p o between k v (g ∙ e) undoes pass fits fit)
    ∙ through-doubled before (twos o) (λ v. through between k v) x
    ∙ ap (doubled (twos o)) (sym (through-append before between k x))

-- ---- counts

count_one : (o : Op) (ops : List Op) → count_h (o ∷ ops) ≡ twos o + count_h ops
unfolding count_h
count_one o ops = grind arith

count_none : count_h [] ≡ 0
unfolding count_h
count_none = refl

-- what undoes an operation reads and writes the same lines, and is an H with it
record Alike (p o : Op) : Type 0 where
  reading : reads p ≡ reads o
  writing : writes p ≡ writes o
  doubling : twos p ≡ twos o

itself : (o : Op) → Alike o o
itself o = record { reading = refl; writing = refl; doubling = refl }

turned : (p o : Op) → reads p ≡ reads o → writes p ≡ writes o → twos p ≡ twos o → Alike p o
turned p o r w t = record { reading = r; writing = w; doubling = t }

inverse_alike : (o : Op) → Alike (inverse o) o
inverse_alike (S q) = turned (Sdg q) (S q) refl refl refl
inverse_alike (Sdg q) = turned (S q) (Sdg q) refl refl refl
inverse_alike (T q) = turned (Tdg q) (T q) refl refl refl
inverse_alike (Tdg q) = turned (T q) (Tdg q) refl refl refl
inverse_alike (X q) = itself (X q)
inverse_alike (Y q) = itself (Y q)
inverse_alike (Z q) = itself (Z q)
inverse_alike (H q) = itself (H q)
inverse_alike (Cx a b) = itself (Cx a b)
inverse_alike (Cz a b) = itself (Cz a b)
inverse_alike (Ccx a b c) = itself (Ccx a b c)
inverse_alike (Swap a b) = itself (Swap a b)
inverse_alike (Cswap c a b) = itself (Cswap c a b)

mirrored_alike : (o : Op) → Alike (mirrored o) o
mirrored_alike (Cz a b) = turned (Cz b a) (Cz a b) (or_comm (2 ^ b) (2 ^ a)) refl refl
mirrored_alike (Ccx a b c) = turned (Ccx b a c) (Ccx a b c) (or_comm (2 ^ b) (2 ^ a)) refl refl
mirrored_alike (Swap a b) = turned (Swap b a) (Swap a b) (or_comm (2 ^ b) (2 ^ a)) (or_comm (2 ^ b) (2 ^ a)) refl
mirrored_alike (Cswap c a b) =
    turned (Cswap c b a) (Cswap c a b) (ap (λ s. bit_or s (2 ^ c)) (or_comm (2 ^ b) (2 ^ a))) (or_comm (2 ^ b) (2 ^ a)) refl
mirrored_alike (X q) = itself (X q)
mirrored_alike (Y q) = itself (Y q)
mirrored_alike (Z q) = itself (Z q)
mirrored_alike (H q) = itself (H q)
mirrored_alike (S q) = itself (S q)
mirrored_alike (Sdg q) = itself (Sdg q)
mirrored_alike (T q) = itself (T q)
mirrored_alike (Tdg q) = itself (Tdg q)
mirrored_alike (Cx a b) = itself (Cx a b)

alike : (p o : Op) → Undoes p o → Alike p o
alike p o (inl e) = subst (λ (a : Op). Alike a o) (sym e) (inverse_alike o)
alike p o (inr e) =
    let first = mirrored_alike (inverse o) in
    let second = inverse_alike o in
    subst (λ (a : Op). Alike a o) (sym e)
    (turned (mirrored (inverse o)) o (first.reading ∙ second.reading) (first.writing ∙ second.writing) (first.doubling ∙ second.doubling))

-- ---- gaps

present-append : (a b : Cells) → present (a ++ b) ≡ present a ++ present b
unfolding present
present-append [] b = refl
present-append (None ∷ a) b = present-append a b
present-append (Some o ∷ a) b = ap (λ l. o ∷ l) (present-append a b)

present_one : (o : Op) → present (Some o ∷ []) ≡ o ∷ []
unfolding present
present_one o = refl

present_some : (o : Op) (cells : Cells) → present (Some o ∷ cells) ≡ o ∷ present cells
unfolding present
present_some o cells = refl

present_gap : (cells : Cells) → present (None ∷ cells) ≡ present cells
unfolding present
present_gap cells = refl

pub present_none : present [] ≡ []
unfolding present
present_none = refl

pub present_more : (cells : Cells) (k : ℕ) (d : Option Op) (o : Op) → k < length cells → get_or cells k d ≡ Some o → present (take (k + 1) cells) ≡ present (take k cells) ++ o ∷ []
present_more cells k d o lt e = grind (arith, common_steps, take_more, present-append, present_one)

pub present_same : (cells : Cells) (k : ℕ) (d : Option Op) → k < length cells → get_or cells k d ≡ None → present (take (k + 1) cells) ≡ present (take k cells)
present_same cells k d lt e =
    grind (arith, common_steps, take_more, present-append, present_gap, present_none, append-nil)

slice_get-drop : {A : Type 0} (m i j : ℕ) (l : List A) → j ≡ m + i → slice_get (drop m l) i ≡ slice_get l j
slice_get-drop zero i j l e = ap (slice_get l) (let g : i ≡ j = omega arith in g)
slice_get-drop (suc m) i zero [] e = refl
slice_get-drop (suc m) i (suc j) [] e = refl
slice_get-drop (suc m) i zero (x ∷ l) e = absurd (omega arith)
slice_get-drop (suc m) i (suc j) (x ∷ l) e = slice_get-drop m i j l (omega arith)

split_at : {A : Type 0} (l : List A) (place : ℕ) (x : A) → slice_get l place ≡ Some x → l ≡ take place l ++ x ∷ drop (suc place) l
split_at [] place x e = absurd (none-some _ e)
split_at (y ∷ l) zero x e = ap (λ z. z ∷ l) (let g : y ≡ x = cc in g)
split_at (y ∷ l) (suc place) x e = ap (λ r. y ∷ r) (split_at l place x e)

each_passes : (o : Op) (cells : Cells) → ((i : ℕ) (p : Op) → StandsAt cells i p → commute p o ≡ true) → EachPasses o (present cells)
unfolding present
each_passes o [] h = tt
each_passes o (None ∷ cells) h = each_passes o cells (λ i p at. h (suc i) p at)
each_passes o (Some p ∷ cells) h = (h zero p refl, each_passes o cells (λ i q at. h (suc i) q at))

each_fits_present : (n : ℕ) (cells : Cells) → ((i : ℕ) (p : Op) → StandsAt cells i p → OpFitsIn p n) → EachFits n (present cells)
unfolding present
each_fits_present n [] h = tt
each_fits_present n (None ∷ cells) h = each_fits_present n cells (λ i p at. h (suc i) p at)
each_fits_present n (Some p ∷ cells) h = (h zero p refl, each_fits_present n cells (λ i q at. h (suc i) q at))

pub all_fit : (n : ℕ) (cells : Cells) → ((i : ℕ) (p : Op) → StandsAt cells i p → OpFitsIn p n) → All (λ o. OpFitsIn o n) (present cells)
unfolding present
all_fit n [] h = All-nil (λ o. OpFitsIn o n)
all_fit n (None ∷ cells) h = all_fit n cells (λ i p at. h (suc i) p at)
all_fit n (Some p ∷ cells) h = All-cons (λ o. OpFitsIn o n) p (present cells) (h zero p refl) (all_fit n cells (λ i q at. h (suc i) q at))

-- ---- no pair is left among operations with gaps

abbrev pub NoPair : Cells → Type 0
NoPair cells =
    (i j : ℕ) (p o : Op) → i < j → StandsAt cells i p → StandsAt cells j o → Undoes p o
    → ((k : ℕ) (q : Op) → i < k → k < j → StandsAt cells k q → commute q o ≡ true) → ⊥

no_pair_more : (cells : Cells) (o : Op) → NoPair cells → HasNoPartner cells o → NoPair (cells ++ Some o ∷ [])
no_pair_more cells o settled none i j p later order at there undoes between =
    let within = slice_get_within (cells ++ Some o ∷ []) j _ there in
    let long = length_push cells (Some o) in
    elim (cases_order j (length cells)) [
      | inr other ↦
          (elim other [
            | inl below ↦
                settled i j p later order (stands_left cells (Some o) i p (omega arith) at) (stands_left cells (Some o) j later below there) undoes
                (λ k q from to stands. between k q from to (slice_get-left cells (Some o ∷ []) k (omega arith) ∙ stands))
            | inr above ↦ absurd (omega arith)
          ])
      | inl last ↦
          (let is : later ≡ o = same_Some _ _ (same_Some _ _ (sym (subst (λ n. StandsAt (cells ++ Some o ∷ []) n later) last there) ∙ slice_get-last cells (Some o))) in
          none i (record {
            partner = p;
            there = stands_left cells (Some o) i p (omega arith) at;
            undoes = subst (Undoes p) is undoes;
            passes = λ k q from stands.
                let lt = slice_get_within cells k _ stands in
                subst (λ (l : Op). IsTrue (commute q l)) is (between k q from (omega arith) (slice_get-left cells (Some o ∷ []) k lt ∙ stands));
          }))
    ]

-- what commutes with an operation does so with one that it undoes
commute_turned : (r p o : Op) → Undoes p o → commute r o ≡ true → commute p r ≡ true
commute_turned r p o undoes h =
    let apart = apart_from r o h in
    commute_from p r (λ l on. ap (λ s. has s l) (alike p o undoes).reading ∙ apart.unread l on) (λ l on. ap (λ s. has s l) (alike p o undoes).writing ∙ apart.unwritten l on)

stands_still : (cells : Cells) (j k : ℕ) (o : Op) → StandsAt cells k o → k ≢ j → StandsAt (set cells j None) k o
stands_still [] j k o h apart = h
stands_still (c ∷ cells) zero zero o h apart = absurd (apart refl)
stands_still (c ∷ cells) zero (suc k) o h apart = h
stands_still (c ∷ cells) (suc j) zero o h apart = h
stands_still (c ∷ cells) (suc j) (suc k) o h apart = stands_still cells j k o h (λ e. apart (ap suc e))

no_pair_less : (cells : Cells) (o : Op) (place : ℕ) → NoPair cells → IsPartner cells o place → NoPair (set cells place None)
no_pair_less cells o place settled is i j p later order at there undoes between =
    let later_there = stood_before cells place j later there in
    settled i j p later order (stood_before cells place i p at).0 later_there.0 undoes
    (λ k q from to stands. elim (cases_eq k place) [
      | inl here ↦
          (let same : q ≡ is.partner = same_Some _ _ (same_Some _ _ (sym (subst (λ n. StandsAt cells n q) here stands) ∙ is.there)) in
          subst (λ (a : Op). commute a later ≡ true) (sym same) (commute_turned later is.partner o is.undoes (is.passes j later (omega arith) later_there.0)))
      | inr other ↦ between k q from to (stands_still cells place k q stands other)
    ])

-- ---- the operations so far, and what is made of them

count_three-append : (a b : List Op) → count_by has_three_lines (a ++ b) ≡ count_by has_three_lines a + count_by has_three_lines b
count_three-append a b = sum_by-append (λ o. cond (has_three_lines o) 1 0) a b

pub record Goes (n : ℕ) (ops : List Op) (cells : Cells) : Type 0 where
  pub pairs : ℕ
  pub same : (k : Word → Cyclotomic) (x : Word) → length x ≡ n → through ops k x ≡ doubled pairs (through (present cells) k x)
  pub hadamards : count_h ops ≡ count_h (present cells) + 2 * pairs
  pub operations : length (present cells) ≤ length ops
  pub t_gates : count_by is_t (present cells) ≤ count_by is_t ops
  pub three_lines : count_by has_three_lines (present cells) ≤ count_by has_three_lines ops
  pub settled : NoPair cells

pub goes_start : (n : ℕ) → Goes n [] []
unfolding present
goes_start n = record {
  pairs = 0;
  same = λ k x e. sym (doubled-none (through [] k x));
  hadamards = omega (arith, count_none);
  operations = omega arith;
  t_gates = omega arith;
  three_lines = omega arith;
  settled = λ i j p o order at there undoes between. none-some _ at;
}

through-push : (ops : List Op) (o : Op) (k : Word → Cyclotomic) (x : Word) → through (ops ++ o ∷ []) k x ≡ through ops (λ v. step o k v) x
through-push ops o k x = through-append ops (o ∷ []) k x ∙ (λ i. through ops (λ v. through-one o k v i) x)

goes_on : (n : ℕ) (ops : List Op) (cells : Cells) (o : Op) → Goes n ops cells → HasNoPartner cells o → Goes n (ops ++ o ∷ []) (cells ++ Some o ∷ [])
goes_on n ops cells o goes none =
    let fewer = goes.operations in
    let ts = goes.t_gates in
    let hs = goes.hadamards in
    let made = present cells in
    let now : present (cells ++ Some o ∷ []) ≡ made ++ o ∷ [] = present-append cells (Some o ∷ []) ∙ ap (λ l. made ++ l) (present_one o) in
    record {
      pairs = goes.pairs;
      same = λ k x e.
          through-push ops o k x ∙ goes.same (λ v. step o k v) x e
          ∙ ap (doubled goes.pairs) (sym (through-push made o k x) ∙ ap (λ l. through l k x) (sym now));
      hadamards = omega (arith, count_h-append ops (o ∷ []), count_h-append made (o ∷ []), ap count_h now);
      operations = omega (arith, length-append ops (o ∷ []), length-append made (o ∷ []), ap length now);
      t_gates = omega (arith, count_t-append ops (o ∷ []), count_t-append made (o ∷ []), ap (count_by is_t) now);
      three_lines =
          omega (arith, count_three-append ops (o ∷ []), count_three-append made (o ∷ []), ap (count_by has_three_lines) now, goes.three_lines);
      settled = no_pair_more cells o goes.settled none;
    }

goes_off : (n : ℕ) (ops : List Op) (cells : Cells) (o : Op) (place : ℕ) → Goes n ops cells → ((i : ℕ) (p : Op) → StandsAt cells i p → OpFitsIn p n) → OpFitsIn o n → IsPartner cells o place
    → Goes n (ops ++ o ∷ []) (set cells place None)
goes_off n ops cells o place goes fitting fit is =
    let p = is.partner in
    let first : Cells = take place cells in
    let last : Cells = drop (suc place) cells in
    let before = present first in
    let between = present last in
    let within = slice_get_within cells place _ is.there in
    let split : present cells ≡ before ++ p ∷ between =
    ap present (split_at cells place (Some p) is.there) ∙ present-append first (Some p ∷ last) ∙ ap (λ l. before ++ l) (present_some p last) in
    let now : present (set cells place None) ≡ before ++ between =
    ap present (set_split cells place None within) ∙ present-append first (None ∷ last) ∙ ap (λ l. before ++ l) (present_gap last) in
    let fewer = goes.operations in
    let ts = goes.t_gates in
    let hs = goes.hadamards in
    let count : length (present cells) ≡ length before + length (p ∷ between) = ap length split ∙ length-append before (p ∷ between) in
    let left : length (present (set cells place None)) ≡ length before + length between = ap length now ∙ length-append before between in
    let pass : EachPasses o between =
    each_passes o last (λ i q at. is.passes (suc place + i) q (omega arith) (sym (slice_get-drop (suc place) i (suc place + i) cells refl) ∙ at)) in
    let fits : EachFits n between = each_fits_present n last (λ i q at. fitting (suc place + i) q (sym (slice_get-drop (suc place) i (suc place + i) cells refl) ∙ at)) in
    record {
      pairs = goes.pairs + twos o;
      same = λ k x e.
          through-push ops o k x
          ∙ goes.same (λ v. step o k v) x e
          ∙ ap (doubled goes.pairs) (ap (λ l. through l (λ v. step o k v) x) split ∙ pair_gone n before p between o k x e is.undoes pass fits fit)
          ∙ doubled-more goes.pairs (twos o) (through (before ++ between) k x)
          ∙ ap (λ l. doubled (goes.pairs + twos o) (through l k x)) (sym now);
      hadamards =
          omega (
            arith,
            count_h-append ops (o ∷ []),
            count_one o [],
            count_none,
            ap count_h split,
            count_h-append before (p ∷ between),
            count_one p between,
            (alike p o is.undoes).doubling,
            count_h-append before between,
            ap count_h now,
          );
      operations = omega (arith, length-append ops (o ∷ []));
      t_gates =
          omega (
            arith,
            count_t-append ops (o ∷ []),
            ap (count_by is_t) split,
            count_t-append before (p ∷ between),
            count_t-append before between,
            count_t-append (p ∷ []) between,
            ap (count_by is_t) now,
          );
      three_lines =
          omega (
            arith,
            goes.three_lines,
            count_three-append ops (o ∷ []),
            ap (count_by has_three_lines) split,
            count_three-append before (p ∷ between),
            count_three-append before between,
            count_three-append (p ∷ []) between,
            ap (count_by has_three_lines) now,
          );
      settled = no_pair_less cells o place goes.settled is;
    }

pub goes_next : (n : ℕ) (ops : List Op) (cells next : Cells) (o : Op) → Goes n ops cells → ((i : ℕ) (p : Op) → StandsAt cells i p → OpFitsIn p n) → OpFitsIn o n → IsNext cells o next
    → Goes n (ops ++ o ∷ []) next
goes_next n ops cells next o goes fitting fit (inl on) = subst (Goes n (ops ++ o ∷ [])) (sym on.1) (goes_on n ops cells o goes on.0)
goes_next n ops cells next o goes fitting fit (inr off) = subst (Goes n (ops ++ o ∷ [])) (sym off.2) (goes_off n ops cells o off.0 goes fitting fit off.1)

-- ---- a pair of the operations is one among the gaps

pub record Splits (cells : Cells) (front : List Op) (o : Op) (back : List Op) : Type 0 where
  pub first : Cells
  pub last : Cells
  pub is : cells ≡ first ++ Some o ∷ last
  pub before : present first ≡ front
  pub after : present last ≡ back

splits : (cells : Cells) (before : List Op) (o : Op) (after : List Op) → present cells ≡ before ++ o ∷ after → Splits cells before o after
unfolding present
splits [] [] o after e = absurd (let f : ⊥ = cc in f)
splits [] (p ∷ before) o after e = absurd (let f : ⊥ = cc in f)
splits (None ∷ cells) before o after e =
    let rest = splits cells before o after e in
    record { first = None ∷ rest.first; last = rest.last; is = ap (λ l. None ∷ l) rest.is; before = rest.before; after = rest.after }
splits (Some p ∷ cells) [] o after e =
    let same : p ≡ o = cc in
    let more : present cells ≡ after = cc in
    record { first = []; last = cells; is = ap (λ (a : Op). Some a ∷ cells) same; before = refl; after = more }
splits (Some p ∷ cells) (q ∷ before) o after e =
    let same : p ≡ q = cc in
    let more : present cells ≡ before ++ o ∷ after = cc in
    let rest = splits cells before o after more in
    record { first = Some p ∷ rest.first; last = rest.last; is = ap (λ l. Some p ∷ l) rest.is; before = ap₂ (λ a l. a ∷ l) same rest.before; after = rest.after }

slice_get-mid : {A : Type 0} (a : List A) (x : A) (b : List A) → slice_get (a ++ x ∷ b) (length a) ≡ Some x
slice_get-mid [] x b = refl
slice_get-mid (y ∷ a) x b = slice_get-mid a x b

slice_get-after : {A : Type 0} (a : List A) (x : A) (b : List A) (k m : ℕ) → k ≡ length a + suc m → slice_get (a ++ x ∷ b) k ≡ slice_get b m
slice_get-after [] x b zero m e = absurd (omega arith)
slice_get-after [] x b (suc k) m e = ap (slice_get b) (let g : k ≡ m = omega arith in g)
slice_get-after (y ∷ a) x b zero m e = absurd (omega arith)
slice_get-after (y ∷ a) x b (suc k) m e = slice_get-after a x b k m (omega arith)

passes_at : (o : Op) (cells : Cells) → All (λ p. IsTrue (commute p o)) (present cells) → (k : ℕ) (p : Op) → StandsAt cells k p → commute p o ≡ true
unfolding present
passes_at o [] all k p at = absurd (none-some _ at)
passes_at o (None ∷ cells) all zero p at = absurd (none-some _ (same_Some _ _ at))
passes_at o (None ∷ cells) all (suc k) p at = passes_at o cells all k p at
passes_at o (Some q ∷ cells) all zero p at =
    subst (λ (a : Op). commute a o ≡ true) (same_Some _ _ (same_Some _ _ at)) (All-head (λ a. IsTrue (commute a o)) q (present cells) all)
passes_at o (Some q ∷ cells) all (suc k) p at = passes_at o cells (All-tail (λ a. IsTrue (commute a o)) q (present cells) all) k p at

no_pair : (cells : Cells) → NoPair cells → IsPair (present cells) → ⊥
no_pair cells settled pair =
    let one = splits cells pair.before pair.earlier (pair.between ++ pair.later ∷ pair.after) pair.is in
    let two = splits one.last pair.between pair.later pair.after one.after in
    let i : ℕ = length one.first in
    let j : ℕ = length one.first + suc (length two.first) in
    let rest : Cells = two.first ++ Some pair.later ∷ two.last in
    let all : Cells = one.first ++ Some pair.earlier ∷ rest in
    let is : cells ≡ all = one.is ∙ ap (λ (l : Cells). one.first ++ Some pair.earlier ∷ l) two.is in
    subst NoPair is settled i j pair.earlier pair.later (omega arith) (slice_get-mid one.first (Some pair.earlier) rest)
    (slice_get-after one.first (Some pair.earlier) rest j (length two.first) refl ∙ slice_get-mid two.first (Some pair.later) two.last) pair.undoes
    (λ k q from to at.
    let m : ℕ = k - suc i in
    let here : k ≡ length one.first + suc m = omega arith in
    passes_at pair.later two.first (subst (All (λ p. IsTrue (commute p pair.later))) (sym two.before) pair.commuting) m q
    (sym (slice_get-left two.first (Some pair.later ∷ two.last) m (omega arith)) ∙ sym (slice_get-after one.first (Some pair.earlier) rest k m here) ∙ at))

-- ---- the law

pub cancelling_of : (net result : Network) (cells : Cells) → IsNetwork net → result.lines ≡ net.lines → result.ops ≡ present cells → Goes net.lines net.ops cells
    → ((i : ℕ) (p : Op) → StandsAt cells i p → OpFitsIn p net.lines) → IsCancellingOf net result
cancelling_of net result cells valid lines ops goes fitting = record {
  keeps = record {
    pairs = goes.pairs;
    lines = lines;
    valid = record {
      some = omega (arith, valid.some, lines);
      few = omega (arith, valid.few, lines);
      bounded = omega (arith, valid.bounded, goes.operations, ap length ops);
      fitting = subst (λ n. All (λ o. OpFitsIn o n) result.ops) (sym lines) (subst (λ l. All (λ o. OpFitsIn o net.lines) l) (sym ops) (all_fit net.lines cells fitting));
    };
    amplitudes = λ x y e.
        sym (same_amp net.ops x y) ∙ amp-through net.ops x y ∙ goes.same (λ v. delta v y) x e
        ∙ ap (doubled goes.pairs) (ap (λ l. through l (λ v. delta v y) x) (sym ops) ∙ sym (amp-through result.ops x y) ∙ same_amp result.ops x y);
    hadamards = omega (arith, goes.hadamards, ap count_h ops);
    operations = omega (arith, goes.operations, ap length ops);
    t_gates = omega (arith, goes.t_gates, ap (count_by is_t) ops);
    three_lines = omega (arith, goes.three_lines, ap (count_by has_three_lines) ops);
  };
  settled = λ pair. no_pair cells goes.settled (subst IsPair ops pair);
}

-- the operations so far are no more than have come
pub short_next : (cells next : Cells) (o : Op) → IsNext cells o next → length next ≤ length cells + 1
short_next cells next o (inl on) = omega (arith, ap length on.1, length_push cells (Some o))
short_next cells next o (inr off) = omega (arith, ap length off.2, length-set cells off.0 None)

-- ---- the table

amp_two : (p o : Op) (rest : List Op) (x y : Word) → amp (p ∷ o ∷ rest) x y ≡ step p (λ v. step o (λ w. amp rest w y) v) x
unfolding amp
amp_two p o rest x y = refl

pub table : (n : ℕ) → IsTable n
table n = record {
  commuting = λ p o rest x y h fp fo e.
      sym (same_amp (p ∷ o ∷ rest) x y)
      ∙ amp_two p o rest x y
      ∙ passing p o (λ v. amp rest v y) x h (subst (OpFitsIn p) (sym e) fp) (subst (OpFitsIn o) (sym e) fo)
      ∙ sym (amp_two o p rest x y)
      ∙ same_amp (o ∷ p ∷ rest) x y;
  undoing = λ p o rest x y h fo e.
      sym (same_amp (p ∷ o ∷ rest) x y)
      ∙ amp_two p o rest x y
      ∙ undoing p o (λ v. amp rest v y) x h (subst (OpFitsIn o) (sym e) fo)
      ∙ ap (doubled (twos o)) (same_amp rest x y)
      ∙ ap (λ k. doubled k (amplitude rest x y)) (let one : twos o ≡ count_h (o ∷ []) = omega (arith, count_one o [], count_none) in one);
}

-- ---- the operations that stand, up to a place

pub present_within : (cells : Cells) (k : ℕ) → length (present (take k cells)) ≤ length (present cells)
present_within cells k =
    omega (arith, ap (λ (l : Cells). length (present l)) (take-append-drop k cells), ap length (present-append (take k cells) (drop k cells)), length-append (present (take k cells)) (present (drop k cells)))
