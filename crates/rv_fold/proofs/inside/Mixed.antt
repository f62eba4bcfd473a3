-- The lines whose parities aren't alone, and what a restart reaches through them.
use Rattle.rv_gate.proofs.Bits.{and_true, same_bool}
use Rattle.std.proofs.Common.{◌≡◌, ℕ, ◌+◌, ◌-◌, ◌*◌, ◌%◌, ◌^◌, ◌<◌, Bool, true, false, cond, not, ◌&&◌, eqb, refl, sym, ap, ◌∙◌, arith, inl, inr, eq-eqb, ne_eqb, w64}
use Rattle.std.specs.Prelude.{bit_and, bit_or}
use Rattle.std.specs.Int.{bit_not}
use Rattle.std.proofs.lemmas.Bool.{cases_eq, cases_lt, eqb-true, and_parts, not-true, or_cases, or_left, or_parts, or_right}
use Rattle.std.proofs.lemmas.Nat.{and_le_l, le_or_l}
use Rattle.std.proofs.lemmas.Nat.Bits.{bit_at_not}
use Rattle.rv_gate.specs.Word.{has}
use Rattle.rv_gate.proofs.LineSets.{has-none, has-and, has-or_one_shl, has-above, has-line, has_not, has_one, same_lines, below-Within, Within-below}
use Rattle.rv_gate.proofs.LowestLine.{IsLowest, still_there}
use Rattle.rv_fold.specs.Parities.{Parity, Parities, alone, are_apart, restart_set, restarted, with_parity, IsClosed}
use Rattle.rv_fold.specs.inside.Mixed.{AreMixed}
use Rattle.rv_fold.proofs.Restarts.{Within, apart-within, restarts_least, true-false}

-- ---- sets

-- the lines of one set that another lacks
abbrev pub less : ℕ → ℕ → ℕ
less a b = bit_and a (bit_not w64 b)

less_on : (a b line : ℕ) → has (less a b) line ≡ true → has a line ≡ true
less_on a b line on = grind (arith, bit_not, has-and)

has-complement : (b line : ℕ) (q : Bool) → b < 2 ^ 64 → line < 64 → has b line ≡ q → has (bit_not w64 b) line ≡ not q
has-complement b line true small lt on = ne_eqb _ 1 (λ e. let n = bit_at_not w64 b line small lt in let o = has_one b line on in omega arith)
has-complement b line false small lt off = eq-eqb _ 1 (let n = bit_at_not w64 b line small lt in let o = has_not b line off in omega arith)

has-less : (a b line : ℕ) → a < 2 ^ 64 → b < 2 ^ 64 → has (less a b) line ≡ (has a line && not (has b line))
has-less a b line sa sb =
    has-and a (bit_not w64 b) line
    ∙ (elim (cases_lt line 64) [
      | inl lt ↦ ap (λ t. has a line && t) (has-complement b line (has b line) sb lt refl)
      | inr above ↦ rw (has-above a 64 line sa above) refl
    ])

less_off : (a b line : ℕ) → a < 2 ^ 64 → b < 2 ^ 64 → has (less a b) line ≡ true → has b line ≡ false
less_off a b line sa sb on = not-true _ (and_parts _ _ (sym (has-less a b line sa sb) ∙ on)).1

less_neither : (a b line : ℕ) → a < 2 ^ 64 → b < 2 ^ 64 → has b line ≡ false → has (less a b) line ≡ false → has a line ≡ false
less_neither a b line sa sb out off = sym (and_true (has a line)) ∙ ap (λ t. has a line && not t) (sym out) ∙ sym (has-less a b line sa sb) ∙ off

abbrev pub with_one : ℕ → ℕ → ℕ
with_one set line = bit_or set (1 * 2 ^ line % 2 ^ 64)

-- ---- which lines are mixed

pub mixed_none : (n : ℕ) → AreMixed n alone 0
mixed_none n = record { within = λ line on. absurd (true-false _ on (has-none line)); alone = λ line off. refl }

module _ (n : ℕ) (parities : Parities) (mixed : ℕ) (are : AreMixed n parities mixed) where
  pub mixed_more : (changed : ℕ) (parity : Parity) → changed < n → changed < 64 → AreMixed n (with_parity parities changed parity) (with_one mixed changed)
  mixed_more changed parity within small = record {
    within = λ line on. elim (or_cases _ _ (sym (has-or_one_shl mixed changed line small) ∙ on)) [
      | inl before ↦ are.within line before
      | inr here ↦ (let same : line ≡ changed = eqb-true _ _ here in omega arith)
    ];
    alone = λ line off. let out = or_parts _ _ (sym (has-or_one_shl mixed changed line small) ∙ off) in
        ap (λ b. (cond b parity (parities line)).lines) out.1 ∙ are.alone line out.0;
  }

  pub mixed_restarted : (set : ℕ) → mixed < 2 ^ 64 → set < 2 ^ 64 → AreMixed n (restarted set parities) (less mixed set)
  mixed_restarted set small fits = record {
    within = λ line on. are.within line (less_on mixed set line on);
    alone = λ line off. at line off (has set line) refl;
  }
    where
      at : (line : ℕ) → has (less mixed set) line ≡ false → (q : Bool) → has set line ≡ q → (cond q (alone line) (parities line)).lines ≡ 2 ^ line
      at line off true e = refl
      at line off false e = are.alone line (less_neither mixed set line small fits e off)

-- ---- what is reached

alone_apart : (set line : ℕ) → has set line ≡ false → are_apart (2 ^ line) set ≡ true
alone_apart set line off = eq-eqb _ 0 (same_lines (bit_and (2 ^ line) set) 0 (λ l. has-and (2 ^ line) set l ∙ ap (λ t. t && has set l) (has-line line l) ∙ go l (eqb l line) refl ∙ sym (has-none l)))
  where
    go : (l : ℕ) (q : Bool) → eqb l line ≡ q → (q && has set l) ≡ false
    go l true e = ap (has set) (eqb-true _ _ e) ∙ off
    go l false e = refl

module _ (n : ℕ) (parities : Parities) (mixed first : ℕ) where
  -- the set is reached, and is closed but for what is left to look at
  pub record Reaches (set left : ℕ) : Type 0 where
    pub grows : Within first set
    pub least : (other : ℕ) → IsClosed n parities first other → Within set other
    pub apart : (line : ℕ) → line < n → has set line ≡ false → has left line ≡ false → are_apart (parities line).lines set ≡ true
    pub among : (line : ℕ) → has left line ≡ true → has mixed line ≡ true
    pub outside : (line : ℕ) → has left line ≡ true → has set line ≡ false

  module _ (are : AreMixed n parities mixed) (small : mixed < 2 ^ 64) where
    -- what is looked at anew
    unmixed_apart : (set : ℕ) → set < 2 ^ 64 → (line : ℕ) → has set line ≡ false → has (less mixed set) line ≡ false → are_apart (parities line).lines set ≡ true
    unmixed_apart set fits line out off =
        ap (λ s. are_apart s set) (are.alone line (less_neither mixed set line small fits out off)) ∙ alone_apart set line out

    pub reaches_first : first < 2 ^ 64 → Reaches first (less mixed first)
    reaches_first fits = record {
      grows = λ line on. on;
      least = λ other is line on. is.holds line on;
      apart = λ line lt out off. unmixed_apart first fits line out off;
      among = λ line on. less_on mixed first line on;
      outside = λ line on. less_off mixed first line small fits on;
    }

    pub reaches_more : (set left line : ℕ) → Reaches set left → has left line ≡ true → line < 64 → are_apart (parities line).lines set ≡ false → with_one set line < 2 ^ 64 → Reaches (with_one set line) (less mixed (with_one set line))
    reaches_more set left line before there lt meets fits = record {
      grows = λ l on. has-or_one_shl set line l lt ∙ or_left _ _ (before.grows l on);
      least = λ other is l on. elim (or_cases _ _ (sym (has-or_one_shl set line l lt) ∙ on)) [
        | inl old ↦ before.least other is l old
        | inr here ↦ ap (has other) (eqb-true _ _ here) ∙ is.closed line (are.within line (before.among line there)) (joins other is (are_apart (parities line).lines other) refl)
      ];
      apart = λ l within out off. unmixed_apart (with_one set line) fits l out off;
      among = λ l on. less_on mixed (with_one set line) l on;
      outside = λ l on. less_off mixed (with_one set line) l small fits on;
    }
      where
        joins : (other : ℕ) → IsClosed n parities first other → (q : Bool) → are_apart (parities line).lines other ≡ q → q ≡ false
        joins other is false e = refl
        joins other is true e = absurd (true-false _ (apart-within (parities line).lines set other (before.least other is) e) meets)

  pub reaches_past : (set left line rest : ℕ) → left < 2 ^ 64 → Reaches set left → IsLowest left line rest → are_apart (parities line).lines set ≡ true → Reaches set rest
  reaches_past set left line rest small before lowest apart = record {
    grows = before.grows;
    least = before.least;
    apart = λ l within out off. elim (cases_eq l line) [
      | inl here ↦ ap (λ k. are_apart (parities k).lines set) here ∙ apart
      | inr other ↦ before.apart l within out (elim (cases_lt l 64) [ inl lt ↦ sym (lowest.same l lt other) ∙ off | inr above ↦ has-above left 64 l small above ])
    ];
    among = λ l on. before.among l (stays l on);
    outside = λ l on. before.outside l (stays l on);
  }
    where
      rest_small : rest < 2 ^ 64
      rest_small = let f = lowest.fewer in omega arith

      stays : (l : ℕ) → has rest l ≡ true → has left l ≡ true
      stays l on = elim (cases_lt l 64) [
        | inl lt ↦ still_there left line rest lowest l lt on
        | inr above ↦ absurd (true-false _ on (has-above rest 64 l rest_small above))
      ]

  pub reaches_all : (set : ℕ) → Reaches set 0 → set ≡ restart_set n parities first
  reaches_all set all =
      let least = restarts_least n parities first in
      same_lines set (restart_set n parities first) (λ line. same_bool _ _ (all.least (restart_set n parities first) least.itself line) (least.least set closed line))
    where
      closed : IsClosed n parities first set
      closed = record {
        holds = all.grows;
        closed = λ line lt meets. at line lt meets (has set line) refl;
      }
        where
          at : (line : ℕ) → line < n → are_apart (parities line).lines set ≡ false → (q : Bool) → has set line ≡ q → q ≡ true
          at line lt meets true e = refl
          at line lt meets false e = absurd (true-false _ (all.apart line lt e (has-none line)) meets)

-- ---- the set grows

pub more_lines : (set line : ℕ) → line < 64 → has set line ≡ false → set < with_one set line
more_lines set line lt out = elim (cases_eq (with_one set line) set) [
  | inl same ↦ absurd (true-false _ (sym (ap (λ s. has s line) same) ∙ has-or_one_shl set line line lt ∙ or_right (has set line) _ (eq-eqb line line refl)) out)
  | inr other ↦ (let le = le_or_l set (1 * 2 ^ line % 2 ^ 64) in omega arith)
]

pub less_below : (a b : ℕ) → a < 2 ^ 64 → less a b < 2 ^ 64
less_below a b small = let le = and_le_l a (bit_not w64 b) in omega arith

pub with_one_below : (set line : ℕ) → line < 64 → set < 2 ^ 64 → with_one set line < 2 ^ 64
with_one_below set line lt small =
    below-Within (with_one set line) 64
    (λ l on. elim (or_cases _ _ (sym (has-or_one_shl set line l lt) ∙ on)) [ inl old ↦ Within-below set 64 small l old | inr here ↦ let same : l ≡ line = eqb-true _ _ here in omega arith ])

-- what the walk has to look at: the lines outside of the set, and what is left
pub fewer_left : (set left rest : ℕ) → rest < left → (2 ^ 64 - set) * 2 ^ 64 + rest < (2 ^ 64 - set) * 2 ^ 64 + left
fewer_left set left rest lt = omega arith

pub fewer_outside : (set more left rest : ℕ) → set < more → more < 2 ^ 64 → rest < 2 ^ 64 → (2 ^ 64 - more) * 2 ^ 64 + rest < (2 ^ 64 - set) * 2 ^ 64 + left
fewer_outside set more left rest grows small fits = omega arith
