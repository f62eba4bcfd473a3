-- Limits that are kept, and the first that is not.
use Rattle.std.proofs.Common.{◌≡◌, ◌<◌, ◌≤◌, ◌↔◌, ℕ, Bool, true, false, List, [], ◌∷◌, ◌++◌, nat_lt, if◌then◌else◌, Option, Some, None, Result, Ok, Err, IsOk, is_ok, refl, ap, ◌∙◌, inl, inr}
use Rattle.std.specs.Option.{option_or}
use Rattle.std.specs.Prelude.{option_map}
use Rattle.std.proofs.lemmas.Bool.{cases_lt, le-ltb, lt-ltb, ltb-false}
use Rattle.rv_faults.specs.declared.fault.InputFault.{InputFault}
use Rattle.rv_faults.specs.declared.fault.Refusal.{Refusal}
use Rattle.rv_faults.specs.declared.fault.Refusal.TheVariants.{Refused, OutOfMemory}
use Rattle.rv_cmd.specs.Limits.{AreKept, IsKept, Limit, LimitedText, Report, at_most, first_refused, no_fault, refused_by, report_unless, within}
use Rattle.rv_cmd.specs.inside.Products.{IsRefusalOf}
use Rattle.rv_gate.proofs.FirstAnswer.{or_none}

-- ---- kept or not

kept-none : (limit : Limit) → IsKept limit → refused_by limit ≡ None
kept-none (at_most input count most why) kept = ap (λ (test : Bool). if test then Some (Refused input why) else None) (le-ltb most count kept)
kept-none (no_fault input reason) kept = ap (option_map (Refused input)) kept

none-kept : (limit : Limit) → refused_by limit ≡ None → IsKept limit
none-kept (at_most input count most why) none = ltb-false most count (by (nat_lt most count) none)
  where
    by : (test : Bool) → (if test then Some (Refused input why) else None) ≡ None → test ≡ false
    by true none = absurd (let z = none in cc)
    by false none = refl
none-kept (no_fault input None) none = refl
none-kept (no_fault input (Some why)) none = absurd (let z = none in cc)

pub all-kept : (limits : List Limit) → AreKept limits → first_refused limits ≡ None
all-kept [] kept = refl
all-kept (limit ∷ rest) kept = ap (λ first. option_or first (first_refused rest)) (kept-none limit kept.0) ∙ all-kept rest kept.1

pub are-kept : (limits : List Limit) → first_refused limits ≡ None → AreKept limits
are-kept [] none = tt
are-kept (limit ∷ rest) none =
    let both = or_none (refused_by limit) (first_refused rest) none in (none-kept limit both.0, are-kept rest both.1)

-- ---- a text within limits

-- with what it says of the inputs
abbrev told : LimitedText → Bool → Report
told limited differs = record { text = limited.text; differs = differs }

pub within-kept : (limited : LimitedText) (differs : Bool) → AreKept limited.limits → within limited differs ≡ Ok (told limited differs)
within-kept limited differs kept = ap (λ refused. report_unless refused (told limited differs)) (all-kept limited.limits kept)

pub within-refused : (limited : LimitedText) (differs : Bool) (refused : Refusal) → first_refused limited.limits ≡ Some refused
    → within limited differs ≡ Err refused
within-refused limited differs refused is = ap (λ it. report_unless it (told limited differs)) is

pub within-exact : (limited : LimitedText) (differs : Bool) → IsOk (within limited differs) ↔ AreKept limited.limits
within-exact limited differs = (
  λ ok. are-kept limited.limits (none (first_refused limited.limits) ok),
  λ kept. ap is_ok (within-kept limited differs kept),
)
  where
    none : (refused : Option Refusal) → IsOk (report_unless refused (told limited differs)) → refused ≡ None
    none None ok = refl
    none (Some refused) ok = absurd (let z = ok in cc)

-- ---- the first that is not kept

-- a count is more than it may be
pub refused-first : (input count most : ℕ) (reason why : InputFault) (rest : List Limit) → reason ≡ why → most < count
    → first_refused (at_most input count most reason ∷ rest) ≡ Some (Refused input why)
refused-first input count most reason why rest is over =
    ap (λ (test : Bool). option_or (if test then Some (Refused input reason) else None) (first_refused rest)) (lt-ltb most count over)
    ∙ ap (λ it. Some (Refused input it)) is

-- what comes after limits that are kept
pub refused-after : (first more : List Limit) → AreKept first → first_refused (first ++ more) ≡ first_refused more
refused-after [] more kept = refl
refused-after (limit ∷ rest) more kept = ap (λ it. option_or it (first_refused (rest ++ more))) (kept-none limit kept.0) ∙ refused-after rest more kept.1

refused-before : (first more : List Limit) (refused : Refusal) → first_refused first ≡ Some refused → first_refused (first ++ more) ≡ Some refused
refused-before [] more refused is = absurd (let z = is in cc)
refused-before (limit ∷ rest) more refused is = by (refused-before rest more refused) (refused_by limit) is
  where
    by : (first_refused rest ≡ Some refused → first_refused (rest ++ more) ≡ Some refused) → (it : Option Refusal) → option_or it (first_refused rest) ≡ Some refused
        → option_or it (first_refused (rest ++ more)) ≡ Some refused
    by later None is = later is
    by later (Some x) is = is

pub kept-append : (first more : List Limit) → AreKept first → AreKept more → AreKept (first ++ more)
kept-append [] more kept others = others
kept-append (limit ∷ rest) more kept others = (kept.0, kept-append rest more kept.1 others)

-- of the code's refusals
pub refusal-before : (count : ℕ) (first more : List Limit) (refused : Refusal) → IsRefusalOf count first refused → IsRefusalOf count (first ++ more) refused
refusal-before count first more (Refused input why) is = (is.0, refused-before first more (Refused input why) is.1)
refusal-before count first more OutOfMemory is = tt

pub refusal-after : (count : ℕ) (first more : List Limit) (refused : Refusal) → AreKept first → IsRefusalOf count more refused → IsRefusalOf count (first ++ more) refused
refusal-after count first more (Refused input why) kept is = (is.0, refused-after first more kept ∙ is.1)
refusal-after count first more OutOfMemory kept is = tt

-- ---- what a call refuses exactly if a count is more than it may be

pub few-unless : {X E : Type 0} (x : X) (fault : E) (count most : ℕ) → (most < count → ◌≡◌ {A = Result X E} (Ok x) (Err fault)) → count ≤ most
few-unless x fault count most refuses = elim (cases_lt most count) [ inl many ↦ absurd (let z = refuses many in cc) | inr few ↦ few ]

pub few-by : {X E : Type 0} (fault : ℕ → E) (count most : ℕ) (x : X)
    → ((n : ℕ) → (◌≡◌ {A = Result X E} (Ok x) (Err (fault n))) ↔ ((count ≡ n) × (most < n))) → count ≤ most
few-by fault count most x exact = few-unless x (fault count) count most (λ many. (exact count).1 (refl, many))
