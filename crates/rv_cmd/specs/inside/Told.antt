-- What a check by sums over paths finds of two networks, as it is made.
use Rattle.std.specs.Prelude.{ℕ, true, false, Result, Ok, Err}
use Rattle.rv_check.specs.declared.checking.Verdict.TheVariants as verdict
use Rattle.rv_sums.specs.declared.by_paths.TheConstants.{MOST_STEPS, MOST_TERMS}
use Rattle.rv_sums.specs.declared.finding.Finding.{Finding}
use Rattle.rv_sums.specs.declared.finding.Finding.TheVariants.{Differs, Paths, Same, Steps, Terms}
use Rattle.rv_faults.specs.declared.fault.InputFault.TheVariants.{Undecided}
use Rattle.rv_faults.specs.declared.fault.Measure.TheVariants as measure
use Rattle.rv_faults.specs.declared.fault.Refusal.{Refusal}
use Rattle.rv_faults.specs.declared.fault.Refusal.TheVariants.{Refused}
use Rattle.rv_cmd.specs.declared.product.Made.{Made}
use Rattle.rv_cmd.specs.declared.product.Product.TheVariants.{Verdict, Witness}

abbrev pub told_finding : ℕ → Finding → Result Made Refusal
told_finding lines Same = Ok (record { product = Verdict lines verdict.Same; differs = false })
told_finding lines (Differs word) = Ok (record { product = Witness lines word; differs = true })
told_finding lines Terms = Err (Refused 1 (Undecided MOST_TERMS measure.Terms))
told_finding lines Steps = Err (Refused 1 (Undecided MOST_STEPS measure.Steps))
told_finding lines (Paths left) = Err (Refused 1 (Undecided left measure.PathBits))
