-- What `demo` writes: the numbers of the steps.
use Rattle.std.proofs.Common.{◌≡◌, ℕ, List, [], Result, Ok, refl, ap, sym, subst}
use Rattle.rv_io.specs.Files.{FilesView}
use Rattle.rv_flow.specs.Summary.{IsSmall, summary_of}
use Rattle.rv_flow.specs.declared.summary.Summary as summary
use Rattle.rv_words.specs.declared.asked.Settings.{Settings}
use Rattle.rv_words.specs.declared.command.Command.{Command}
use Rattle.rv_words.specs.declared.command.Command.TheVariants.{Demo}
use Rattle.rv_faults.specs.declared.fault.Unmade.{Unmade}
use Rattle.rv_cmd.specs.declared.product.Made.{Made}
use Rattle.rv_cmd.specs.declared.product.Product.TheVariants.{Summary}
use Rattle.rv_cmd.specs.Commands.{row_for, row_of}
use Rattle.rv_cmd.specs.Commands.Demo.{TellsSummary, demo_row, summary_text}
use Rattle.rv_cmd.specs.Names.{names_read}
use Rattle.rv_cmd.specs.inside.Making.{Makes, MakesBy}
use Rattle.rv_cmd.specs.inside.Products.{alike}
use Rattle.rv_cmd.proofs.inside.Made.{makes-none}

pub demo-answers : (lines seed : ℕ) (found : summary.Summary) (view : FilesView) → found ≡ summary_of lines seed → IsSmall found
    → Makes (demo_row lines seed) [] view view (Ok (alike (Summary found)))
demo-answers lines seed found view is small =
    makes-none (summary_text (summary_of lines seed)) (TellsSummary lines seed) view (Summary found) (ap summary_text is) (record { is = refl; small = subst IsSmall is small })

-- by the settings, which name no input
pub demo-makes : (settings : Settings) (view : FilesView) (result : Result Made Unmade) → settings.command ≡ Demo → names_read settings ≡ []
    → Makes (demo_row settings.lines settings.seed) [] view view result → MakesBy (row_of settings) (names_read settings) view view result
demo-makes settings view result is alone makes =
    let By : Command → Type 0 = λ command. MakesBy (row_for command settings) [] view view result in
    let At : List (List ℕ) → Type 0 = λ names. MakesBy (row_of settings) names view view result in
    subst At (sym alone) (subst By (sym is) makes)
