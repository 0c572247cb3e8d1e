-- The theorem, of what the two functions promise. Assumes nothing.
use mathlib.Core.Path.{◌≡◌, refl, sym, ap}
use Rattle.std.specs.Prelude.{Result, Ok, Err}
use Rattle.rules.specs.declared.PathError.{PathError}
use Rattle.rules.specs.declared.PathRecord.{PathRecord}
use Rattle.rules.specs.Build.{BuildAnswer, build_answered}
use Rattle.rules.proofs.Questions.{number_decides, refused_not_zero}
use Rattle.theorem_builds.specs.Previews.{PreviewIsTheBuild}
use Rattle.theorem_builds.proofs.Previews.{preview_is_the_build}
use Rattle.build_previewed.proofs.preview_then_build.Goals as goal

-- number and record tell which answer it was
same_answer : (a b : Result PathRecord PathError) → build_answered a ≡ build_answered b → a ≡ b
same_answer (Ok p) (Ok q) e = ap Ok (ap (λ (r : BuildAnswer). r.path) e)
same_answer (Ok p) (Err f) e = absurd (refused_not_zero f (sym (ap (λ (r : BuildAnswer). r.number) e)))
same_answer (Err f) (Ok q) e = absurd (refused_not_zero f (ap (λ (r : BuildAnswer). r.number) e))
same_answer (Err f) (Err g) e = ap Err (number_decides f g (ap (λ (r : BuildAnswer). r.number) e))

pub returns : goal.returns
unfolding PreviewIsTheBuild
returns c =
    let told = c.preview-told.ensures in
    let built = c.from_waypoints_view-answer.ensures in
    record {
      fact = (told, built);
      told_value = same_answer _ _ (preview_is_the_build _ _ _ told _ _ _ refl built).0;
    }
