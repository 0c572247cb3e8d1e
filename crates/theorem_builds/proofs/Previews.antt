-- A preview is the build's answer, and tells what becomes of the buffer. Assumes nothing.
use mathlib.Core.Path.{sym, ap, ◌∙◌}
use mathlib.Core.Bool.{cond}
use lib.Dec.{eqb}
use Rattle.rules.specs.Build.{BuildAnswer, build_answer, table, buffer_after}
use Rattle.theorem_builds.specs.Previews.{PreviewIsTheBuild}

pub preview_is_the_build : PreviewIsTheBuild
unfolding PreviewIsTheBuild build_answer buffer_after
preview_is_the_build b cells told p before after answer l (answer-is, after_is) =
    let told_is = p ∙ ap (build_answer b) (sym l) in
    (told_is ∙ sym answer-is, after_is ∙ ap (λ (r : BuildAnswer). cond (eqb r.number 0) (table b) before) (sym told_is))
