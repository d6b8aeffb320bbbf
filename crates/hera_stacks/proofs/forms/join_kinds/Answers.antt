use Rattle.std.proofs.Common.{sym, ap, ◌∙◌}
use Rattle.std.proofs.lemmas.Result.{IfOk-weaker}
use Rattle.hera_meaning.specs.Relations.{lacking}
use Rattle.hera_meaning.specs.Forms.{kinds_of}
use Rattle.hera_stacks.specs.Flat.{numbered}
use Rattle.hera_stacks.proofs.Flattened.{kinds_are, numbered_append}
use Rattle.hera_stacks.proofs.forms.join_kinds.Goals as goal

pub returns : goal.returns
returns c =
    let left = kinds_of c.args.left.now in
    let others = kinds_of (lacking c.args.left.now c.args.right.now) in
    IfOk-weaker c.and_lacking.result _ _ (λ x h. kinds_are x _ (h ∙ ap (λ n. numbered n others) (c.in_ok-kinds.ensures ∙ ap (λ n. numbered n left) c.no_kinds.ensures) ∙ sym (numbered_append 0 left others))) c.and_lacking.ensures
